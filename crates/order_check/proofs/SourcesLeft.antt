-- Shows which sources of a value are left, because each change of its key is one of them or is
-- excluded.
use Rattle.std.proofs.Common.{◌≡◌, ◌≢◌, ◌==◌, ℕ, ◌+◌, ◌<◌, ◌≤◌, length, take, get_or, not, Bool, false, List, [], ◌∷◌, ◌++◌, Option, Some, None, true, refl, ap, sym, ◌∙◌, subst, arith}
use Rattle.std.specs.Prelude.{nat_eq}
use Rattle.std.specs.Option.{option_eq}
use Rattle.std.proofs.lemmas.Bool.{and_from, and_parts, cases_eq, eq-eqb, eqb-true, false≢true}
use Rattle.std.proofs.lemmas.List.{take_more, take_all}
use mathlib.Core.Logic.{◌⊎◌, inl, inr, ⊎_elim}
use Rattle.txn_trace.proofs.Now.{same_option, same_is}
use Rattle.order_check.specs.declared.access.Access.{Access}
use Rattle.order_check.specs.declared.known.Known.{Known}
use Rattle.order_check.specs.declared.exclusion.Sources.{Sources}
use Rattle.order_check.specs.declared.exclusion.Sources.TheVariants.{Nobody, Only, Several}
use Rattle.order_check.specs.Dependencies.{Needs, Writes}
use Rattle.order_check.specs.Exclusions.{AreChanges, ChangesKey, ComesFirst, HasOnly, IsCertain, IsExcluded, IsLast, IsLeft, IsNarrowed, StaysBeside, changes_key, is_between, is_late}
use Rattle.order_check.specs.Footprints.{Cell, no_values}
use Rattle.order_check.specs.Joined.{DoesAt}
use Rattle.order_check.specs.Known.{AreKnown, Precedes, is_known}
use Rattle.order_check.specs.Lists.{IsIn, place}
use Rattle.order_check.specs.Orders.{IsOrderOf, HasNoOrder}
use Rattle.order_check.specs.Outcomes.{ArePlain, IsTxn, cell_of, footprints_of}
use Rattle.order_check.specs.Tables.{IsAmong, DoesWrite}
use Rattle.order_check.proofs.Latest.{latest}
use Rattle.order_check.proofs.Noting.{among_cases, among_last, among_left}
use Rattle.order_check.proofs.Meanings.{comes_from, foot_there}
use Rattle.order_check.proofs.Values.{cases_option}
use Rattle.order_check.proofs.Versions.{Changes}

module _ (count : ℕ) (since : ℕ → ℕ) (accesses : List Access) (a : Access) where
  narrowed_with : (seen : List Access) (x : Access) (old new : Sources) → IsNarrowed count since accesses a seen old
      → ((s : Option ℕ) → IsLeft old s → IsLeft new s) → (x.left ≡ a.need → IsExcluded count since accesses a (Some x.txn) ⊎ IsLeft new (Some x.txn)) → IsNarrowed count since accesses a (seen ++ x ∷ []) new
  narrowed_with seen x old new was more last = record {
    first = ⊎_elim (λ e. inl e) (λ l. inr (more None l)) was.first;
    rest = λ b is_in left_is. elim (among_cases b x seen is_in) [
      | inl early ↦ ⊎_elim (λ e. inl e) (λ l. inr (more (Some b.txn) l)) (was.rest b early left_is)
      | inr here ↦ subst (λ (y : Access). y.left ≡ a.need → IsExcluded count since accesses a (Some y.txn) ⊎ IsLeft new (Some y.txn)) here last left_is
    ];
  }

  -- A change that is no source.
  pub narrowed_same : (seen : List Access) (x : Access) (left : Sources) → IsNarrowed count since accesses a seen left → (x.left ≡ a.need → IsExcluded count since accesses a (Some x.txn)) → IsNarrowed count since accesses a (seen ++ x ∷ []) left
  narrowed_same seen x left was never = narrowed_with seen x left left was (λ s l. l) (λ is. inl (never is))

  -- The first one that is, and a further one.
  pub narrowed_only : (seen : List Access) (x : Access) → IsNarrowed count since accesses a seen Nobody → IsNarrowed count since accesses a (seen ++ x ∷ []) (Only (Some x.txn))
  narrowed_only seen x was = narrowed_with seen x Nobody (Only (Some x.txn)) was (λ s l. absurd l) (λ is. inr refl)

  pub narrowed_several : (seen : List Access) (x : Access) (left : Sources) → IsNarrowed count since accesses a seen left → IsNarrowed count since accesses a (seen ++ x ∷ []) Several
  narrowed_several seen x left was = narrowed_with seen x left Several was (λ s l. tt) (λ is. inr tt)

  pub narrowed_begin : (left : Sources) → IsExcluded count since accesses a None ⊎ IsLeft left None → IsNarrowed count since accesses a [] left
  narrowed_begin left first = record { first = first; rest = λ b is_in left_is. absurd is_in }

  excluded : (changes : List Access) (left : Sources) → AreChanges accesses a.key changes → IsNarrowed count since accesses a changes left → (source : Option ℕ) → (ts : List ℕ) → IsOrderOf (IsTxn count) (footprints_of accesses) since ts → IsLast accesses ts a source → ⊥ ⊎ IsLeft left source
  excluded changes left all is None ts order last = ⊎_elim (λ e. inl (e ts order last)) (λ l. inr l) is.first
  excluded changes left all is (Some w) ts order last =
      let d = last.0 in
      let same = ap (λ t. Some t) d.txn_is in
      ⊎_elim (λ e. inl (e ts order (subst (IsLast accesses ts a) (sym same) last))) (λ l. inr (subst (IsLeft left) same l))
      (is.rest d.by (all.all d.by d.is_among (d.does_it.0, λ equal. d.does_it.2 equal)) d.does_it.1)

  -- After all changes, what is not left is excluded.
  pub narrowed_end : (changes : List Access) (left : Sources) → AreChanges accesses a.key changes → IsNarrowed count since accesses a changes left → HasOnly count since accesses a left
  narrowed_end changes Nobody all is = λ source ts order last. elim (excluded changes Nobody all is source ts order last) [
    | inl never ↦ never
    | inr never ↦ never
  ]
  narrowed_end changes (Only s) all is = λ source other ts order last. elim (excluded changes (Only s) all is source ts order last) [
    | inl never ↦ never
    | inr same ↦ other same
  ]
  narrowed_end changes Several all is = tt

module _ (count : ℕ) (since : ℕ → ℕ) (accesses : List Access) where
  module _ (plain : ArePlain count accesses) (a : Access) (is_in : IsAmong a accesses) where
    -- Each order has a source.
    module _ (ts : List ℕ) (order : IsOrderOf (IsTxn count) (footprints_of accesses) since ts) where
      in_order : (b : Access) → IsAmong b accesses → IsIn b.txn ts
      in_order b in_b = order.each.all b.txn (plain.below b in_b)

      needs : Needs (footprints_of accesses a.txn) a.key a.need
      needs = record { cell = cell_of a; there = foot_there accesses a plain.distinct is_in; need_is = refl }

      changes_at : (b : Access) → IsAmong b accesses → ChangesKey a.key b → Changes (footprints_of accesses b.txn) a.key
      changes_at b in_b changes = record {
        cell = cell_of b;
        there = subst (λ k. footprints_of accesses b.txn k ≡ Some (cell_of b)) changes.0 (foot_there accesses b plain.distinct in_b);
        changed = changes.1;
      }

      writes_back : (t : ℕ) → Writes (footprints_of accesses t) a.key a.need → DoesAt (DoesWrite (a.key, a.need)) accesses t
      writes_back t w =
          let f = comes_from accesses t a.key w.cell w.there in
          let left_is : f.by.left ≡ a.need = ap (λ (c : Cell). c.now) f.cell_is ∙ w.now_is in
          record { by = f.by; is_among = f.is_among; does_it = (f.key_is, left_is, λ same. w.changed (sym (ap (λ (c : Cell). c.need) f.cell_is) ∙ same ∙ left_is)); txn_is = f.txn_is }

      source_in : (s : Option ℕ) × IsLast accesses ts a s
      source_in = elim (latest (footprints_of accesses) a.key a.need a.txn no_values ts order.runs order.each.apart (in_order a is_in) needs) [
        | inl first ↦ (None, (sym first.0, λ b in_b changes other. first.1 b.txn (in_order b in_b) (changes_at b in_b changes) other))
        | inr last ↦ (Some last.txn, (writes_back last.txn last.writes, last.before, λ b in_b changes not_w not_u. last.others b.txn (in_order b in_b) (changes_at b in_b changes) not_w not_u))
      ]

    -- If all sources are excluded, there is no order.
    pub none_left : HasOnly count since accesses a Nobody → HasNoOrder (IsTxn count) (footprints_of accesses) since
    none_left excluded ts order = let s = source_in ts order in excluded s.0 ts order s.1

    -- If all but one are excluded, it is the source in every order.
    pub one_left : (s : Option ℕ) → HasOnly count since accesses a (Only s) → IsCertain count since accesses a s
    one_left s excluded ts order =
        let found = source_in ts order in
        elim (cases_option found.0 s) [
          | inl same ↦ subst (IsLast accesses ts a) same found.1
          | inr other ↦ absurd (excluded found.0 other ts order found.1)
        ]

  module _ (a : Access) (known : Known) (are : AreKnown count since accesses known) where
    -- A source that comes after the reader.
    pub too_late : (source : Option ℕ) → is_late known.rows.items source a.txn ≡ true → IsExcluded count since accesses a source
    too_late None late ts order last = false≢true late
    too_late (Some w) late ts order last = let after = are a.txn w late ts order in let before = last.1 in absurd (omega arith)

    -- A source after which the key changes again before the reader.
    pub overwritten : (source : Option ℕ) (b : Access) → IsAmong b accesses → ChangesKey a.key b → is_between known.rows.items source b.txn a.txn ≡ true → IsExcluded count since accesses a source
    overwritten None b in_b changes between ts order last =
        let early = are b.txn a.txn between ts order in
        elim (cases_eq b.txn a.txn) [
          | inl same ↦ let p = ap (λ t. place t ts) same in absurd (omega arith)
          | inr other ↦ let late = last.1 b in_b changes other in absurd (omega arith)
        ]
    overwritten (Some w) b in_b changes between ts order last =
        let parts = and_parts (is_known known.rows.items w b.txn) (is_known known.rows.items b.txn a.txn) between in
        let late = are w b.txn parts.0 ts order in
        let early = are b.txn a.txn parts.1 ts order in
        elim (cases_eq b.txn w) [
          | inl same ↦ let p = ap (λ t. place t ts) same in absurd (omega arith)
          | inr not_w ↦ elim (cases_eq b.txn a.txn) [
            | inl same ↦ let p = ap (λ t. place t ts) same in absurd (omega arith)
            | inr not_a ↦ elim (last.2 b in_b changes not_w not_a) [
              | inl before_w ↦ absurd (omega arith)
              | inr after_a ↦ absurd (omega arith)
            ]
          ]
        ]

  module _ (a : Access) where
    -- The source comes before the reader, and no change comes between them.
    pub source_first : (s : Option ℕ) → IsCertain count since accesses a s → ComesFirst count since accesses s a.txn
    source_first None certain = tt
    source_first (Some w) certain = λ ts order. (certain ts order).1

    pub none_between : (s : Option ℕ) (b : Access) → IsCertain count since accesses a s → IsAmong b accesses → ChangesKey a.key b → StaysBeside count since accesses s b.txn a.txn
    none_between None b certain in_b changes ts order = λ other. (certain ts order).1 b in_b changes other
    none_between (Some w) b certain in_b changes ts order = λ not_w not_a. (certain ts order).2 b in_b changes not_w not_a

  -- Who comes after the source comes after the reader, and who comes before the reader comes before
  -- the source.
  pub reader_first : (w t reader : ℕ) → StaysBeside count since accesses (Some w) t reader → t ≢ w → t ≢ reader → Precedes count since accesses w t → Precedes count since accesses reader t
  reader_first w t reader beside not_w not_r after ts order =
      let late = after ts order in
      elim (beside ts order not_w not_r) [
        | inl early ↦ absurd (omega arith)
        | inr first ↦ first
      ]

  pub before_source : (w t reader : ℕ) → StaysBeside count since accesses (Some w) t reader → t ≢ w → t ≢ reader → Precedes count since accesses t reader → Precedes count since accesses t w
  before_source w t reader beside not_w not_r before ts order =
      let early = before ts order in
      elim (beside ts order not_w not_r) [
        | inl first ↦ first
        | inr late ↦ absurd (omega arith)
      ]

-- Whether an access changes the key.
pub change_is : (k : ℕ) (a : Access) → changes_key k a ≡ true → ChangesKey k a
change_is k a is =
    let parts = and_parts (a.key == k) (not (option_eq nat_eq a.need a.left)) is in
    (eqb-true a.key k parts.0, λ same. false≢true (sym (ap not (same_is a.need a.left same)) ∙ parts.1))

is_change : (k : ℕ) (a : Access) → ChangesKey k a → changes_key k a ≡ true
is_change k a changes = and_from (a.key == k) (not (option_eq nat_eq a.need a.left)) (eq-eqb a.key k changes.0) (at (option_eq nat_eq a.need a.left) refl)
  where
    at : (b : Bool) → option_eq nat_eq a.need a.left ≡ b → not b ≡ true
    at true is = absurd (changes.1 (same_option a.need a.left is))
    at false is = refl

-- The changes after one more access.
pub changes_more : (accesses : List Access) (i : ℕ) (d : Access) (k : ℕ) (changes changes' : List Access) → i < length accesses → AreChanges (take i accesses) k changes → changes_key k (get_or accesses i d) ≡ true → changes' ≡ changes ++ get_or accesses i d ∷ []
    → AreChanges (take (i + 1) accesses) k changes'
changes_more accesses i d k changes changes' below were is changes_is =
    let x = get_or accesses i d in
    let cut = take_more accesses i d below in
    record {
      all = λ a is_in does. subst (IsAmong a) (sym changes_is) (elim (among_cases a x (take i accesses) (subst (IsAmong a) cut is_in)) [
        | inl early ↦ among_left a changes (x ∷ []) (were.all a early does)
        | inr here ↦ subst (λ b. IsAmong b (changes ++ x ∷ [])) here (among_last x changes)
      ]);
      only = λ a is_in. elim (among_cases a x changes (subst (IsAmong a) changes_is is_in)) [
        | inl early ↦ let o = were.only a early in (subst (IsAmong a) (sym cut) (among_left a (take i accesses) (x ∷ []) o.0), o.1)
        | inr here ↦ (subst (IsAmong a) (sym cut) (subst (λ b. IsAmong b (take i accesses ++ x ∷ [])) here (among_last x (take i accesses))), subst (ChangesKey k) here (change_is k x is))
      ];
    }

pub changes_same : (accesses : List Access) (i : ℕ) (d : Access) (k : ℕ) (changes : List Access) → i < length accesses → AreChanges (take i accesses) k changes → changes_key k (get_or accesses i d) ≡ false → AreChanges (take (i + 1) accesses) k changes
changes_same accesses i d k changes below were is =
    let x = get_or accesses i d in
    let cut = take_more accesses i d below in
    record {
      all = λ a is_in does. elim (among_cases a x (take i accesses) (subst (IsAmong a) cut is_in)) [
        | inl early ↦ were.all a early does
        | inr here ↦ absurd (false≢true (sym is ∙ ap (changes_key k) here ∙ is_change k a does))
      ];
      only = λ a is_in. let o = were.only a is_in in (subst (IsAmong a) (sym cut) (among_left a (take i accesses) (x ∷ []) o.0), o.1);
    }

pub changes_all : (accesses : List Access) (i k : ℕ) (changes : List Access) → length accesses ≤ i → AreChanges (take i accesses) k changes → AreChanges accesses k changes
changes_all accesses i k changes end were = subst (λ xs. AreChanges xs k changes) (take_all i accesses end) were

pub no_changes : (k : ℕ) → AreChanges [] k []
no_changes k = record { all = λ a is_in does. absurd is_in; only = λ a is_in. absurd is_in }
