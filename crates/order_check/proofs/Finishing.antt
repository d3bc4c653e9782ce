-- Accesses that differ only in their sources have the same outcomes.
use Rattle.std.proofs.Common.{◌≡◌, ◌==◌, ℕ, ◌<◌, cond, ◌&&◌, Option, Some, None, is_some, List, [], ◌∷◌, refl, ap, sym, ◌∙◌, subst}
use Rattle.std.specs.Prelude.{Result, Ok, Err, IfOk}
use Rattle.std.proofs.lemmas.Bool.{false≢true}
use mathlib.Core.Logic.{inl, inr}
use Rattle.order_check.specs.declared.access.Access.{Access}
use Rattle.order_check.specs.declared.outcome.Outcome.{Outcome}
use Rattle.order_check.specs.declared.outcome.Outcome.TheVariants.{Order, Unwritten, Impossible, Cycle, Ambiguous}
use Rattle.order_check.specs.Footprints.{Cell}
use Rattle.order_check.specs.Forces.{Forces}
use Rattle.order_check.specs.Graphs.{IsCycle}
use Rattle.order_check.specs.Orders.{IsOrderOf, HasNoOrder}
use Rattle.order_check.specs.Tables.{Version, DoesWrite, DoesBeside}
use Rattle.order_check.specs.Joined.{NeedsAt, AreDistinct, AreSourced}
use Rattle.order_check.specs.Outcomes.{cell_of, footprints_of, ArePlain, AreAccesses, IsTxn, IsOutcome}
use Rattle.order_check.specs.Choices.{AreSame, IsUnwritten}
use Rattle.order_check.proofs.Choosing.{twin, writes_there}
use Rattle.order_check.proofs.Cycles.{no_writer}
use Rattle.order_check.proofs.Meanings.{comes_from, foot_there}

same_sym : (xs ys : List Access) → AreSame xs ys → AreSame ys xs
same_sym [] [] same = tt
same_sym [] (y ∷ ys) same = same
same_sym (x ∷ xs) [] same = same
same_sym (x ∷ xs) (y ∷ ys) same = (sym (ap (λ (z : Access). record z { source = x.source }) same.0), same_sym xs ys same.1)

feet_at : (xs ys : List Access) → AreSame xs ys → (t k : ℕ) → footprints_of xs t k ≡ footprints_of ys t k
feet_at [] [] same t k = refl
feet_at [] (y ∷ ys) same t k = absurd same
feet_at (x ∷ xs) [] same t k = absurd same
feet_at (x ∷ xs) (y ∷ ys) same t k =
    ap (λ rest. cond ((x.txn == t) && (x.key == k)) (Some (cell_of x)) rest) (feet_at xs ys same.1 t k)
    ∙ ap (λ (z : Access). cond ((z.txn == t) && (z.key == k)) (Some (cell_of z)) (footprints_of ys t k)) (sym same.0)

feet_same : (xs ys : List Access) → AreSame xs ys → footprints_of ys ≡ footprints_of xs
feet_same xs ys same = λ i t k. sym (feet_at xs ys same t k) i

distinct_same : (xs ys : List Access) → AreSame xs ys → AreDistinct xs → AreDistinct ys
distinct_same [] [] same distinct = tt
distinct_same [] (y ∷ ys) same distinct = absurd same
distinct_same (x ∷ xs) [] same distinct = tt
distinct_same (x ∷ xs) (y ∷ ys) same distinct = (
  λ a is_in txn key.
      let o = twin ys xs a (same_sym xs ys same.1) is_in in
      distinct.0 o.other o.is_among (sym (ap (λ (z : Access). z.txn) same.0) ∙ txn ∙ sym o.txn_is) (sym (ap (λ (z : Access). z.key) same.0) ∙ key ∙ sym o.key_is),
  distinct_same xs ys same.1 distinct.1,
)

pub accesses_same : (count : ℕ) (xs ys : List Access) → ArePlain count xs → AreSame xs ys → AreSourced ys → AreAccesses count ys
accesses_same count xs ys plain same sourced = record {
  below = λ a is_in. let o = twin ys xs a (same_sym xs ys same) is_in in subst (λ t. t < count) o.txn_is (plain.below o.other o.is_among);
  distinct = distinct_same xs ys same plain.distinct;
  sourced = sourced;
}

beside_same : (xs ys : List Access) (q : Version) (t : ℕ) → AreSame ys xs → DoesBeside (DoesWrite q) ys t → DoesBeside (DoesWrite q) xs t
beside_same xs ys q t same b =
    let o = twin ys xs b.by same b.is_among in
    record { by = o.other; is_among = o.is_among; does_it = (o.key_is ∙ b.does_it.0, o.left_is ∙ b.does_it.1, λ equal. b.does_it.2 (sym o.need_is ∙ equal ∙ o.left_is)); differs = λ equal. b.differs (sym o.txn_is ∙ equal) }

needs_same : (xs ys : List Access) (t : ℕ) (q : Version) → AreSame xs ys → NeedsAt ys t q → NeedsAt xs t q
needs_same xs ys t q same needs =
    let o = twin ys xs needs.by (same_sym xs ys same) needs.is_among in
    record { by = o.other; is_among = o.is_among; txn_is = o.txn_is ∙ needs.txn_is; key_is = o.key_is ∙ needs.key_is; need_is = o.need_is ∙ needs.need_is }

unwritten_same : (xs ys : List Access) (a : Access) → AreSame xs ys → IsUnwritten ys a → IsUnwritten xs a
unwritten_same xs ys a same is =
    record {
      needs = needs_same xs ys a.txn (a.key, a.need) same is.needs;
      some = is.some;
      none = λ b is_in w.
          let t = twin xs ys b same is_in in
          is.none t.other t.is_among (t.key_is ∙ w.0, t.left_is ∙ w.1, λ equal. w.2 (sym t.need_is ∙ equal ∙ t.left_is));
    }

pub outcome_same : (count : ℕ) (since : ℕ → ℕ) (xs ys : List Access) (outcome : Outcome) → AreSame xs ys → IsOutcome count since ys outcome → IsOutcome count since xs outcome
outcome_same count since xs ys (Order ts) same is = subst (λ footprints. IsOrderOf (IsTxn count) footprints since ts.items) (feet_same xs ys same) is
outcome_same count since xs ys (Unwritten a) same is = (unwritten_same xs ys a same is.0, subst (λ footprints. HasNoOrder (IsTxn count) footprints since) (feet_same xs ys same) is.1)
outcome_same count since xs ys (Impossible a) same is = (needs_same xs ys a.txn (a.key, a.need) same is.0, subst (λ footprints. HasNoOrder (IsTxn count) footprints since) (feet_same xs ys same) is.1)
outcome_same count since xs ys (Cycle ls) same is = (subst (λ footprints. IsCycle (Forces footprints since) ls.items) (feet_same xs ys same) is.0, subst (λ footprints. HasNoOrder (IsTxn count) footprints since) (feet_same xs ys same) is.1)
outcome_same count since xs ys (Ambiguous l) same is =
    let back = same_sym xs ys same in (
      is.0,
      writes_there ys xs (l.key, l.value) is.0 back is.1,
      elim is.2 [
        | inl absent ↦ inl absent
        | inr other ↦ inr (beside_same xs ys (l.key, l.value) is.0 back other)
      ],
    )

-- A value that is needed and that nobody writes.
pub unwritten : (count : ℕ) (since : ℕ → ℕ) (accesses : List Access) (a : Access) → ArePlain count accesses → IsUnwritten accesses a → HasNoOrder (IsTxn count) (footprints_of accesses) since
unwritten count since accesses a plain is = at a.need refl
  where
    at : (v : Option ℕ) → a.need ≡ v → HasNoOrder (IsTxn count) (footprints_of accesses) since
    at None none = absurd (false≢true (sym (ap is_some none) ∙ is.some))
    at (Some n) need_is =
        let b = is.needs.by in
        no_writer (IsTxn count) (footprints_of accesses) since b.txn b.key n (plain.below b is.needs.is_among) (record { cell = cell_of b; there = foot_there accesses b plain.distinct is.needs.is_among; need_is = is.needs.need_is ∙ need_is })
        (λ t w.
        let f = comes_from accesses t b.key w.cell w.there in
        let left_is : f.by.left ≡ Some n = ap (λ (c : Cell). c.now) f.cell_is ∙ w.now_is in
        is.none f.by f.is_among (f.key_is ∙ is.needs.key_is, left_is ∙ sym need_is, λ same. w.changed (sym (ap (λ (c : Cell). c.need) f.cell_is) ∙ same ∙ left_is)))

pub if_ok_more : {A E : Type 0} (P Q : A → Type 0) (r : Result A E) → ((a : A) → P a → Q a) → IfOk r P → IfOk r Q
if_ok_more P Q (Ok a) to is = to a is
if_ok_more P Q (Err e) to is = tt
