-- Shows that the transactions that are kept have all their entries in the kept history, because a
-- caller that is in a kept transaction is in the same one there.
use Rattle.std.proofs.Common.{◌≡◌, ℕ, Bool, true, false, cond, not, ◌||◌, ◌==◌, List, [], ◌∷◌, map, refl, ap, sym, ◌∙◌, Some, None, Option}
use Rattle.std.specs.List.{filter, filter_map, fold, cons_option}
use Rattle.std.proofs.lemmas.Bool.{false≢true, eq-eqb}
use Rattle.txn_words.specs.declared.entry.Entry.{Entry}
use Rattle.txn_words.specs.declared.entry.Entry.TheVariants.{Began, Aborted}
use Rattle.txn_words.specs.Map.{empty}
use Rattle.txn_trace.specs.History.{Line, txn_after, lines_from, lines_of, is_of, of, txns_of, ends_in, is_committed, is_aborted, is_open, commits, open_txns}
use Rattle.txn_words.specs.Kinds.{caller_of, is_began, is_commit, is_abort}
use Rattle.txn_trace.specs.Alone.{map_after}
use Rattle.txn_trace.specs.Serial.{serial}
use Rattle.txn_trace.specs.Now.{open_maps, now}
use Rattle.txn_trace.proofs.Table.{overlaid}
use Rattle.txn_trace.proofs.Lists.{filter_within, fold_filter, map_filter}
use Rattle.txn_trace.proofs.Pushes.{of_is}

-- The lines whose transaction passes the test `keep`. `kept` gives the entries of these lines.
abbrev pub kept_lines : (Option ℕ → Bool) → (ℕ → Option ℕ) → List Entry → List Line
kept_lines keep before h = filter (λ line. keep line.txn) (lines_from before h)

abbrev pub kept : (Option ℕ → Bool) → (ℕ → Option ℕ) → List Entry → List Entry
kept keep before h = map (λ line. line.entry) (kept_lines keep before h)

-- Each caller that is in a kept transaction is in the same transaction in the kept history.
abbrev pub Agree : (Option ℕ → Bool) → (ℕ → Option ℕ) → (ℕ → Option ℕ) → Type 0
Agree keep before there = (c : ℕ) → keep (before c) ≡ true → there c ≡ before c

agree_both : (keep : Option ℕ → Bool) (before there : ℕ → Option ℕ) (e : Entry) → Agree keep before there → Agree keep (txn_after before e) (txn_after there e)
agree_both keep before there (Began c t) same x is =
    elim (c == x) as (λ b. keep (cond b (Some t) (before x)) ≡ true → cond b (Some t) (there x) ≡ cond b (Some t) (before x)) [
      | true ↦ λ k. refl
      | false ↦ λ k. same x k
    ] is
agree_both keep before there _ same x is = same x is

agree_left : (keep : Option ℕ → Bool) (before there : ℕ → Option ℕ) (e : Entry) → Agree keep before there → keep (txn_after before e (caller_of e)) ≡ false → Agree keep (txn_after before e) there
agree_left keep before there (Began c t) same out x is =
    let gone : keep (Some t) ≡ false = rw (eq-eqb c c refl) at out in
    elim (c == x) as (λ b. keep (cond b (Some t) (before x)) ≡ true → there x ≡ cond b (Some t) (before x)) [
      | true ↦ λ k. absurd (false≢true (sym gone ∙ k))
      | false ↦ λ k. same x k
    ] is
agree_left keep before there _ same out x is = same x is

-- If `Agree` holds before the first entry, each kept entry belongs to the same transaction in the
-- kept history as in the whole history.
pub lines_from-kept : (keep : Option ℕ → Bool) (before there : ℕ → Option ℕ) → Agree keep before there → (h : List Entry) → lines_from there (kept keep before h) ≡ kept_lines keep before h
lines_from-kept keep before there same [] = refl
lines_from-kept keep before there same (e ∷ h) =
    let now = txn_after before e in
    elim (keep (now (caller_of e))) as (λ b. keep (now (caller_of e)) ≡ b →
    lines_from there (map (λ line. line.entry) (cond b (record { txn = now (caller_of e); entry = e } ∷ kept_lines keep now h) (kept_lines keep now h)))
    ≡ cond b (record { txn = now (caller_of e); entry = e } ∷ kept_lines keep now h) (kept_lines keep now h)) [
      | true ↦ λ is i. record { txn = agree_both keep before there e same (caller_of e) is i; entry = e } ∷ lines_from-kept keep now (txn_after there e) (agree_both keep before there e same) h i
      | false ↦ λ is. lines_from-kept keep now there (agree_left keep before there e same is) h
    ] refl

-- Either all lines of a transaction are kept, or none of them.
pub filter_of_kept : (keep : Option ℕ → Bool) (t : ℕ) (lines : List Line) → filter (is_of t) (filter (λ line. keep line.txn) lines) ≡ cond (keep (Some t)) (filter (is_of t) lines) []
filter_of_kept keep t lines =
    elim (keep (Some t)) as (λ b. keep (Some t) ≡ b → filter (is_of t) (filter (λ line. keep line.txn) lines) ≡ cond b (filter (is_of t) lines) []) [
      | true ↦ λ is. filter_within (is_of t) (is_of t) (λ line. keep line.txn) (λ l k. refl) (λ l k. ap keep (of_is t l.txn k) ∙ is) lines
      | false ↦ λ is. none is lines
    ] refl
  where
    none : keep (Some t) ≡ false → (ls : List Line) → filter (is_of t) (filter (λ line. keep line.txn) ls) ≡ []
    none is [] = refl
    none is (l ∷ ls) =
        elim (keep l.txn) as (λ b. keep l.txn ≡ b → filter (is_of t) (cond b (l ∷ filter (λ line. keep line.txn) ls) (filter (λ line. keep line.txn) ls)) ≡ []) [
          | true ↦ λ k. elim (is_of t l) as (λ b. is_of t l ≡ b → cond b (l ∷ filter (is_of t) (filter (λ line. keep line.txn) ls)) (filter (is_of t) (filter (λ line. keep line.txn) ls)) ≡ []) [
            | true ↦ λ o. absurd (false≢true (sym is ∙ sym (ap keep (of_is t l.txn o)) ∙ k))
            | false ↦ λ o. none is ls
          ] refl
          | false ↦ λ k. none is ls
        ] refl

abbrev pub no_txn : ℕ → Option ℕ
no_txn c = None

abbrev pub kept_of : (Option ℕ → Bool) → List Entry → List Entry
kept_of keep h = kept keep no_txn h

pub lines_of-kept : (keep : Option ℕ → Bool) (h : List Entry) → lines_of (kept_of keep h) ≡ kept_lines keep no_txn h
lines_of-kept keep h = lines_from-kept keep no_txn no_txn (λ c is. refl) h

map_cond : {X Y : Type 0} (f : X → Y) (b : Bool) (xs : List X) → map f (cond b xs []) ≡ cond b (map f xs) []
map_cond f true xs = refl
map_cond f false xs = refl

-- In the kept history, a kept transaction has all its entries, and any other transaction has none.
pub of-kept : (keep : Option ℕ → Bool) (t : ℕ) (h : List Entry) → of t (kept_of keep h) ≡ cond (keep (Some t)) (of t h) []
of-kept keep t h =
    ap (λ ls. map (λ (l : Line). l.entry) (filter (is_of t) ls)) (lines_of-kept keep h)
    ∙ ap (map (λ (l : Line). l.entry)) (filter_of_kept keep t (lines_of h))
    ∙ map_cond (λ (l : Line). l.entry) (keep (Some t)) (filter (is_of t) (lines_of h))

pub of-kept_in : (keep : Option ℕ → Bool) (t : ℕ) (h : List Entry) → keep (Some t) ≡ true → of t (kept_of keep h) ≡ of t h
of-kept_in keep t h is = of-kept keep t h ∙ ap (λ b. cond b (of t h) []) is

pub of-kept_out : (keep : Option ℕ → Bool) (t : ℕ) (h : List Entry) → keep (Some t) ≡ false → of t (kept_of keep h) ≡ []
of-kept_out keep t h is = of-kept keep t h ∙ ap (λ b. cond b (of t h) []) is

-- The transactions of the entries that pass a test.
abbrev picked : (Entry → Bool) → List Line → List ℕ
picked test ls = filter_map (λ l. cond (test l.entry) l.txn None) ls

one_kept : (keep : Option ℕ → Bool) (test : Entry → Bool) (o : Option ℕ) (e : Entry) (fs ls : List Line)
    → picked test fs ≡ filter (λ t. keep (Some t)) (picked test ls)
    → picked test (cond (keep o) (record { txn = o; entry = e } ∷ fs) fs) ≡ filter (λ t. keep (Some t)) (picked test (record { txn = o; entry = e } ∷ ls))
one_kept keep test None e fs ls rest =
    elim (test e) as (λ a. picked test (cond (keep None) (record { txn = None; entry = e } ∷ fs) fs) ≡ filter (λ t. keep (Some t)) (cons_option (cond a None None) (picked test ls))) [
      | true ↦ left rest
      | false ↦ left rest
    ]
  where
    left : picked test fs ≡ filter (λ t. keep (Some t)) (picked test ls) → picked test (cond (keep None) (record { txn = None; entry = e } ∷ fs) fs) ≡ filter (λ t. keep (Some t)) (picked test ls)
    left rest = elim (keep None) as (λ b. picked test (cond b (record { txn = None; entry = e } ∷ fs) fs) ≡ filter (λ t. keep (Some t)) (picked test ls)) [
      | true ↦ elim (test e) as (λ a. cons_option (cond a None None) (picked test fs) ≡ filter (λ t. keep (Some t)) (picked test ls)) [ true ↦ rest | false ↦ rest ]
      | false ↦ rest
    ]
one_kept keep test (Some u) e fs ls rest =
    elim (keep (Some u)) as (λ b. picked test (cond b (record { txn = Some u; entry = e } ∷ fs) fs)
    ≡ elim (test e) as (λ a. List ℕ) [ true ↦ cond b (u ∷ filter (λ t. keep (Some t)) (picked test ls)) (filter (λ t. keep (Some t)) (picked test ls)) | false ↦ filter (λ t. keep (Some t)) (picked test ls) ]) [
      | true ↦ elim (test e) as (λ a. cons_option (cond a (Some u) None) (picked test fs) ≡ elim a as (λ a. List ℕ) [ true ↦ u ∷ filter (λ t. keep (Some t)) (picked test ls) | false ↦ filter (λ t. keep (Some t)) (picked test ls) ]) [
        | true ↦ ap (λ ts. u ∷ ts) rest
        | false ↦ rest
      ]
      | false ↦ elim (test e) as (λ a. picked test fs ≡ elim a as (λ a. List ℕ) [ true ↦ filter (λ t. keep (Some t)) (picked test ls) | false ↦ filter (λ t. keep (Some t)) (picked test ls) ]) [ true ↦ rest | false ↦ rest ]
    ]
    ∙ (elim (test e) as (λ a. elim a as (λ a. List ℕ) [ true ↦ filter (λ t. keep (Some t)) (u ∷ picked test ls) | false ↦ filter (λ t. keep (Some t)) (picked test ls) ]
    ≡ filter (λ t. keep (Some t)) (cons_option (cond a (Some u) None) (picked test ls))) [ true ↦ refl | false ↦ refl ])

picked_kept : (keep : Option ℕ → Bool) (test : Entry → Bool) (ls : List Line) → picked test (filter (λ l. keep l.txn) ls) ≡ filter (λ t. keep (Some t)) (picked test ls)
picked_kept keep test [] = refl
picked_kept keep test (l ∷ ls) = one_kept keep test l.txn l.entry (filter (λ l. keep l.txn) ls) ls (picked_kept keep test ls)

pub txns_of-kept : (keep : Option ℕ → Bool) (test : Entry → Bool) (h : List Entry) → txns_of test (kept_of keep h) ≡ filter (λ t. keep (Some t)) (txns_of test h)
txns_of-kept keep test h = ap (picked test) (lines_of-kept keep h) ∙ picked_kept keep test (lines_of h)

-- No transaction both commits and aborts.
not_both : (es : List Entry) (a b : Bool) → (a ≡ true → b ≡ false) → fold (λ x e. is_commit e) a es ≡ true → fold (λ x e. is_abort e) b es ≡ false
not_both [] a b apart is = apart is
not_both (e ∷ es) a b apart is = not_both es (is_commit e) (is_abort e) (λ c. one e c) is
  where
    one : (f : Entry) → is_commit f ≡ true → is_abort f ≡ false
    one (Aborted c) h = absurd (false≢true h)
    one _ h = refl

pub committed_not_aborted : (t : ℕ) (h : List Entry) → is_committed t h ≡ true → is_aborted t h ≡ false
committed_not_aborted t h is = not_both (of t h) false false (λ x. refl) is

-- Lemmas for a test that keeps every transaction that is not aborted.
module _ (keep : Option ℕ → Bool) (h : List Entry) (lasting : (t : ℕ) → is_aborted t h ≡ false → keep (Some t) ≡ true) where
  kept_committed : (t : ℕ) → keep (Some t) ≡ true → is_committed t (kept_of keep h) ≡ is_committed t h
  kept_committed t is = ap (ends_in is_commit) (of-kept_in keep t h is)

  kept_open : (t : ℕ) → keep (Some t) ≡ true → is_open t (kept_of keep h) ≡ is_open t h
  kept_open t is = ap (λ es. not (ends_in is_commit es || ends_in is_abort es)) (of-kept_in keep t h is)

  open_lasts : (t : ℕ) → is_open t h ≡ true → keep (Some t) ≡ true
  open_lasts t is = lasting t (neither (is_committed t h) (is_aborted t h) is)
    where
      neither : (a b : Bool) → not (a || b) ≡ true → b ≡ false
      neither true b n = absurd (false≢true n)
      neither false true n = absurd (false≢true n)
      neither false false n = refl

  pub commits-kept : commits (kept_of keep h) ≡ commits h
  commits-kept =
      ap (filter (λ t. is_committed t (kept_of keep h))) (txns_of-kept keep is_commit h)
      ∙ filter_within (λ t. is_committed t h) (λ t. is_committed t (kept_of keep h)) (λ t. keep (Some t)) kept_committed (λ t is. lasting t (committed_not_aborted t h is)) (txns_of is_commit h)

  pub open_txns-kept : open_txns (kept_of keep h) ≡ open_txns h
  open_txns-kept =
      ap (filter (λ t. is_open t (kept_of keep h))) (txns_of-kept keep is_began h)
      ∙ filter_within (λ t. is_open t h) (λ t. is_open t (kept_of keep h)) (λ t. keep (Some t)) kept_open open_lasts (txns_of is_began h)

  pub serial-kept : serial (kept_of keep h) ≡ serial h
  serial-kept =
      ap (fold (λ m t. map_after m (of t (kept_of keep h))) empty) commits-kept
      ∙ fold_filter (λ t. is_committed t h) (λ m t. map_after m (of t (kept_of keep h))) (λ m t. map_after m (of t h))
      (λ m t is. ap (map_after m) (of-kept_in keep t h (lasting t (committed_not_aborted t h is)))) empty (txns_of is_commit h)

  pub open_maps-kept : open_maps (kept_of keep h) ≡ open_maps h
  open_maps-kept =
      ap (map (λ t. map_after (serial (kept_of keep h)) (of t (kept_of keep h)))) open_txns-kept
      ∙ map_filter (λ t. is_open t h) (λ t. map_after (serial (kept_of keep h)) (of t (kept_of keep h))) (λ t. map_after (serial h) (of t h))
      (λ t is. ap (λ m. map_after m (of t (kept_of keep h))) serial-kept ∙ ap (map_after (serial h)) (of-kept_in keep t h (open_lasts t is))) (txns_of is_began h)

  pub now-kept : now (kept_of keep h) ≡ now h
  now-kept = ap (λ m. overlaid m (open_maps (kept_of keep h))) serial-kept ∙ ap (overlaid (serial h)) open_maps-kept
