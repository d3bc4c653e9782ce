-- Shows that a level keeps at most as many changes as are standing, because a savepoint notes their
-- number, and a return takes back only changes above its level.
use Rattle.std.proofs.Common.{◌≡◌, ℕ, ◌+◌, ◌-◌, ◌<◌, ◌≤◌, ◌==◌, ◌&&◌, Bool, true, false, cond, List, [], ◌∷◌, ◌++◌, length, take, get_or, slice_index, refl, sym, subst, Some, None, Option, arith}
use Rattle.std.specs.Prelude.{nat_lt}
use Rattle.std.specs.Option.{option_and_then}
use Rattle.std.specs.List.{fold}
use Rattle.std.proofs.lemmas.Bool.{ltb-true, and_parts, eqb-true, cases_eq}
use Rattle.std.proofs.lemmas.List.{get_or_append_left, length_push, get_or_push, get_or-take, length-take}
use mathlib.Core.Logic.{inl, inr}
use Rattle.txn_words.specs.declared.entry.Entry.{Entry}
use Rattle.txn_words.specs.declared.entry.Entry.TheVariants.{Began, Asked, Did, Saved, Leave, Undone, Returned, Committed, Busy, Aborted}
use Rattle.txn_words.specs.declared.stance.Phase.{Phase}
use Rattle.txn_words.specs.declared.stance.Phase.TheVariants.{Closed, Opened, Waiting, LeavingTo, LeavingToEnd}
use Rattle.txn_words.specs.Owed.{owed_in}
use Rattle.txn_words.specs.Shape.{Stance, closed_stance, changes, row, stance_after}

-- Each level keeps at least as many changes as the levels before it.
abbrev pub IsRisingList : List ℕ → Type 0
IsRisingList kept = (i j : ℕ) → i ≤ j → j < length kept → get_or kept i 0 ≤ get_or kept j 0

-- Each level keeps at most `standing` changes.
abbrev pub AreWithin : ℕ → List ℕ → Type 0
AreWithin standing kept = (i : ℕ) → i < length kept → get_or kept i 0 ≤ standing

-- In each phase, the numbers of changes that the levels keep fit the number of standing changes.
abbrev pub IsLevelIn : Phase → ℕ → List ℕ → Type 0
IsLevelIn Closed standing kept = (standing ≡ 0) × (kept ≡ 0 ∷ [])
IsLevelIn Opened standing kept = AreWithin standing kept
IsLevelIn (Waiting op) standing kept = AreWithin standing kept
IsLevelIn (LeavingTo n) standing kept = (n < length kept) × (get_or kept n 0 ≤ standing)
IsLevelIn LeavingToEnd standing kept = Unit {0}

-- A caller owes at least one entry for each of its standing changes.
pub standing_owed : (q : Phase) (standing : ℕ) (kept : List ℕ) → IsLevelIn q standing kept → standing ≤ owed_in standing q
standing_owed Closed standing kept is = let none : standing ≡ 0 = is.0 in omega arith
standing_owed _ standing kept is = omega arith

pub record Leveled (s : Stance) : Type 0 where
  pub rising : IsRisingList s.kept
  pub within : IsLevelIn s.phase s.standing s.kept

abbrev LeveledAfter : Option Stance → Type 0
LeveledAfter None = Unit {0}
LeveledAfter (Some s) = Leveled s

one_rises : IsRisingList (0 ∷ [])
one_rises i j below within =
    let last : j ≡ 0 = omega arith in
    let first : i ≡ 0 = omega arith in
    let P : ℕ → ℕ → Type 0 = λ a b. get_or {A = ℕ} (0 ∷ []) a 0 ≤ get_or {A = ℕ} (0 ∷ []) b 0 in
    let none : P 0 0 = omega arith in
    subst (P i) (sym last) (subst (λ a. P a 0) (sym first) none)

closed_leveled : Leveled closed_stance
closed_leveled = record { rising = one_rises; within = (refl, refl) }

one_within : AreWithin 0 (0 ∷ [])
one_within i within =
    let first : i ≡ 0 = omega arith in
    let P : ℕ → Type 0 = λ a. get_or {A = ℕ} (0 ∷ []) a 0 ≤ 0 in
    let none : P 0 = omega arith in
    subst P (sym first) none

pushed_within : (standing : ℕ) (kept : List ℕ) → AreWithin standing kept → AreWithin standing (kept ++ standing ∷ [])
pushed_within standing kept is i within =
    let long : length (kept ++ standing ∷ []) ≡ length kept + 1 = length_push kept standing in
    elim (cases_eq i (length kept)) [
      | inl last ↦
          let at : get_or (kept ++ standing ∷ []) i 0 ≡ standing = get_or_push kept standing 0 i (sym last) in
          omega arith
      | inr other ↦
          let before : i < length kept = omega arith in
          let at : get_or (kept ++ standing ∷ []) i 0 ≡ get_or kept i 0 = get_or_append_left kept (standing ∷ []) 0 i before in
          let most : get_or kept i 0 ≤ standing = is i before in
          omega arith
    ]

pushed_rises : (standing : ℕ) (kept : List ℕ) → IsRisingList kept → AreWithin standing kept → IsRisingList (kept ++ standing ∷ [])
pushed_rises standing kept rises is i j below within =
    let long : length (kept ++ standing ∷ []) ≡ length kept + 1 = length_push kept standing in
    elim (cases_eq j (length kept)) [
      | inl last ↦
          let at : get_or (kept ++ standing ∷ []) j 0 ≡ standing = get_or_push kept standing 0 j (sym last) in
          let most : get_or (kept ++ standing ∷ []) i 0 ≤ standing = pushed_within standing kept is i (omega arith) in
          omega arith
      | inr other ↦
          let before : j < length kept = omega arith in
          let at_j : get_or (kept ++ standing ∷ []) j 0 ≡ get_or kept j 0 = get_or_append_left kept (standing ∷ []) 0 j before in
          let at_i : get_or (kept ++ standing ∷ []) i 0 ≡ get_or kept i 0 = get_or_append_left kept (standing ∷ []) 0 i (omega arith) in
          let most : get_or kept i 0 ≤ get_or kept j 0 = rises i j below before in
          omega arith
    ]

take_at : (n : ℕ) (kept : List ℕ) (i : ℕ) → i < length (take n kept) → (i < length kept) × (i < n) × (get_or (take n kept) i 0 ≡ get_or kept i 0)
take_at n kept i within =
    let long = length-take n kept in
    let few : i < n = omega arith in
    (omega arith, few, get_or-take n kept i 0 few)

cut_rises : (n : ℕ) (kept : List ℕ) → IsRisingList kept → IsRisingList (take n kept)
cut_rises n kept rises i j below within =
    let at_j = take_at n kept j within in
    let at_i = take_at n kept i (omega arith) in
    let most : get_or kept i 0 ≤ get_or kept j 0 = rises i j below at_j.0 in
    let same_j : get_or (take n kept) j 0 ≡ get_or kept j 0 = at_j.2 in
    let same_i : get_or (take n kept) i 0 ≡ get_or kept i 0 = at_i.2 in
    omega arith

cut_within : (n standing : ℕ) (kept : List ℕ) → IsRisingList kept → n < length kept → get_or kept n 0 ≡ standing → AreWithin standing (take (n + 1) kept)
cut_within n standing kept rises within at i below =
    let at_i = take_at (n + 1) kept i below in
    let few : i < n + 1 = at_i.1 in
    let most : get_or kept i 0 ≤ get_or kept n 0 = rises i n (omega arith) within in
    let same : get_or (take (n + 1) kept) i 0 ≡ get_or kept i 0 = at_i.2 in
    omega arith

more_within : (fewer more : ℕ) (kept : List ℕ) → fewer ≤ more → AreWithin fewer kept → AreWithin more kept
more_within fewer more kept less is i within =
    let most : get_or kept i 0 ≤ fewer = is i within in
    omega arith

one_more_or_same : (b : Bool) (n : ℕ) → n ≤ cond b (n + 1) n
one_more_or_same true n = omega arith
one_more_or_same false n = omega arith

leveled_if : (b : Bool) (s : Stance) → (b ≡ true → Leveled s) → LeveledAfter (cond b (Some s) None)
leveled_if true s is = is refl
leveled_if false s is = tt

row_leveled : (s : Stance) (q : Phase) (e : Entry) → s.phase ≡ q → IsRisingList s.kept → IsLevelIn q s.standing s.kept → LeveledAfter (row s q e)
row_leveled s Closed (Began c t) at rises within = record { rising = one_rises; within = one_within }
row_leveled s Opened (Asked c op) at rises within = record { rising = rises; within = within }
row_leveled s Opened (Busy c op x) at rises within = record { rising = rises; within = tt }
row_leveled s Opened (Saved c) at rises within = record { rising = pushed_rises s.standing s.kept rises within; within = subst (λ q. IsLevelIn q s.standing (s.kept ++ s.standing ∷ [])) (sym at) (pushed_within s.standing s.kept within) }
row_leveled s Opened (Leave c None) at rises within = record { rising = rises; within = tt }
row_leveled s Opened (Leave c (Some n)) at rises within = leveled_if (nat_lt n (length s.kept)) (record s { phase = LeavingTo n }) (λ b.
    let below = ltb-true n (length s.kept) b in
    record { rising = rises; within = (below, within n below) })
row_leveled s Opened (Committed c p) at rises within = closed_leveled
row_leveled s (Waiting op) (Did c r) at rises within = record { rising = rises; within = more_within s.standing (cond (changes op r) (s.standing + 1) s.standing) s.kept (one_more_or_same (changes op r) s.standing) within }
row_leveled s (Waiting op) (Leave c None) at rises within = record { rising = rises; within = tt }
row_leveled s (LeavingTo n) (Undone c) at rises within = leveled_if (nat_lt (slice_index s.kept n) s.standing) (record s { standing = s.standing - 1 }) (λ b.
    let more : get_or s.kept n 0 < s.standing = ltb-true (slice_index s.kept n) s.standing b in
    record { rising = rises; within = subst (λ q. IsLevelIn q (s.standing - 1) s.kept) (sym at) (within.0, omega arith) })
row_leveled s (LeavingTo n) (Returned c m) at rises within = leveled_if ((n == m) && (slice_index s.kept n == s.standing)) (record s { phase = Opened; kept = take (n + 1) s.kept }) (λ b.
    let reached : get_or s.kept n 0 ≡ s.standing = eqb-true (slice_index s.kept n) s.standing (and_parts (n == m) (slice_index s.kept n == s.standing) b).1 in
    record { rising = cut_rises (n + 1) s.kept rises; within = cut_within n s.standing s.kept rises within.0 reached })
row_leveled s LeavingToEnd (Undone c) at rises within = leveled_if (nat_lt 0 s.standing) (record s { standing = s.standing - 1 }) (λ b.
    record { rising = rises; within = subst (λ q. IsLevelIn q (s.standing - 1) s.kept) (sym at) tt })
row_leveled s LeavingToEnd (Aborted c) at rises within = leveled_if (s.standing == 0) closed_stance (λ b. closed_leveled)
row_leveled s q e at rises within = tt

fold_leveled : (es : List Entry) (o : Option Stance) → LeveledAfter o → LeveledAfter (fold (λ stance e. option_and_then (λ s. row s s.phase e) stance) o es)
fold_leveled [] o is = is
fold_leveled (e ∷ es) None is = fold_leveled es None tt
fold_leveled (e ∷ es) (Some s) is = fold_leveled es (row s s.phase e) (row_leveled s s.phase e refl is.rising is.within)

-- Every stance that results from a list of entries is `Leveled`.
pub stance_leveled : (es : List Entry) (s : Stance) → stance_after es ≡ Some s → Leveled s
stance_leveled es s is = subst LeveledAfter is (fold_leveled es (Some closed_stance) closed_leveled)
