-- Each step on a shelf keeps its rule. Assumes nothing.
use Rattle.std.proofs.Common.{◌≡◌, ◌≢◌, ℕ, zero, suc, ◌<◌, List, [], ◌∷◌, ◌++◌, length, get_or, set, map, replicate, Option, None, sym, refl, ◌∙◌, subst, arith, eqb, length-set, get_or-set_other, get_or-set_same}
use mathlib.Core.Logic.{dite}
use mathlib.Core.Option.{Option as Maybe, some, none, some-injective, some-ne-none}
use native.Mathlib.Decide.{ℕ_discrete}
use lib.ListN.{get_elem?}
use lib.Seq.{set-get_or}
use prog.Atomic.{either}
use Rattle.std.proofs.lemmas.List.{length-map, length-replicate}
use Rattle.atomic_table.specs.Table.{State, Act, keeps, takes, gives, step, Valid, carried_after, stepped, opening, Allows, Enters}
use Rattle.atomic_table.proofs.Lists.{set_here, set_else, exchanged}
use Rattle.striped_map.specs.declared.seat.MapSeat.{MapSeat}
use Rattle.striped_map.specs.Shelves.{IsOrderly, Like, MayLie, Thread, Sits, Grabs, Releases}

abbrev St : Type 0
St = State (Option MapSeat) Like

abbrev Slots : Type 0
Slots = List (Maybe (Option MapSeat))

abbrev board : List ℕ → Slots → List Like → St
board ws hs vs = record { words = ws; homes = hs; views = vs }

module _ (like : Like) (s : St) (o : IsOrderly like s) where
  -- Views do not matter.
  seen : (vs : List Like) → IsOrderly like (board s.words s.homes vs)
  seen vs = record { wide = o.wide; home = o.home; good = o.good }

  -- The slot of a place leaves it, and the word becomes 1.
  gone : (i : ℕ) → i < length s.words → (vs : List Like) → IsOrderly like (board (set s.words i 1) (set s.homes i none) vs)
  gone i lt vs = record {
    wide = length-set s.homes i none ∙ o.wide ∙ sym (length-set s.words i 1);
    home = λ k short ne. dite (ℕ_discrete k i)
        (λ (e : k ≡ i). absurd (ne (subst (λ (j : ℕ). get_or (set s.words i 1) j 0 ≡ 1) (sym e) (get_or-set_same s.words i 1 0 lt))))
        (λ no. let old = o.home k (subst (λ (n : ℕ). k < n) (length-set s.words i 1) short) (λ z. ne (get_or-set_other s.words i k 1 0 no ∙ z)) in (old.0, set_else s.homes i k none no ∙ old.1));
    good = λ k slot e. dite (ℕ_discrete k i)
        (λ (y : k ≡ i). let here : get_elem? (set s.homes i none) k ≡ some none = subst (λ (j : ℕ). get_elem? (set s.homes i none) j ≡ some none) (sym y) (set_here s.homes i none (subst (λ (n : ℕ). i < n) (sym o.wide) lt)) in
        absurd (some-ne-none slot (some-injective (some slot) none (sym e ∙ here))))
        (λ no. o.good k slot (sym (set_else s.homes i k none no) ∙ e));
  }

  -- A slot comes back to its place, with what may lie there, and the word becomes any number.
  back : (i : ℕ) → i < length s.words → (slot : Option MapSeat) → MayLie like i slot → (word : ℕ) (vs : List Like) → IsOrderly like (board (set s.words i word) (set s.homes i (some slot)) vs)
  back i lt slot may word vs = record {
    wide = length-set s.homes i (some slot) ∙ o.wide ∙ sym (length-set s.words i word);
    home = λ k short ne. dite (ℕ_discrete k i)
        (λ (y : k ≡ i). (slot, subst (λ (j : ℕ). get_elem? (set s.homes i (some slot)) j ≡ some (some slot)) (sym y) (set_here s.homes i (some slot) (subst (λ (n : ℕ). i < n) (sym o.wide) lt))))
        (λ no. let old = o.home k (subst (λ (n : ℕ). k < n) (length-set s.words i word) short) (λ z. ne (get_or-set_other s.words i k word 0 no ∙ z)) in (old.0, set_else s.homes i k (some slot) no ∙ old.1));
    good = λ k other e. dite (ℕ_discrete k i)
        (λ (y : k ≡ i). let here : get_elem? (set s.homes i (some slot)) k ≡ some (some slot) = subst (λ (j : ℕ). get_elem? (set s.homes i (some slot)) j ≡ some (some slot)) (sym y) (set_here s.homes i (some slot) (subst (λ (n : ℕ). i < n) (sym o.wide) lt)) in
        subst (λ (j : ℕ). MayLie like j other) (sym y) (subst (MayLie like i) (some-injective slot other (some-injective (some slot) (some other) (sym here ∙ e))) may))
        (λ no. o.good k other (sym (set_else s.homes i k (some slot) no) ∙ e));
  }

pub sits : (like : Like) (n i : ℕ) → Enters (IsOrderly like) n i (λ found w. Sits (step n i 0 0 none) (like, []) found (w, []))
sits like n i s o wide fits = (like, seen like s o (s.views ++ like ∷ []), refl)

abbrev Goes : Like → St → ℕ → ℕ → Thread → (ℕ → Thread → Type 0) → ℕ → Type 0
Goes like s i id m then k = (w : Like) × (a : Act (Option MapSeat)) × Valid s.homes m.1 a × IsOrderly like (stepped s i k id m.1 w a) × then (get_or s.words i 0) (w, carried_after m.1 a)

pub grabs : (like : Like) (n id i from : ℕ) (m : Thread) → m.0 ≡ like → from ≢ 1 → i < n → Allows (IsOrderly like) n id m i (λ y. either (eqb y from) 1 y) (Grabs (step n i from 1 none) m)
grabs like n id i from m is free lt s o wide me _ = let x : ℕ = get_or s.words i 0 in
    let inside : i < length s.words = (let w₁ = o.wide in omega arith) in
    exchanged x from 1 (Goes like s i id m (Grabs (step n i from 1 none) m))
    (λ z. let h = o.home i inside (λ y. free (sym z ∙ y)) in (
      m.0,
      takes i h.0,
      h.1,
      gone like s o i inside (set s.views id m.0),
      (refl, λ _. (h.0, refl, subst (λ (u : Like). MayLie u i h.0) (sym is) (o.good i h.0 h.1))),
    ))
    (λ ne. (
      m.0,
      keeps,
      tt,
      subst (λ (ws : List ℕ). IsOrderly like (board ws s.homes (set s.views id m.0))) (sym (set-get_or s.words i 0)) (seen like s o (set s.views id m.0)),
      (refl, λ z. absurd (ne z)),
    ))

pub releases : (like : Like) (n id i to : ℕ) (m : Thread) (slot : Option MapSeat) (more : List (ℕ × Option MapSeat)) → m.1 ≡ (i, slot) ∷ more → MayLie like i slot → i < n
    → Allows (IsOrderly like) n id m i (λ _. to) (λ _. Releases (step n i to 0 none) m to)
releases like n id i to m slot more e may lt s o wide me _ = let inside : i < length s.words = (let w₁ = o.wide in omega arith) in
    subst (λ (c : List (ℕ × Option MapSeat)). (w : Like) × (a : Act (Option MapSeat)) × Valid s.homes c a × IsOrderly like (stepped s i to id c w a) × (w ≡ m.0)) (sym e)
    (m.0, gives, tt, back like s o i inside slot may to (set s.views id m.0), refl)

-- The shelf at the beginning.
abbrev no_seat : Option MapSeat
no_seat = None

none_there : (n k : ℕ) (slot : Option MapSeat) → get_elem? (map some (replicate n no_seat)) k ≡ some (some slot) → no_seat ≡ slot
none_there zero k slot e = absurd (some-ne-none (some slot) (sym e))
none_there (suc n) zero slot e = some-injective no_seat slot (some-injective (some no_seat) (some slot) e)
none_there (suc n) (suc k) slot e = none_there n k slot e

all_there : (n k : ℕ) → k < n → (slot : Option MapSeat) × (get_elem? (map some (replicate n no_seat)) k ≡ some (some slot))
all_there zero k lt = absurd (omega arith)
all_there (suc n) zero lt = (no_seat, refl)
all_there (suc n) (suc k) lt = all_there n k (omega arith)

pub opens : (like : Like) (n : ℕ) → IsOrderly like (opening (replicate n 0) (replicate n no_seat) like)
opens like n = record {
  wide = length-map (replicate n no_seat) some ∙ length-replicate n no_seat ∙ sym (length-replicate n 0);
  home = λ k lt ne. all_there n k (subst (λ (m : ℕ). k < m) (length-replicate n 0) lt);
  good = λ k slot e. subst (MayLie like k) (none_there n k slot e) tt;
}
