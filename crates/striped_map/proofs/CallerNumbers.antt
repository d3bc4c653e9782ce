-- Shows that the word of callers counts the numbers that were given out, and that no two seats get
-- the same number, because a seat gets the number that the word had before the addition.
use Rattle.std.proofs.Common.{◌≡◌, ◌≢◌, ℕ, ◌+◌, ◌^◌, ◌<◌, ◌≤◌, ◌⊎◌, List, [], ◌∷◌, ◌++◌, length, set, Some, slice_get, true, false, sym, ◌∙◌, ap, subst, ⊎_elim, arith}
use mathlib.Core.Logic.{dite}
use mathlib.Core.Option.{some, some-injective}
use native.Mathlib.Decide.{ℕ_discrete}
use lib.ListN.{get_elem?}
use Rattle.std.proofs.lemmas.Bool.{false≢true}
use Rattle.std.proofs.lemmas.Option.{none-some}
use Rattle.atomic_table.proofs.Lists.{at_set, at_longer, set_here, set_else}
use Rattle.txn_words.specs.declared.entry.Entry.{Entry}
use Rattle.txn_words.proofs.Holding.{at_end, within}
use Rattle.striped_map.specs.declared.view.View.{View}
use Rattle.striped_map.specs.declared.keep.Keep.{Keep}
use Rattle.striped_map.specs.declared.keep.Keep.TheVariants.{Nothing, Commits, Entries}
use Rattle.striped_map.specs.Rule.{AreGiven, HasParent, IsFree, MayGive, made_in, most}

abbrev Merged : Type 0
Merged = List (ℕ × List Entry)

none_at : {A : Type 0} (j : ℕ) (r : A) → slice_get [] j ≡ Some r → ⊥
none_at j r e = none-some r e

-- The lemmas on numbers after the seat `id` got the view `w` in place of `v`, with the same number
-- and the same merged seats.
module _ (n : ℕ) (words ws : List ℕ) (views : List View) (g : AreGiven n words views) (id : ℕ) (v w : View) (me : get_elem? views id ≡ some v) (acting : v.acts ≡ true) (same : w.number ≡ v.number) (also : w.acts ≡ true) (kin : w.retired ≡ v.retired) (mode : w.keep ≡ v.keep) (stays : v.parent ≡ true → w.parent ≡ true) (more : made_in n words ≤ made_in n ws) where
  abbrev after : List View
  after = set views id w

  there : get_elem? after id ≡ some w
  there = set_here views id w (within views id v me)

  pub free_still : (c : ℕ) → IsFree views c → IsFree after c
  free_still c free i u e = ⊎_elim
      (λ (t : (i ≡ id) × (w ≡ u)). (
        λ a z. (free id v me).0 acting (sym same ∙ ap (λ (x : View). x.number) t.1 ∙ z),
        λ j r has. (free id v me).1 j r (ap (λ (l : Merged). slice_get l j) (sym kin ∙ ap (λ (x : View). x.retired) t.1) ∙ has),
      ))
      (λ (t : (i ≢ id) × (get_elem? views i ≡ some u)). free i u t.1) (at_set views id i w u e)

  parent_still : (m : ℕ) → HasParent views m → HasParent after m
  parent_still m h = let i : ℕ = h.0 in let u : View = h.1 in dite (ℕ_discrete i id)
      (λ (e : i ≡ id).
      let is : u ≡ v = some-injective u v (sym h.2 ∙ subst (λ (k : ℕ). get_elem? views k ≡ some v) (sym e) me) in
      let low : u.number < m = h.4 in let num : u.number ≡ v.number = ap (λ (x : View). x.number) is in
      (id, w, there, also, (omega arith), stays (sym (ap (λ (x : View). x.parent) is) ∙ h.5)))
      (λ ne. (i, u, set_else views id i w ne ∙ h.2, h.3, h.4, h.5))

  given_set : w.made ≤ made_in n ws → ((i : ℕ) (u : View) → get_elem? views i ≡ some u → u.acts ≡ true → made_in n ws ≤ most u.keep)
      → ((c : ℕ) → MayGive w c → (0 < c) × IsFree views c × ((i : ℕ) (u : View) → i ≢ id → get_elem? views i ≡ some u → MayGive u c → ⊥))
      → ((i : ℕ) (h : View) → get_elem? after i ≡ some h → h.acts ≡ true → h.number ≡ 0 → h.made < made_in n ws → HasParent after h.made)
      → AreGiven n ws after
  given_set knows few mine parents = record {
    below = λ i u e a. ⊎_elim
        (λ (t : (i ≡ id) × (w ≡ u)). let lt = g.below id v me acting in let num : w.number ≡ u.number = ap (λ (x : View). x.number) t.1 in omega arith)
        (λ (t : (i ≢ id) × (get_elem? views i ≡ some u)). let lt = g.below i u t.1 a in omega arith) (at_set views id i w u e);
    merged = λ i u e j r has. ⊎_elim
        (λ (t : (i ≡ id) × (w ≡ u)). let lt = g.merged id v me j r (ap (λ (l : Merged). slice_get l j) (sym kin ∙ ap (λ (x : View). x.retired) t.1) ∙ has) in omega arith)
        (λ (t : (i ≢ id) × (get_elem? views i ≡ some u)). let lt = g.merged i u t.1 j r has in omega arith) (at_set views id i w u e);
    known = λ i u e. ⊎_elim
        (λ (t : (i ≡ id) × (w ≡ u)). subst (λ (x : View). x.made ≤ made_in n ws) t.1 knows)
        (λ (t : (i ≢ id) × (get_elem? views i ≡ some u)). let le = g.known i u t.1 in omega arith) (at_set views id i w u e);
    few = λ i u e a. ⊎_elim
        (λ (t : (i ≡ id) × (w ≡ u)). subst (λ k. made_in n ws ≤ most k) (sym mode ∙ ap (λ (x : View). x.keep) t.1) (few id v me acting))
        (λ (t : (i ≢ id) × (get_elem? views i ≡ some u)). few i u t.1 a) (at_set views id i w u e);
    free = λ i u e c may. ⊎_elim
        (λ (t : (i ≡ id) × (w ≡ u)). let m = mine c (subst (λ (x : View). MayGive x c) (sym t.1) may) in (m.0, free_still c m.1))
        (λ (t : (i ≢ id) × (get_elem? views i ≡ some u)). let m = g.free i u t.1 c may in (m.0, free_still c m.1)) (at_set views id i w u e);
    lone = λ i j u x a b c p q. ⊎_elim
        (λ (t : (i ≡ id) × (w ≡ u)). ⊎_elim
        (λ (s : (j ≡ id) × (w ≡ x)). t.0 ∙ sym s.0)
        (λ (s : (j ≢ id) × (get_elem? views j ≡ some x)). absurd ((mine c (subst (λ (y : View). MayGive y c) (sym t.1) p)).2 j x s.0 s.1 q)) (at_set views id j w x b))
        (λ (t : (i ≢ id) × (get_elem? views i ≡ some u)). ⊎_elim
        (λ (s : (j ≡ id) × (w ≡ x)). absurd ((mine c (subst (λ (y : View). MayGive y c) (sym s.1) q)).2 i u t.0 t.1 p))
        (λ (s : (j ≢ id) × (get_elem? views j ≡ some x)). g.lone i j u x t.1 s.1 c p q) (at_set views id j w x b)) (at_set views id i w u a);
    parents = parents;
  }

  -- The seat has fewer numbers to give.
  pub given_fewer : w.made ≡ v.made → v.next ≤ w.next → made_in n ws ≡ made_in n words → AreGiven n ws after
  given_fewer made next still = given_set (let k = g.known id v me in omega arith)
      (λ i u at a. let f = g.few i u at a in omega arith)
      (λ c may. let low : w.next ≤ c = may.0 in let high : c < w.made = may.1 in let old : MayGive v c = (omega arith, omega arith) in let f = g.free id v me c old in
      (f.0, f.1, λ i u ne at q. ne (g.lone i id u v at me c q old)))
      (λ i h e a z lt. ⊎_elim
      (λ (t : (i ≡ id) × (w ≡ h)).
      let num : w.number ≡ h.number = ap (λ (x : View). x.number) t.1 in let of : w.made ≡ h.made = ap (λ (x : View). x.made) t.1 in
      subst (HasParent after) (sym made ∙ of) (parent_still v.made (g.parents id v me acting (sym same ∙ num ∙ z) (omega arith))))
      (λ (t : (i ≢ id) × (get_elem? views i ≡ some h)). parent_still h.made (g.parents i h t.1 a z (omega arith))) (at_set views id i w h e))

  -- The seat has the same numbers to give as before, and no number was given out.
  pub given_same : w.made ≡ v.made → w.next ≡ v.next → made_in n ws ≡ made_in n words → AreGiven n ws after
  given_same made next still = given_fewer made (omega arith) still

  -- The seat has learnt how many numbers were given out, and has none of them to give.
  pub given_counted : w.made ≡ made_in n words → w.next ≡ w.made → made_in n ws ≡ made_in n words → AreGiven n ws after
  given_counted made next still = given_set (omega arith)
      (λ i u at a. let f = g.few i u at a in omega arith)
      (λ c may. let low : w.next ≤ c = may.0 in let high : c < w.made = may.1 in absurd (omega arith))
      (λ i h e a z lt. ⊎_elim
      (λ (t : (i ≡ id) × (w ≡ h)). let of : w.made ≡ h.made = ap (λ (x : View). x.made) t.1 in absurd (omega arith))
      (λ (t : (i ≢ id) × (get_elem? views i ≡ some h)). parent_still h.made (g.parents i h t.1 a z (omega arith))) (at_set views id i w h e))

  -- The seat has taken the next number for a caller that it makes.
  pub given_next : w.made ≡ made_in n ws → w.next ≡ made_in n words → w.parent ≡ true → made_in n ws ≡ made_in n words + 1
      → ((i : ℕ) (u : View) → get_elem? views i ≡ some u → u.acts ≡ true → made_in n ws ≤ most u.keep) → AreGiven n ws after
  given_next made next parent one few = given_set (omega arith) few
      (λ c may. let low : w.next ≤ c = may.0 in let high : c < w.made = may.1 in let is : c ≡ made_in n words = omega arith in
      let lt : v.number < made_in n words = g.below id v me acting in (
        omega arith,
        λ i u at. (λ a z. let b = g.below i u at a in omega arith, λ j r has z. let b = g.merged i u at j r has in omega arith),
        λ i u ne at q. let k = g.known i u at in let top : c < u.made = q.1 in omega arith,
      ))
      (λ i h e a z lt. ⊎_elim
      (λ (t : (i ≡ id) × (w ≡ h)). let of : w.made ≡ h.made = ap (λ (x : View). x.made) t.1 in absurd (omega arith))
      (λ (t : (i ≢ id) × (get_elem? views i ≡ some h)). dite (ℕ_discrete h.made (made_in n words))
      (λ (full : h.made ≡ made_in n words). let lt' = g.below id v me acting in (id, w, there, also, (omega arith), parent))
      (λ short. parent_still h.made (g.parents i h t.1 a z (let k = g.known i h t.1 in omega arith)))) (at_set views id i w h e))

-- A seat `w` that has no number to give is added. If it acts, it has a number that was given out,
-- that no seat has, and that no seat may give any longer.
module _ (n : ℕ) (words : List ℕ) (views : List View) (g : AreGiven n words views) (w : View) (plain : w.retired ≡ []) (made : w.made ≡ 0) where
  abbrev longer : List View
  longer = views ++ w ∷ []

  parent_longer : (m : ℕ) → HasParent views m → HasParent longer m
  parent_longer m h = (h.0, h.1, at_longer views (w ∷ []) h.0 h.1 h.2, h.3, h.4, h.5)

  pub given_added : (w.acts ≡ true → (w.number < made_in n words) × (0 < w.number) × (made_in n words ≤ most w.keep) × ((i : ℕ) (u : View) → get_elem? views i ≡ some u → MayGive u w.number → ⊥)) → AreGiven n words longer
  given_added new = let place : (i : ℕ) (u : View) → get_elem? longer i ≡ some u → (get_elem? views i ≡ some u) ⊎ ((i ≡ length views) × (w ≡ u)) = λ i u e. at_end views w u i e in record {
    below = λ i u e a. ⊎_elim (λ (p : get_elem? views i ≡ some u). g.below i u p a)
        (λ (p : (i ≡ length views) × (w ≡ u)). subst (λ (x : View). x.number < made_in n words) p.1 (new (ap (λ (x : View). x.acts) p.1 ∙ a)).0) (place i u e);
    merged = λ i u e j r has. ⊎_elim (λ (p : get_elem? views i ≡ some u). g.merged i u p j r has)
        (λ (p : (i ≡ length views) × (w ≡ u)). absurd (none_at j r (ap (λ (l : Merged). slice_get l j) (sym plain ∙ ap (λ (x : View). x.retired) p.1) ∙ has))) (place i u e);
    known = λ i u e. ⊎_elim (λ (p : get_elem? views i ≡ some u). g.known i u p)
        (λ (p : (i ≡ length views) × (w ≡ u)). let is : w.made ≡ u.made = ap (λ (x : View). x.made) p.1 in omega arith) (place i u e);
    few = λ i u e a. ⊎_elim (λ (p : get_elem? views i ≡ some u). g.few i u p a)
        (λ (p : (i ≡ length views) × (w ≡ u)). subst (λ (x : View). made_in n words ≤ most x.keep) p.1 (new (ap (λ (x : View). x.acts) p.1 ∙ a)).2) (place i u e);
    free = λ i u e c may. ⊎_elim
        (λ (p : get_elem? views i ≡ some u). let f = g.free i u p c may in (
          f.0,
          λ k x at. ⊎_elim (λ (q : get_elem? views k ≡ some x). f.1 k x q)
              (λ (q : (k ≡ length views) × (w ≡ x)). (
                λ a z. (new (ap (λ (y : View). y.acts) q.1 ∙ a)).3 i u p (subst (MayGive u) (sym (ap (λ (y : View). y.number) q.1 ∙ z)) may),
                λ j r has. absurd (none_at j r (ap (λ (l : Merged). slice_get l j) (sym plain ∙ ap (λ (y : View). y.retired) q.1) ∙ has)),
              )) (place k x at),
        ))
        (λ (p : (i ≡ length views) × (w ≡ u)). let high : c < u.made = may.1 in let is : w.made ≡ u.made = ap (λ (x : View). x.made) p.1 in absurd (omega arith)) (place i u e);
    lone = λ i j u x a b c p q. ⊎_elim
        (λ (t : get_elem? views i ≡ some u). ⊎_elim (λ (s : get_elem? views j ≡ some x). g.lone i j u x t s c p q)
        (λ (s : (j ≡ length views) × (w ≡ x)). let high : c < x.made = q.1 in let is : w.made ≡ x.made = ap (λ (y : View). y.made) s.1 in absurd (omega arith)) (place j x b))
        (λ (t : (i ≡ length views) × (w ≡ u)). let high : c < u.made = p.1 in let is : w.made ≡ u.made = ap (λ (y : View). y.made) t.1 in absurd (omega arith)) (place i u a);
    parents = λ i u e a z lt. ⊎_elim (λ (p : get_elem? views i ≡ some u). parent_longer u.made (g.parents i u p a z lt))
        (λ (p : (i ≡ length views) × (w ≡ u)). let some = (new (ap (λ (x : View). x.acts) p.1 ∙ a)).1 in let is : w.number ≡ u.number = ap (λ (x : View). x.number) p.1 in absurd (omega arith)) (place i u e);
  }

-- The views `vs` are those of `views`, but for seats that do not act, with no merged seat and no
-- number to give.
pub given_among : (n : ℕ) (words : List ℕ) (views vs : List View) → AreGiven n words views
    → ((i : ℕ) (u : View) → get_elem? vs i ≡ some u → (get_elem? views i ≡ some u) ⊎ ((u.acts ≡ false) × (u.retired ≡ []) × (u.made ≡ 0)))
    → ((i : ℕ) (u : View) → get_elem? views i ≡ some u → u.acts ≡ true → get_elem? vs i ≡ some u) → AreGiven n words vs
given_among n words views vs g place stays = record {
  below = λ i u e a. ⊎_elim (λ p. g.below i u p a) (λ p. absurd (false≢true (sym p.0 ∙ a))) (place i u e);
  merged = λ i u e j r has. ⊎_elim (λ p. g.merged i u p j r has) (λ p. absurd (none_at j r (ap (λ (l : Merged). slice_get l j) (sym p.1) ∙ has))) (place i u e);
  known = λ i u e. ⊎_elim (λ p. g.known i u p) (λ (p : (u.acts ≡ false) × (u.retired ≡ []) × (u.made ≡ 0)). let is = p.2 in omega arith) (place i u e);
  few = λ i u e a. ⊎_elim (λ p. g.few i u p a) (λ p. absurd (false≢true (sym p.0 ∙ a))) (place i u e);
  free = λ i u e c may. ⊎_elim
      (λ (p : get_elem? views i ≡ some u). let f = g.free i u p c may in (
        f.0,
        λ k x at. ⊎_elim (λ (q : get_elem? views k ≡ some x). f.1 k x q)
            (λ (q : (x.acts ≡ false) × (x.retired ≡ []) × (x.made ≡ 0)). (
              λ a z. absurd (false≢true (sym q.0 ∙ a)),
              λ j r has. absurd (none_at j r (ap (λ (l : Merged). slice_get l j) (sym q.1) ∙ has)),
            )) (place k x at),
      ))
      (λ (p : (u.acts ≡ false) × (u.retired ≡ []) × (u.made ≡ 0)). let high : c < u.made = may.1 in let is = p.2 in absurd (omega arith)) (place i u e);
  lone = λ i j u x a b c p q. ⊎_elim
      (λ (t : get_elem? views i ≡ some u). ⊎_elim (λ (s : get_elem? views j ≡ some x). g.lone i j u x t s c p q)
      (λ (s : (x.acts ≡ false) × (x.retired ≡ []) × (x.made ≡ 0)). let high : c < x.made = q.1 in let is = s.2 in absurd (omega arith)) (place j x b))
      (λ (t : (u.acts ≡ false) × (u.retired ≡ []) × (u.made ≡ 0)). let high : c < u.made = p.1 in let is = t.2 in absurd (omega arith)) (place i u a);
  parents = λ i u e a z lt. ⊎_elim
      (λ (p : get_elem? views i ≡ some u). let h = g.parents i u p a z lt in (h.0, h.1, stays h.0 h.1 h.2 h.3, h.3, h.4, h.5))
      (λ p. absurd (false≢true (sym p.0 ∙ a))) (place i u e);
}

pub callers_fit : (keep : Keep) (callers : ℕ) → callers ≤ 4096 → callers + 1 ≤ most keep
callers_fit Nothing callers le = omega arith
callers_fit Commits callers le = omega arith
callers_fit Entries callers le = omega arith

pub most_low : (keep : Keep) → most keep ≤ 2 ^ 62
most_low Nothing = omega arith
most_low Commits = omega arith
most_low Entries = omega arith
