-- Conditions under which the rule is kept when the view of one seat, the words and the slots
-- change.
use Rattle.std.proofs.Common.{◌≡◌, ◌≢◌, ℕ, ◌+◌, ◌<◌, ◌≤◌, ◌⊎◌, List, [], ◌∷◌, ◌++◌, length, get_or, set, Contains, Option, Some, sym, refl, ◌∙◌, ap, subst, inl, inr, ⊎_elim, arith}
use Rattle.std.proofs.lemmas.List.{get_or_past}
use mathlib.Core.Logic.{dite}
use mathlib.Core.Option.{Option as Maybe, some, none, some-injective}
use native.Mathlib.Decide.{ℕ_discrete, dec_le}
use lib.ListN.{get_elem?}
use Rattle.atomic_table.specs.Table.{State}
use Rattle.atomic_table.proofs.Lists.{at_set, set_here, set_else, at_longer, at_last}
use Rattle.txn_words.specs.Held.{times, once_for}
use Rattle.txn_words.proofs.Holding.{once_no, within, at_end}
use Rattle.key_words.specs.declared.view.View.{View}
use Rattle.key_words.specs.Rule.{view, Holds, IsNamed, WasTaken, IsOrderly}

abbrev pub St : Type 0
St = State (Option ℕ) View

abbrev pub board : List ℕ → List (Maybe (Option ℕ)) → List View → St
board ws hs vs = record { words = ws; homes = hs; views = vs }

-- The views after the view of seat `id` has changed from `v` to `w`.
module _ (s : St) (o : IsOrderly s) (id : ℕ) (v w : View) (me : get_elem? s.views id ≡ some v) (same : w.number ≡ v.number) (more : v.made ≤ w.made) (kept : (note : ℕ × ℕ) → Contains v.notes note → Contains w.notes note) where
  abbrev after : List View
  after = set s.views id w

  before : (i : ℕ) (u : View) → get_elem? after i ≡ some u → (u' : View) × (get_elem? s.views i ≡ some u') × (u'.number ≡ u.number)
  before i u e = ⊎_elim (λ (t : (i ≡ id) × (w ≡ u)). (v, subst (λ (k : ℕ). get_elem? s.views k ≡ some v) (sym t.0) me, sym same ∙ ap (λ (x : View). x.number) t.1))
      (λ (t : (i ≢ id) × (get_elem? s.views i ≡ some u)). (u, t.1, refl)) (at_set s.views id i w u e)

  first_of : (f : View) × (get_elem? after 0 ≡ some f) × (f.number ≡ 0) × (o.first.made ≤ f.made)
  first_of = dite (ℕ_discrete 0 id)
      (λ e. let is : o.first ≡ v = some-injective o.first v (sym o.at_first ∙ (subst (λ (k : ℕ). get_elem? s.views k ≡ some v) (sym e) me)) in (
        w,
        subst (λ (k : ℕ). get_elem? (set s.views id w) k ≡ some w) (sym e) (set_here s.views id w (within s.views id v me)),
        same ∙ sym (ap (λ (x : View). x.number) is) ∙ o.zeroth,
        (let m : o.first.made ≡ v.made = ap (λ (x : View). x.made) is in omega arith),
      ))
      (λ ne. (o.first, set_else s.views id 0 w ne ∙ o.at_first, o.zeroth, omega arith))

  still : (x : ℕ) → IsNamed s.views x → IsNamed after x
  still x n = ⊎_elim (λ (z : x ≡ 0). inl z)
      (λ (t : (seat : ℕ) × (u : View) × (get_elem? s.views seat ≡ some u) × (x ≡ u.number + 1)). inr (dite (ℕ_discrete t.0 id)
      (λ e. let is : t.1 ≡ v = some-injective t.1 v (sym t.2 ∙ subst (λ (k : ℕ). get_elem? s.views k ≡ some v) (sym e) me) in
      (id, w, set_here s.views id w (within s.views id v me), t.3 ∙ ap (λ (n : ℕ). n + 1) (ap (λ (y : View). y.number) is ∙ sym same)))
      (λ ne. (t.0, t.1, set_else s.views id t.0 w ne ∙ t.2, t.3)))) n

  -- If `WasTaken` holds for the old views, it holds for the new views.
  lifted : (stripe word : ℕ) → WasTaken s.views stripe word → WasTaken after stripe word
  lifted stripe word t = dite (ℕ_discrete t.0 id)
      (λ e. let is : t.1 ≡ v = some-injective t.1 v (sym t.2 ∙ subst (λ (k : ℕ). get_elem? s.views k ≡ some v) (sym e) me) in
      (id, w, set_here s.views id w (within s.views id v me), t.3 ∙ ap (λ (n : ℕ). n + 1) (ap (λ (y : View). y.number) is ∙ sym same), kept (stripe, 0) (subst (λ (u : View). Contains u.notes (stripe, 0)) is t.4)))
      (λ ne. (t.0, t.1, set_else s.views id t.0 w ne ∙ t.2, t.3, t.4))

  -- If words and slots change, and the view `w` replaces `v`, the rule still holds. The premises
  -- say how each word and each slot may change.
  pub moved : (ws : List ℕ) (hs : List (Maybe (Option ℕ))) → length ws ≡ length s.words → length hs ≡ length s.homes
      → ((k : ℕ) → (get_or ws k 0 ≡ 0) ⊎ ((get_or ws k 0 ≡ v.number + 1) ⊎ (get_or ws k 0 ≡ get_or s.words k 0)))
      → ((k : ℕ) → times k w.held ≡ once_for v.number (get_or ws k 0))
      → ((n k : ℕ) → n ≢ v.number → once_for n (get_or ws k 0) ≡ once_for n (get_or s.words k 0))
      → ((k : ℕ) → k < length s.words → get_or ws k 0 ≡ 0 → get_elem? hs k ≡ some (some (Some k)))
      → ((k : ℕ) → k < length s.words → get_or ws k 0 ≢ 0 → get_elem? hs k ≡ some none)
      → ((k : ℕ) → Holds w k → Contains w.notes (k, 0))
      → ((k word : ℕ) → word ≢ 0 → Contains w.notes (k, word) → WasTaken s.views k word)
      → IsOrderly (board ws hs after)
  moved ws hs long wide words mine others home out taken noted = let f = first_of in record {
    first = f.0;
    wide = wide ∙ o.wide ∙ sym long;
    apart = λ i j u x a b e. let p = before i u a in let q = before j x b in o.apart i j p.0 q.0 p.1 q.1 (p.2 ∙ e ∙ sym q.2);
    at_first = f.1;
    zeroth = f.2;
    below = λ i u e. let p = before i u e in let low : p.0.number < o.first.made = o.below i p.0 p.1 in let f₃ : o.first.made ≤ f.0.made = f.3 in let p₂ : p.0.number ≡ u.number = p.2 in omega arith;
    named = λ k lt. ⊎_elim (λ (z : get_or ws k 0 ≡ 0). inl z) (λ (t : (get_or ws k 0 ≡ v.number + 1) ⊎ (get_or ws k 0 ≡ get_or s.words k 0)). ⊎_elim
        (λ (y : get_or ws k 0 ≡ v.number + 1). inr (id, w, set_here s.views id w (within s.views id v me), y ∙ ap (λ (n : ℕ). n + 1) (sym same)))
        (λ (y : get_or ws k 0 ≡ get_or s.words k 0). subst (IsNamed after) (sym y) (still (get_or s.words k 0) (o.named k (subst (λ (n : ℕ). k < n) long lt)))) t) (words k);
    held = λ i u e k. ⊎_elim
        (λ (t : (i ≡ id) × (w ≡ u)). subst (λ (y : View). times k y.held ≡ once_for y.number (get_or ws k 0)) t.1 (mine k ∙ ap (λ (n : ℕ). once_for n (get_or ws k 0)) (sym same)))
        (λ (t : (i ≢ id) × (get_elem? s.views i ≡ some u)). o.held i u t.1 k ∙ sym (others u.number k (λ z. t.0 (o.apart i id u v t.1 me z)))) (at_set s.views id i w u e);
    home = λ k lt. home k (subst (λ (n : ℕ). k < n) long lt);
    out = λ k lt. out k (subst (λ (n : ℕ). k < n) long lt);
    taken = λ i u e k h. ⊎_elim
        (λ (t : (i ≡ id) × (w ≡ u)). subst (λ (y : View). Contains y.notes (k, 0)) t.1 (taken k (subst (λ (y : View). Holds y k) (sym t.1) h)))
        (λ (t : (i ≢ id) × (get_elem? s.views i ≡ some u)). o.taken i u t.1 k h) (at_set s.views id i w u e);
    noted = λ i u e k word ne has. lifted k word (⊎_elim
        (λ (t : (i ≡ id) × (w ≡ u)). noted k word ne (subst (λ (y : View). Contains y.notes (k, word)) (sym t.1) has))
        (λ (t : (i ≢ id) × (get_elem? s.views i ≡ some u)). o.noted i u t.1 k word ne has) (at_set s.views id i w u e));
  }

  -- If only one seat's view changes, but no word and no slot, the rule still holds. The new view
  -- must hold the same stripes as the old one.
  pub unmoved : (hs : List (Maybe (Option ℕ))) → length hs ≡ length s.homes → ((k : ℕ) → get_elem? hs k ≡ get_elem? s.homes k)
      → ((k : ℕ) → times k w.held ≡ times k v.held)
      → ((k word : ℕ) → word ≢ 0 → Contains w.notes (k, word) → WasTaken s.views k word)
      → IsOrderly (board s.words hs after)
  unmoved hs wide slots alike noted =
      moved s.words hs refl wide (λ k. inr (inr refl)) (λ k. alike k ∙ o.held id v me k) (λ n k ne. refl) (λ k lt z. slots k ∙ o.home k lt z) (λ k lt ne. slots k ∙ o.out k lt ne)
      (λ k h. kept (k, 0) (o.taken id v me k (omega (arith, h, alike k)))) noted

unnamed : (s : St) (o : IsOrderly s) (number : ℕ) → ((i : ℕ) (u : View) → get_elem? s.views i ≡ some u → u.number < number) → (k : ℕ) → get_or s.words k 0 ≢ number + 1
unnamed s o number new k e = dite (dec_le (length s.words) k)
    (λ ge. let z = get_or_past s.words k 0 ge in omega arith)
    (λ lt. ⊎_elim (λ (z : get_or s.words k 0 ≡ 0). omega arith)
    (λ (t : (seat : ℕ) × (u : View) × (get_elem? s.views seat ≡ some u) × (get_or s.words k 0 ≡ u.number + 1)). let lt' = new t.0 t.1 t.2 in let t₃ : get_or s.words k 0 ≡ t.1.number + 1 = t.3 in omega arith) (o.named k (omega arith)))

pub none_in : {X : Type 0} (x : X) → Contains [] x → ⊥
none_in x c = omega (arith, c.1)

-- Adding a seat keeps the rule if the new seat's number is above the number of each other seat, and
-- below the first view's count of seats (`made`).
pub joined : (s : St) (o : IsOrderly s) (number : ℕ) → number < o.first.made → ((i : ℕ) (u : View) → get_elem? s.views i ≡ some u → u.number < number) → IsOrderly (board s.words s.homes (s.views ++ view number 0 [] [] ∷ []))
joined s o number low new = let w = view number 0 [] [] in let vs = s.views ++ w ∷ [] in
    let at_new : get_elem? vs (length s.views) ≡ some w = at_last s.views w (length s.views) refl in
    let place : (i : ℕ) (u : View) → get_elem? vs i ≡ some u → (get_elem? s.views i ≡ some u) ⊎ ((i ≡ length s.views) × (w ≡ u)) = λ i u e. at_end s.views w u i e in
    let longer : (k word : ℕ) → WasTaken s.views k word → WasTaken vs k word = λ k word t. (t.0, t.1, at_longer s.views (w ∷ []) t.0 t.1 t.2, t.3, t.4) in
    record {
      first = o.first;
      wide = o.wide;
      apart = λ i j u x a b e. ⊎_elim
          (λ (p : get_elem? s.views i ≡ some u). ⊎_elim (λ (q : get_elem? s.views j ≡ some x). o.apart i j u x p q e)
          (λ (q : (j ≡ length s.views) × (w ≡ x)). let lt = new i u p in let y : number ≡ x.number = ap (λ (z : View). z.number) q.1 in absurd (omega arith)) (place j x b))
          (λ (p : (i ≡ length s.views) × (w ≡ u)). ⊎_elim (λ (q : get_elem? s.views j ≡ some x). let lt = new j x q in let y : number ≡ u.number = ap (λ (z : View). z.number) p.1 in absurd (omega arith))
          (λ (q : (j ≡ length s.views) × (w ≡ x)). p.0 ∙ sym q.0) (place j x b)) (place i u a);
      at_first = at_longer s.views (w ∷ []) 0 o.first o.at_first;
      zeroth = o.zeroth;
      below = λ i u e. ⊎_elim (λ (p : get_elem? s.views i ≡ some u). o.below i u p) (λ (p : (i ≡ length s.views) × (w ≡ u)). let y : number ≡ u.number = ap (λ (z : View). z.number) p.1 in omega arith) (place i u e);
      named = λ k lt. ⊎_elim (λ (z : get_or s.words k 0 ≡ 0). inl z)
          (λ (t : (seat : ℕ) × (u : View) × (get_elem? s.views seat ≡ some u) × (get_or s.words k 0 ≡ u.number + 1)). inr (t.0, t.1, at_longer s.views (w ∷ []) t.0 t.1 t.2, t.3)) (o.named k lt);
      held = λ i u e k. ⊎_elim (λ (p : get_elem? s.views i ≡ some u). o.held i u p k)
          (λ (p : (i ≡ length s.views) × (w ≡ u)). subst (λ (y : View). times k y.held ≡ once_for y.number (get_or s.words k 0)) p.1 (sym (once_no number (get_or s.words k 0) (unnamed s o number new k)))) (place i u e);
      home = o.home;
      out = o.out;
      taken = λ i u e k h. ⊎_elim (λ (p : get_elem? s.views i ≡ some u). o.taken i u p k h)
          (λ (p : (i ≡ length s.views) × (w ≡ u)). let none : Holds w k = subst (λ (y : View). Holds y k) (sym p.1) h in absurd (omega (arith, none))) (place i u e);
      noted = λ i u e k word ne has. ⊎_elim (λ (p : get_elem? s.views i ≡ some u). longer k word (o.noted i u p k word ne has))
          (λ (p : (i ≡ length s.views) × (w ≡ u)). absurd (none_in (k, word) (subst (λ (y : View). Contains y.notes (k, word)) (sym p.1) has))) (place i u e);
    }
