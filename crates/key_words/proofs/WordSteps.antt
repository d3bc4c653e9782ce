-- Shows that each step keeps the rule of the words, because it changes only a word that is 0 or
-- that names its own seat.
use Rattle.std.proofs.Common.{◌≡◌, ◌≢◌, ℕ, zero, suc, ◌+◌, ◌<◌, List, [], ◌∷◌, ◌++◌, map, length, get_or, set, Contains, Option, None, Some, sym, refl, ◌∙◌, ap, subst, inl, inr, ⊎_elim, arith, eqb, length-set, get_or-set_other, get_or-set_same}
use mathlib.Core.Logic.{dite}
use mathlib.Core.Option.{Option as Maybe, some, none, some-injective}
use native.Mathlib.Decide.{ℕ_discrete}
use lib.ListN.{get_elem?}
use lib.Seq.{set-get_or}
use prog.Atomic.{either}
use Rattle.atomic_table.specs.Table.{Act, keeps, takes, gives, chain, step, Valid, homes_after, carried_after, stepped, rest, opening, Allows, Splits}
use Rattle.std.proofs.lemmas.List.{length-map}
use Rattle.std.proofs.lemmas.Option.{none-some}
use Rattle.std.proofs.lemmas.List.Elements.{Contains-push, Contains-append_left, Contains-push_cases}
use Rattle.atomic_table.proofs.Lists.{at_set, set_here, set_else, exchanged}
use Rattle.txn_words.specs.Held.{times, removed, once_for}
use Rattle.txn_words.proofs.Holding.{once_yes, once_no, once_kept, own_word, times_same, times_other, times_taken, times_given, removed_same, removed_other, times_removed_le, within, only}
use Rattle.key_words.specs.declared.view.View.{View}
use Rattle.key_words.specs.Rule.{view, Holds, WasTaken, IsOrderly}
use Rattle.key_words.specs.Steps.{Sat, with_note, gained, lost, elder, newborn, emptied, took, brought, freed}
use Rattle.key_words.specs.Laws.{HeldOnce}
use Rattle.key_words.proofs.Keeps.{St, board, moved, unmoved, joined, none_in}

abbrev word_in : List ℕ → ℕ → ℕ
word_in words stripe = get_or words stripe 0

abbrev Slots : Type 0
Slots = List (Maybe (Option ℕ))

in_range : (l : List ℕ) (k n : ℕ) → get_or l k 0 ≡ n + 1 → k < length l
in_range [] k n e = absurd (omega arith)
in_range (x ∷ xs) zero n e = omega arith
in_range (x ∷ xs) (suc k) n e = let h : k < length xs = in_range xs k n e in omega arith

-- A word that is not 0 names a seat that has taken the stripe.
seen_taken : (s : St) → IsOrderly s → (i : ℕ) → i < length s.words → get_or s.words i 0 ≢ 0 → WasTaken s.views i (get_or s.words i 0)
seen_taken s o i inside ne = ⊎_elim (λ (z : get_or s.words i 0 ≡ 0). absurd (ne z))
    (λ (t : (seat : ℕ) × (u : View) × (get_elem? s.views seat ≡ some u) × (get_or s.words i 0 ≡ u.number + 1)).
    let one : times i t.1.held ≡ 1 = o.held t.0 t.1 t.2 i ∙ once_yes t.1.number (get_or s.words i 0) t.3 in
    (t.0, t.1, t.2, t.3, o.taken t.0 t.1 t.2 i (omega (arith, one)))) (o.named i inside)

added_note : (s : St) → IsOrderly s → (id : ℕ) (v : View) → get_elem? s.views id ≡ some v → (i x : ℕ) → (x ≢ 0 → WasTaken s.views i x)
    → (k word : ℕ) → word ≢ 0 → Contains (v.notes ++ (i, x) ∷ []) (k, word) → WasTaken s.views k word
added_note s o id v me i x true k word ne has = ⊎_elim (λ (old : Contains v.notes (k, word)). o.noted id v me k word ne old)
    (λ (p : ◌≡◌ {A = ℕ × ℕ} (i, x) (k, word)). subst (λ (q : ℕ × ℕ). q.1 ≢ 0 → WasTaken s.views q.0 q.1) p true ne) (Contains-push_cases v.notes (i, x) (k, word) has)

abbrev Goes : St → ℕ → ℕ → Sat → (ℕ → Sat → Type 0) → ℕ → Type 0
Goes s i id m then k = (w : View) × (a : Act (Option ℕ)) × Valid s.homes m.1 a × IsOrderly (stepped s i k id m.1 w a) × then (get_or s.words i 0) (w, carried_after m.1 a)

pub tries : (n id : ℕ) (m : Sat) (i own : ℕ) (said : Maybe (Option ℕ)) → own ≡ m.0.number + 1 → i < n → Allows IsOrderly n id m i (λ y. either (eqb y 0) own y) (took (step n i 0 own said) m)
tries n id m i own said e lt s o wide me _ = let v : View = m.0 in let x : ℕ = get_or s.words i 0 in
    let inside : i < length s.words = (let w₁ = o.wide in omega arith) in
    exchanged x 0 own (Goes s i id m (took (step n i 0 own said) m))
    (λ z. let ws = set s.words i own in let hs = set s.homes i none in
    let here : get_or ws i 0 ≡ own = get_or-set_same s.words i own 0 inside in
    let other : (k : ℕ) → k ≢ i → get_or ws k 0 ≡ get_or s.words k 0 = λ k ne. get_or-set_other s.words i k own 0 ne in (
      gained v i,
      takes i (Some i),
      o.home i inside z,
      moved s o id v (gained v i) me refl (omega arith) (λ note. Contains-append_left v.notes ((i, 0) ∷ []) note) ws hs (length-set s.words i own) (length-set s.homes i none)
          (λ k. dite (ℕ_discrete k i) (λ (y : k ≡ i). inr (inl (subst (λ (j : ℕ). get_or ws j 0 ≡ v.number + 1) (sym y) (here ∙ e)))) (λ ne. inr (inr (other k ne))))
          (λ k. times_taken (word_in s.words) (word_in ws) i other v.number v.held z (here ∙ e) k (o.held id v me k))
          (λ a k ne. once_kept (word_in s.words) (word_in ws) i other a (λ q. omega arith) (λ q. ne (omega arith)) k)
          (λ k short q. dite (ℕ_discrete k i) (λ (y : k ≡ i). let is : get_or ws k 0 ≡ own = subst (λ (j : ℕ). get_or ws j 0 ≡ own) (sym y) here in absurd (omega arith))
          (λ no. set_else s.homes i k none no ∙ o.home k short (sym (other k no) ∙ q)))
          (λ k short q. dite (ℕ_discrete k i) (λ (y : k ≡ i). subst (λ (j : ℕ). get_elem? hs j ≡ some none) (sym y) (set_here s.homes i none (omega arith)))
          (λ no. set_else s.homes i k none no ∙ o.out k short (λ z'. q (other k no ∙ z'))))
          (λ k h. dite (ℕ_discrete k i)
          (λ (y : k ≡ i). subst (λ (j : ℕ). Contains (v.notes ++ (i, 0) ∷ []) (j, 0)) (sym y) (Contains-push v.notes (i, 0)))
          (λ no. Contains-append_left v.notes ((i, 0) ∷ []) (k, 0) (o.taken id v me k (omega (arith, h, times_other k i v.held (λ y. no (sym y)))))))
          (added_note s o id v me i 0 (λ ne. absurd (ne refl))),
      ((λ _. refl), λ ne. absurd (ne z)),
    ))
    (λ ne. let w = with_note v i x in (
      w,
      keeps,
      tt,
      subst (λ (ws : List ℕ). IsOrderly (board ws s.homes (set s.views id w))) (sym (set-get_or s.words i 0)) (unmoved s o id v w me refl (omega arith) (λ note. Contains-append_left v.notes ((i, x) ∷ []) note) s.homes refl (λ k. refl) (λ k. refl) (added_note s o id v me i x (seen_taken s o i inside))),
      ((λ z. absurd (ne z)), λ _. (refl, ((λ h. own_word v.number x (times i v.held) (o.held id v me i) h), λ q. omega (arith, o.held id v me i, once_yes v.number x q)))),
    ))

front_of : (hs : Slots) (c : List (ℕ × Option ℕ)) (x k : ℕ) (ks : List ℕ) → c ≡ (k, None) ∷ emptied ks → k ≢ x → x < length hs → k < length hs → get_elem? hs x ≡ some (some None)
    → Valid hs c (chain gives (chain (takes x None) (takes k None)))
    × (carried_after c (chain gives (chain (takes x None) (takes k None))) ≡ emptied (k ∷ x ∷ ks))
    × ((j : ℕ) → j ≢ x → j ≢ k → get_elem? (homes_after hs c (chain gives (chain (takes x None) (takes k None)))) j ≡ get_elem? hs j)
    × (get_elem? (homes_after hs c (chain gives (chain (takes x None) (takes k None)))) x ≡ some none)
    × (get_elem? (homes_after hs c (chain gives (chain (takes x None) (takes k None)))) k ≡ some none)
    × (length (homes_after hs c (chain gives (chain (takes x None) (takes k None)))) ≡ length hs)
front_of hs c x k ks e ne lx lk at = let a : Act (Option ℕ) = chain gives (chain (takes x None) (takes k None)) in
    subst (λ (d : List (ℕ × Option ℕ)). Valid hs d a × (carried_after d a ≡ emptied (k ∷ x ∷ ks)) × ((j : ℕ) → j ≢ x → j ≢ k → get_elem? (homes_after hs d a) j ≡ get_elem? hs j)
    × (get_elem? (homes_after hs d a) x ≡ some none) × (get_elem? (homes_after hs d a) k ≡ some none) × (length (homes_after hs d a) ≡ length hs)) (sym e)
    (let h₁ = set hs k (some None) in let h₂ = set h₁ x none in let h₃ = set h₂ k none in
    let l₁ : length h₁ ≡ length hs = length-set hs k (some None) in let l₂ : length h₂ ≡ length h₁ = length-set h₁ x none in let l₃ : length h₃ ≡ length h₂ = length-set h₂ k none in
    let xk : x ≢ k = λ y. ne (sym y) in (
      (tt, (set_else hs k x (some None) xk ∙ at, set_else h₁ x k none ne ∙ set_here hs k (some None) lk)),
      refl,
      (λ j jx jk. set_else h₂ k j none jk ∙ set_else h₁ x j none jx ∙ set_else hs k j (some None) jk),
      set_else h₂ k x none xk ∙ set_here h₁ x none (omega arith),
      set_here h₂ k none (omega arith),
      l₃ ∙ l₂ ∙ l₁,
    ))

-- The act `a` moves the slot of the stripe `k` to the front of the carried slots, and leaves the
-- homes unchanged.
pub record Fronts (hs : Slots) (k : ℕ) (ks : List ℕ) (a : Act (Option ℕ)) : Type 0 where
  pub valid : Valid hs (emptied ks) a
  pub order : carried_after (emptied ks) a ≡ emptied (k ∷ removed k ks)
  pub same : (j : ℕ) → get_elem? (homes_after hs (emptied ks) a) j ≡ get_elem? hs j
  pub long : length (homes_after hs (emptied ks) a) ≡ length hs

pub fronts : (hs : Slots) (k : ℕ) (ks : List ℕ) → ((j : ℕ) → 0 < times j ks → (times j ks ≡ 1) × (get_elem? hs j ≡ some none)) → 0 < times k ks → (a : Act (Option ℕ)) × Fronts hs k ks a
fronts hs k [] each h = absurd (omega arith)
fronts hs k (x ∷ ks) each h = dite (ℕ_discrete x k)
    (λ (e : x ≡ k). (
      keeps,
      record {
        valid = tt;
        order = ap (λ (l : List ℕ). emptied l) (ap (λ (y : ℕ). y ∷ ks) e ∙ ap (λ (l : List ℕ). k ∷ l) (sym (subst (λ (y : ℕ). removed k (y ∷ ks) ≡ ks) (sym e) (removed_same k ks))));
        same = λ j. refl;
        long = refl;
      },
    ))
    (λ ne. let h₁ = set hs x (some None) in
    let here = each x (omega (arith, times_same x ks)) in
    let lx : x < length hs = within hs x none here.1 in
    let alone : times x ks ≡ 0 = (let one : times x (x ∷ ks) ≡ 1 = here.0 in omega (arith, times_same x ks)) in
    let there : 0 < times k ks = omega (arith, times_other k x ks ne) in
    let atk = each k h in
    let lk : k < length hs = within hs k none atk.1 in
    let l₁ : length h₁ ≡ length hs = length-set hs x (some None) in
    let deep = fronts h₁ k ks (λ j hj. let nj : j ≢ x = (λ y. let z : times j ks ≡ 0 = subst (λ (i : ℕ). times i ks ≡ 0) (sym y) alone in omega arith) in
    let old = each j (omega (arith, times_other j x ks (λ y. nj (sym y)))) in
    (sym (times_other j x ks (λ y. nj (sym y))) ∙ old.0, set_else hs x j (some None) nj ∙ old.1)) there in
    let f = deep.1 in let h₂ = homes_after h₁ (emptied ks) deep.0 in let c₂ = carried_after (emptied ks) deep.0 in
    let l₂ : length h₂ ≡ length h₁ = f.long in
    let swap = front_of h₂ c₂ x k (removed k ks) f.order (λ y. ne (sym y)) (omega arith) (omega arith) (f.same x ∙ set_here hs x (some None) lx) in (
      chain gives (chain deep.0 (chain gives (chain (takes x None) (takes k None)))),
      record {
        valid = (tt, (f.valid, swap.0));
        order = swap.1 ∙ ap (λ (l : List ℕ). emptied (k ∷ l)) (sym (removed_other k x ks ne));
        same = λ j. dite (ℕ_discrete j x) (λ (y : j ≡ x). subst (λ (i : ℕ). get_elem? (homes_after h₂ c₂ (chain gives (chain (takes x None) (takes k None)))) i ≡ get_elem? hs i) (sym y) (swap.3 ∙ sym here.1))
            (λ nx. dite (ℕ_discrete j k) (λ (y : j ≡ k). subst (λ (i : ℕ). get_elem? (homes_after h₂ c₂ (chain gives (chain (takes x None) (takes k None)))) i ≡ get_elem? hs i) (sym y) (swap.4 ∙ sym atk.1))
            (λ nk. swap.2 j nx nk ∙ f.same j ∙ set_else hs x j (some None) nx));
        long = swap.5 ∙ l₂ ∙ l₁;
      },
    ))

pub brings : (n id : ℕ) (m : Sat) (i : ℕ) → m.1 ≡ emptied m.0.held → 0 < times i m.0.held → Allows IsOrderly n id m i (λ y. y) (brought (step n i 0 0 none) m)
brings n id m i e h s o wide me _ = let v : View = m.0 in
    let all : (j : ℕ) → 0 < times j v.held → (times j v.held ≡ 1) × (get_elem? s.homes j ≡ some none)
    = λ j hj. let is : get_or s.words j 0 ≡ v.number + 1 = own_word v.number (get_or s.words j 0) (times j v.held) (o.held id v me j) hj in
    (o.held id v me j ∙ once_yes v.number (get_or s.words j 0) is, o.out j (in_range s.words j v.number is) (λ z. omega arith)) in
    let t = fronts s.homes i v.held all h in let f = t.1 in
    subst (λ (c : List (ℕ × Option ℕ)). (w : View) × (a : Act (Option ℕ)) × Valid s.homes c a × IsOrderly (stepped s i (get_or s.words i 0) id c w a) × ◌≡◌ {A = Sat} (w, carried_after c a) (v, emptied (i ∷ removed i v.held))) (sym e) (
      v,
      t.0,
      f.valid,
      subst (λ (ws : List ℕ). IsOrderly (board ws (homes_after s.homes (emptied v.held) t.0) (set s.views id v))) (sym (set-get_or s.words i 0))
          (unmoved s o id v v me refl (omega arith) (λ note had. had) (homes_after s.homes (emptied v.held) t.0) f.long f.same (λ k. refl) (o.noted id v me)),
      ap (λ (c : List (ℕ × Option ℕ)). let p : Sat = (v, c) in p) f.order,
    )

pub frees : (n id : ℕ) (m : Sat) (i : ℕ) (more : List (ℕ × Option ℕ)) → m.1 ≡ (i, Some i) ∷ more → 0 < times i m.0.held → Allows IsOrderly n id m i (λ _. 0) (λ _. freed (step n i 0 0 none) m 0)
frees n id m i more e h s o wide me _ = let v : View = m.0 in let x : ℕ = get_or s.words i 0 in let w = lost v i in
    let is : x ≡ v.number + 1 = own_word v.number x (times i v.held) (o.held id v me i) h in
    let inside : i < length s.words = in_range s.words i v.number is in
    let ws = set s.words i 0 in let hs = set s.homes i (some (Some i)) in
    let here : get_or ws i 0 ≡ 0 = get_or-set_same s.words i 0 0 inside in
    let other : (k : ℕ) → k ≢ i → get_or ws k 0 ≡ get_or s.words k 0 = λ k ne. get_or-set_other s.words i k 0 0 ne in
    let room : i < length s.homes = (let w₁ = o.wide in omega arith) in
    subst (λ (c : List (ℕ × Option ℕ)). (w : View) × (a : Act (Option ℕ)) × Valid s.homes c a × IsOrderly (stepped s i 0 id c w a) × ◌≡◌ {A = Sat} (w, carried_after c a) (lost v i, rest c)) (sym e) (
      w,
      gives,
      tt,
      moved s o id v w me refl (omega arith) (λ note had. had) ws hs (length-set s.words i 0) (length-set s.homes i (some (Some i)))
          (λ k. dite (ℕ_discrete k i) (λ (y : k ≡ i). inl (subst (λ (j : ℕ). get_or ws j 0 ≡ 0) (sym y) here)) (λ ne. inr (inr (other k ne))))
          (λ k. times_given (word_in s.words) (word_in ws) i other v.number v.held is here k (o.held id v me k))
          (λ a k ne. once_kept (word_in s.words) (word_in ws) i other a (λ q. ne (omega arith)) (λ q. omega arith) k)
          (λ k short q. dite (ℕ_discrete k i) (λ (y : k ≡ i). subst (λ (j : ℕ). get_elem? hs j ≡ some (some (Some j))) (sym y) (set_here s.homes i (some (Some i)) room))
          (λ no. set_else s.homes i k (some (Some i)) no ∙ o.home k short (sym (other k no) ∙ q)))
          (λ k short q. dite (ℕ_discrete k i) (λ (y : k ≡ i). absurd (q (subst (λ (j : ℕ). get_or ws j 0 ≡ 0) (sym y) here)))
          (λ no. set_else s.homes i k (some (Some i)) no ∙ o.out k short (λ z. q (other k no ∙ z))))
          (λ k h. o.taken id v me k (omega (arith, h, times_removed_le i k v.held)))
          (o.noted id v me),
      refl,
    )

pub splits : (id : ℕ) (v : View) → v.number ≡ 0 → Splits IsOrderly id v (elder v) (newborn v)
splits id v z s o me = let w = elder v in
    let at : id ≡ 0 = o.apart id 0 v o.first me o.at_first (z ∙ sym o.zeroth) in
    let is : v ≡ o.first = some-injective v o.first (sym (subst (λ (k : ℕ). get_elem? s.views k ≡ some v) at me) ∙ o.at_first) in
    let made : v.made ≡ o.first.made = ap (λ (x : View). x.made) is in
    let o' : IsOrderly (board s.words s.homes (set s.views id w)) = unmoved s o id v w me refl (omega arith) (λ note had. had) s.homes refl (λ k. refl) (λ k. refl) (o.noted id v me) in
    let here : get_elem? (set s.views id w) 0 ≡ some w = subst (λ (k : ℕ). get_elem? (set s.views id w) k ≡ some w) at (set_here s.views id w (within s.views id v me)) in
    let is' : w ≡ o'.first = some-injective w o'.first (sym here ∙ o'.at_first) in
    let made' : v.made + 1 ≡ o'.first.made = ap (λ (x : View). x.made) is' in
    joined (board s.words s.homes (set s.views id w)) o' v.made (omega arith)
    (λ i u e. ⊎_elim (λ (t : (i ≡ id) × (w ≡ u)). let n : v.number ≡ u.number = ap (λ (x : View). x.number) t.1 in let lt = o.below id v me in omega arith)
    (λ (t : (i ≢ id) × (get_elem? s.views i ≡ some u)). let lt = o.below i u t.1 in omega arith) (at_set s.views id i w u e))

at_or : (xs : List (Option ℕ)) (k j : ℕ) → get_or xs k None ≡ Some j → get_elem? (map some xs) k ≡ some (some (Some j))
at_or [] k j e = absurd (none-some j e)
at_or (x ∷ xs) zero j e = ap (λ (o : Option ℕ). some (some o)) e
at_or (x ∷ xs) (suc k) j e = at_or xs k j e

pub starts : (ws : List ℕ) (xs : List (Option ℕ)) → ((k : ℕ) → get_or ws k 0 ≡ 0) → length xs ≡ length ws → ((k : ℕ) → k < length ws → get_or xs k None ≡ Some k) → IsOrderly (opening ws xs (view 0 1 [] []))
starts ws xs free long rights = let v = view 0 1 [] [] in record {
  first = v;
  wide = length-map xs some ∙ long;
  apart = λ i j u x a b e. (only v u i a).0 ∙ sym (only v x j b).0;
  at_first = refl;
  zeroth = refl;
  below = λ i u e. let n : 0 ≡ u.number = ap (λ (x : View). x.number) (only v u i e).1 in omega arith;
  named = λ k lt. inl (free k);
  held = λ i u e k. subst (λ (x : View). times k x.held ≡ once_for x.number (get_or ws k 0)) (only v u i e).1 (sym (once_no 0 (get_or ws k 0) (λ q. let z = free k in omega arith)));
  home = λ k lt z. at_or xs k k (rights k lt);
  out = λ k lt ne. absurd (ne (free k));
  taken = λ i u e k h. let none : Holds (view 0 1 [] []) k = subst (λ (x : View). Holds x k) (sym (only v u i e).1) h in absurd (omega (arith, none));
  noted = λ i u e k word ne has. absurd (none_in (k, word) (subst (λ (x : View). Contains x.notes (k, word)) (sym (only v u i e).1) has));
}

pub held_once : HeldOnce
held_once s o i j v w a b k h g = let x : ℕ = get_or s.words k 0 in
    let p : x ≡ v.number + 1 = own_word v.number x (times k v.held) (o.held i v a k) h in let q : x ≡ w.number + 1 = own_word w.number x (times k w.held) (o.held j w b k) g in
    o.apart i j v w a b (omega arith)
