-- A host that merges callers one after another, between two looks at the history, has merged them
-- all. Assumes nothing.
use Rattle.std.proofs.Common.{◌≡◌, ℕ, suc, ◌<◌, ◌||◌, ◌++◌, List, [], ◌∷◌, Bool, map, slice_get, Some, inl, inr, sym, refl, ap, subst, ◌∙◌, arith}
use Rattle.txn_words.specs.declared.entry.Entry.{Entry}
use Rattle.striped_map.specs.declared.keep.Keep.TheVariants.{Entries}
use Rattle.striped_map.specs.declared.map.StripedMap.{StripedMap}
use Rattle.striped_map.specs.declared.seat.MapSeat.{MapSeat}
use Rattle.striped_map.specs.declared.view.View.{View}
use Rattle.striped_map.specs.Hosts.{CollectsIn, MergesAtMost, left_by, one_made}
use Rattle.striped_map.specs.Seats.{keep_of, known}
use Rattle.striped_map.specs.Steps.{AreMade, HasWhole, IsMerged, taken_in}

pub none_more : (m : StripedMap) (v : View) → CollectsIn m v v
none_more m v = record { ended = []; each = tt; kept = λ _. refl; whole = λ _. refl; taken_are = refl; made_are = refl }

-- If nothing was merged, the merged callers are the same.
pub taken_same : (m : StripedMap) (v w : View) (x : CollectsIn m v w) → x.ended ≡ [] → w.retired ≡ v.retired
taken_same m v w x none = x.taken_are ∙ ap (λ (seats : List MapSeat). map left_by seats ++ v.retired) none

pub made_same : (m : StripedMap) (v w : View) (x : CollectsIn m v w) → x.ended ≡ [] → w.parent ≡ v.parent
made_same m v w x none = x.made_are ∙ ap (one_made v.parent) none

-- If all callers had been merged before, the merged callers are the same.
pub none_left : (m : StripedMap) (v w : View) → CollectsIn m v w → HasWhole v → w.retired ≡ v.retired
none_left m v w x all = taken_same m v w x (x.whole all)

-- No number is merged twice.
once : (v u w : View) (c : ℕ) → w ≡ taken_in v u → AreMade w → u.number ≡ c → IsMerged c v.retired → ⊥
once v u w c is made same merged =
    let j = merged.0 in let r = merged.1 in
    let first : slice_get w.retired 0 ≡ Some (u.number, u.seen) = ap (λ (x : View). slice_get x.retired 0) is in
    let old : slice_get w.retired (suc j) ≡ Some r = ap (λ (x : View). slice_get x.retired (suc j)) is ∙ merged.2 in
    let e : 0 ≡ suc j = made.once 0 (suc j) (u.number, u.seen) r first old (same ∙ sym merged.3) in omega arith

-- At most one more caller is merged.
pub one_more : (m : StripedMap) (v w u : View) (c : ℕ) → keep_of m ≡ Entries → 0 < c → c < v.made → CollectsIn m v w → MergesAtMost m c w u → CollectsIn m v u
one_more m v w u c keep some low x (inl same) = subst (CollectsIn m v) (sym same) x
one_more m v w u c keep some low x (inr one) = let seat = one.0 in record {
  ended = seat ∷ x.ended;
  each = (one.1, x.each);
  kept = λ no. absurd (no keep);
  whole = λ all. absurd (once w (known seat) u c one.3 one.4 one.2 (subst (IsMerged c) (sym (none_left m v w x all)) (all.all c some low)));
  taken_are = ap (λ (z : View). z.retired) one.3 ∙ ap (λ (rs : List (ℕ × List Entry)). left_by seat ∷ rs) x.taken_are;
  made_are = ap (λ (z : View). z.parent) one.3 ∙ ap (λ (b : Bool). b || (known seat).parent) x.made_are;
}

-- A look at the history before and one after change nothing of what was merged.
pub looked_on : (m : StripedMap) (v v1 w1 w : View) → v1.retired ≡ v.retired → v1.parent ≡ v.parent → (HasWhole v → HasWhole v1) → CollectsIn m v1 w1 → w.retired ≡ w1.retired → w.parent ≡ w1.parent → CollectsIn m v w
looked_on m v v1 w1 w retired parent wholes x retired_after parent_after = record {
  ended = x.ended;
  each = x.each;
  kept = x.kept;
  whole = λ all. x.whole (wholes all);
  taken_are = retired_after ∙ x.taken_are ∙ ap (λ (rs : List (ℕ × List Entry)). map left_by x.ended ++ rs) retired;
  made_are = parent_after ∙ x.made_are ∙ ap (λ (b : Bool). one_made b x.ended) parent;
}

-- If all callers were merged, they still are when no more numbers are known.
pub whole_on : (v w : View) → w.number ≡ v.number → w.parent ≡ v.parent → w.made ≡ v.made → w.retired ≡ v.retired → HasWhole v → HasWhole w
whole_on v w number parent made retired all = record {
  first = number ∙ all.first;
  childless = parent ∙ all.childless;
  all = λ c some low. subst (IsMerged c) (sym retired) (all.all c some (subst (λ (n : ℕ). c < n) made low));
}

-- To merge a caller changes neither the number of numbers that are known nor what was seen.
pub steady : (m : StripedMap) (c : ℕ) (v w : View) → MergesAtMost m c v w → (w.made ≡ v.made) × (w.seen ≡ v.seen)
steady m c v w (inl same) = (ap (λ (x : View). x.made) same, ap (λ (x : View). x.seen) same)
steady m c v w (inr one) = (ap (λ (x : View). x.made) one.3, ap (λ (x : View). x.seen) one.3)
