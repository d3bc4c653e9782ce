-- The map that is collected from pairs.
use Rattle.std.proofs.Common.{◌≡◌, ℕ, List, [], ◌∷◌, Some, None, Ok, Err, Result, cond, refl, sym, ◌∙◌, ap}
use Rattle.map_ops.specs.Vocabulary.{Map, empty, fold, get, insert}
use Rattle.std.specs.Result.{IfOk}
use Rattle.std.specs.Map.{update, update_all}
use Rattle.std.specs.BTreeMap.{BTreeMap, IsFromIterResult, get as value_at}
use Rattle.std.specs.Ordering.{nat_cmp, eq_by_cmp}
use Rattle.std.specs.Cmp.{nat_cmp_total, eq_by_cmp_equiv}
use Rattle.std.specs.FinMap.Entries.{find-put}
use Rattle.map_ops.specs.TableAt.{map_of}

update_all-inserted : (ps : List (ℕ × ℕ)) (m : Map) (q : ℕ) → update_all (eq_by_cmp nat_cmp) (λ k. get m k) ps q ≡ get (fold (λ (m : Map) (pair : ℕ × ℕ). insert m pair.0 pair.1) m ps) q
update_all-inserted [] m q = refl
update_all-inserted (p ∷ ps) m q = ap (λ f. update_all (eq_by_cmp nat_cmp) f ps q) one ∙ update_all-inserted ps (insert m p.0 p.1) q
  where
    one : update (eq_by_cmp nat_cmp) (λ k. get m k) p.0 (Some p.1) ≡ (λ k. get (insert m p.0 p.1) k)
    one = λ i k. (ap (λ b. cond b (Some p.1) (get m k)) ((eq_by_cmp_equiv nat_cmp_total).symm p.0 k) ∙ sym (find-put nat_cmp nat_cmp_total k p.0 p.1 m.rows)) i

-- The `BTreeMap` that is collected from pairs has the same value at each key as the map of the
-- pairs (`map_of`).
pub made : {E : Type 0} (r : Result (BTreeMap ℕ ℕ) E) (found pairs : List (ℕ × ℕ)) → found ≡ pairs → IfOk r (IsFromIterResult nat_cmp found) → IfOk r (λ map. (key : ℕ) → value_at nat_cmp map key ≡ get (map_of pairs) key)
made (Ok map) found pairs same is = λ key. is.0 key ∙ ap (λ ps. update_all (eq_by_cmp nat_cmp) (λ _. None) ps key) same ∙ update_all-inserted pairs empty key
made (Err e) found pairs same is = tt
