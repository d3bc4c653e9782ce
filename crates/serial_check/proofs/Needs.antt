-- A map that has the value that each cell needs.
use Rattle.std.proofs.Common.{◌≡◌, ℕ, ◌==◌, Bool, true, false, cond, List, [], ◌∷◌, Option, Some, None, refl, ap, sym, ◌∙◌}
use Rattle.std.specs.Prelude.{option_and_then}
use Rattle.std.specs.BTreeMap.{is_at}
use Rattle.std.specs.Cmp.{unsigned_tied}
use Rattle.std.specs.Map.{lookup}
use Rattle.std.specs.Ordering.{nat_cmp}
use Rattle.txn_words.specs.Map.{Map, empty, get, insert, remove}
use Rattle.txn_words.proofs.Maps.{get-insert, get-remove}
use Rattle.serial_check.specs.declared.footprint.Cell.{Cell}

-- The map with this value at a key, or without the key if the value is None.
abbrev with_need : Map → ℕ → Option ℕ → Map
with_need m k None = remove m k
with_need m k (Some v) = insert m k v

get-with_need : (m : Map) (k : ℕ) (need : Option ℕ) (q : ℕ) → get (with_need m k need) q ≡ cond (q == k) need (get m q)
get-with_need m k None q = get-remove m k q
get-with_need m k (Some v) q = get-insert m k v q

abbrev pub needed : List (ℕ × Cell) → Map
needed [] = empty
needed (e ∷ es) = with_need (needed es) e.0 e.1.need

abbrev need_of : Cell → Option ℕ
need_of cell = cell.need

chosen : (b : Bool) (cell : Cell) (x : Option ℕ) (y : Option Cell) → x ≡ option_and_then need_of y → cond b cell.need x ≡ option_and_then need_of (cond b (Some cell) y)
chosen true cell x y is = refl
chosen false cell x y is = is

get-needed : (es : List (ℕ × Cell)) (q : ℕ) → get (needed es) q ≡ option_and_then need_of (lookup (is_at (nat_cmp q)) es)
get-needed [] q = refl
get-needed (e ∷ es) q =
    get-with_need (needed es) e.0 e.1.need q
    ∙ chosen (q == e.0) e.1 _ _ (get-needed es q)
    ∙ ap (λ b. option_and_then need_of (cond b (Some e.1) (lookup (is_at (nat_cmp q)) es))) (sym (unsigned_tied q e.0))

pub needed_at : (es : List (ℕ × Cell)) (q : ℕ) (cell : Cell) → lookup (is_at (nat_cmp q)) es ≡ Some cell → get (needed es) q ≡ cell.need
needed_at es q cell found = get-needed es q ∙ ap (option_and_then need_of) found
