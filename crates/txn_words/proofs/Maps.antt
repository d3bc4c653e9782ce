-- Lemmas about the values of maps: maps with the same value at each key are equal, and `insert` and
-- `remove` change the value at one key only.
use Rattle.std.specs.Prelude.{ℕ, ◌≡◌, ◌==◌, Bool, true, false, cond, not, Option, Some, None, is_some, T, List}
use Rattle.std.specs.FinMap.Entries.{is_sorted, find-put, find-where_key, same_entries}
use Rattle.std.specs.FinMap.{nat_cmp-IsAntisymmetric}
use Rattle.std.specs.Ordering.{nat_cmp, eq_by_cmp, is_eq}
use Rattle.std.specs.Cmp.{nat_cmp_total, alike_right, eq_by_cmp_equiv, unsigned_tied}
use Rattle.std.proofs.lemmas.Bool.{false≢true, eq-eqb}
use lib.Dec.{T_prop}
use mathlib.Core.Path.{refl, sym, ap, ◌∙◌}
use mathlib.Core.HLevel.{Σ_prop_path}
use Rattle.txn_words.specs.Map.{Map, get, insert, remove, set_at}

-- Maps that agree at each key are equal.
pub same_map : (m n : Map) → ((k : ℕ) → get m k ≡ get n k) → m ≡ n
same_map m n same =
    let rows : m.rows ≡ n.rows = same_entries nat_cmp nat_cmp_total nat_cmp-IsAntisymmetric m.rows n.rows m.rising n.rising same in
    let pairs : ◌≡◌ {A = (es : List (ℕ × ℕ)) × T (is_sorted nat_cmp es)} (m.rows, m.rising) (n.rows, n.rising) = Σ_prop_path (λ es. T_prop _) rows in
    λ i. record { rows = (pairs i).0; rising = (pairs i).1 }

pub none_is : (o : Option ℕ) → is_some o ≡ false → o ≡ None
none_is None h = refl
none_is (Some v) h = absurd (false≢true (sym h))

-- After an insert, the inserted key has the inserted value, and every other key is unchanged.
pub get-insert : (m : Map) (k v q : ℕ) → get (insert m k v) q ≡ cond (q == k) (Some v) (get m q)
get-insert m k v q = find-put nat_cmp nat_cmp_total q k v m.rows ∙ ap (λ b. cond b (Some v) (get m q)) (unsigned_tied q k)

cond_not : {A : Type 0} (b : Bool) (x y : A) → cond (not b) x y ≡ cond b y x
cond_not true x y = refl
cond_not false x y = refl

-- After a remove, the removed key has no value, and every other key is unchanged.
pub get-remove : (m : Map) (k q : ℕ) → get (remove m k) q ≡ cond (q == k) None (get m q)
get-remove m k q =
    find-where_key nat_cmp (λ x. not (eq_by_cmp nat_cmp k x)) q (λ x t. ap (λ r. not (is_eq r)) (sym (alike_right nat_cmp_total q x k t))) m.rows
    ∙ cond_not (eq_by_cmp nat_cmp k q) _ _ ∙ ap (λ b. cond b None (get m q)) ((eq_by_cmp_equiv nat_cmp_total).symm k q ∙ unsigned_tied q k)

-- After an insert, the inserted key has the inserted value. After a remove, the removed key has no
-- value.
pub get-insert-here : (m : Map) (k v : ℕ) → get (insert m k v) k ≡ Some v
get-insert-here m k v = get-insert m k v k ∙ ap (λ b. cond b (Some v) (get m k)) (eq-eqb k k refl)

pub get-remove-here : (m : Map) (k : ℕ) → get (remove m k) k ≡ None
get-remove-here m k = get-remove m k k ∙ ap (λ b. cond b None (get m k)) (eq-eqb k k refl)

-- After `set_at`, the key has the value that was set, or no value if none was set. Every other key
-- is unchanged.
pub get-set_at : (m : Map) (j : ℕ) (o : Option ℕ) (k : ℕ) → get (set_at m j o) k ≡ cond (k == j) o (get m k)
get-set_at m j None k = get-remove m j k
get-set_at m j (Some v) k = get-insert m j v k
