-- The map after a change of one key.
use Rattle.std.proofs.Common.{get_or, vec_len, ◌≡◌, ◌≢◌, ℕ, zero, suc, ◌<◌, ◌==◌, ◌%◌, cond, Option, Some, List, [], ◌∷◌, ap, sym, refl, ◌∙◌, arith}
use Rattle.std.specs.Prelude.{slice_get}
use Rattle.std.specs.Option.{IfSome}
use Rattle.std.specs.List.{All}
use Rattle.std.specs.Ordering.{nat_cmp}
use Rattle.std.specs.Cmp.{nat_cmp_total, eq_by_cmp_equiv, unsigned_tied}
use Rattle.std.specs.Map.{lookup}
use Rattle.std.specs.BTreeMap.{BTreeMap, get as value_at, is_at, IsEmpty}
use Rattle.std.proofs.Math.ListN.{set}
use Rattle.std.proofs.lemmas.Bool.{ne_eqb}
use Rattle.std.proofs.lemmas.List.Elements.{All-head, All-tail}
use Rattle.std.proofs.lemmas.Option.{slice_get_read}
use Rattle.txn_words.specs.Map.{Map, empty, get, set_at}
use Rattle.txn_words.proofs.Maps.{get-set_at}
use Rattle.history_check.specs.declared.values.Values.{Values}
use Rattle.history_check.specs.Remainders.{HasOf, Have}
use Rattle.history_check.proofs.CallerTable.{each-set, if_some, at_some}

pub is_at-nat : (k q : ℕ) → is_at (nat_cmp k) q ≡ (q == k)
is_at-nat k q = (eq_by_cmp_equiv nat_cmp_total).symm k q ∙ unsigned_tied q k

-- If a key is set or removed both in the map and in a sorted map, `HasOf` still holds.
has_of-set_at : (m : Map) (r : ℕ) (old new : BTreeMap ℕ ℕ) (k : ℕ) (v : Option ℕ) → HasOf m r old → ((q : ℕ) → value_at nat_cmp new q ≡ cond (is_at (nat_cmp k) q) v (value_at nat_cmp old q)) → HasOf (set_at m k v) r new
has_of-set_at m r old new k v has updates q at =
    updates q ∙ (λ i. cond (is_at-nat k q i) v (has q at i)) ∙ sym (get-set_at m k v q)

-- If a key is set or removed in the map, `HasOf` still holds for the sorted maps of other
-- remainders.
has_of-other : (m : Map) (r : ℕ) (values : BTreeMap ℕ ℕ) (k : ℕ) (v : Option ℕ) → r ≢ k % 1021 → HasOf m r values → HasOf (set_at m k v) r values
has_of-other m r values k v other has q at =
    has q at ∙ sym (get-set_at m k v q ∙ ap (λ b. cond b v (get m q)) (ne_eqb q k (λ is. other (sym at ∙ ap (λ x. x % 1021) is))))

-- Reading `values` at a key's remainder gives the sorted map for this remainder.
map_at : (values : Values) (k : ℕ) (tree : BTreeMap ℕ ℕ) → tree ≡ get_or values.maps.items (k % 1021) tree → slice_get values.maps.items (k % 1021) ≡ Some tree
map_at values k tree is =
    let below : k % 1021 < 1021 = omega arith in
    let all : vec_len values.maps ≡ 1021 = values.all in
    slice_get_read values.maps.items (vec_len values.maps) (k % 1021) tree values.maps.ok.0 (omega arith) is

-- The sorted map of a key's remainder gives the key's value.
pub has-get : (m : Map) (values : Values) (k : ℕ) (tree : BTreeMap ℕ ℕ) → Have m values → tree ≡ get_or values.maps.items (k % 1021) tree → value_at nat_cmp tree k ≡ get m k
has-get m values k tree has is = at_some (HasOf m (k % 1021)) (slice_get values.maps.items (k % 1021)) tree (map_at values k tree is) (has (k % 1021)) k refl

-- If a key is set or removed both in the map and in the sorted map of the key's remainder, `Have`
-- still holds.
pub has-set_at : (m : Map) (old : Values) (k : ℕ) (v : Option ℕ) (tree tree' : BTreeMap ℕ ℕ) → Have m old → tree ≡ get_or old.maps.items (k % 1021) tree
    → ((q : ℕ) → value_at nat_cmp tree' q ≡ cond (is_at (nat_cmp k) q) v (value_at nat_cmp tree q)) → (r : ℕ) → IfSome (slice_get (set old.maps.items (k % 1021) tree') r) (HasOf (set_at m k v) r)
has-set_at m old k v tree tree' has is updates r =
    let here = at_some (HasOf m (k % 1021)) (slice_get old.maps.items (k % 1021)) tree (map_at old k tree is) (has (k % 1021)) in
    each-set (HasOf (set_at m k v)) old.maps.items (k % 1021) tree' (has_of-set_at m (k % 1021) tree tree' k v here updates)
    (λ s other. if_some (HasOf m s) (HasOf (set_at m k v) s) (slice_get old.maps.items s) (λ t. has_of-other m s t k v other) (has s)) r

-- If all sorted maps are empty, `HasOf` holds for each of them and the empty map.
pub bare_has : (trees : List (BTreeMap ℕ ℕ)) → All IsEmpty trees → (r k : ℕ) → IfSome (slice_get trees k) (HasOf empty r)
bare_has [] all r k = tt
bare_has (x ∷ xs) all r zero = λ q at. ap (lookup (is_at (nat_cmp q))) (All-head IsEmpty x xs all)
bare_has (x ∷ xs) all r (suc k) = bare_has xs (All-tail IsEmpty x xs all) r k
