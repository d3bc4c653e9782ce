-- The content of a list of nodes, and how a step at a node changes this content.
use Rattle.std.proofs.Common.{◌≡◌, ◌≢◌, ℕ, ◌==◌, inl, inr, List, [], ◌∷◌, ◌++◌, Some, None, Bool, true, false, cond, not, ◌&&◌, ◌+◌}
use Rattle.std.proofs.Common.{if◌then◌else◌, length, refl, sym, ◌∙◌, ap, subst, arith}
use Rattle.map_ops.specs.Vocabulary.{AllByRecursion, Dummy, IsKeyed, IsRising, Kind, Map, NodeAt, Regular, Replaces, SortKey, empty, fold}
use Rattle.map_ops.specs.Vocabulary.{get, insert, node_of, ordered, pair_if, pairs, regular_at, remove}
use Rattle.map_ops.proofs.Vocabulary.{Rises, cases_eq, each_found, eq-eqb, get-insert, ne_eqb, same_map, some-injective, some-none}
use Rattle.std.proofs.lemmas.Bool.Decides.{eqb_tells}
use Rattle.node_list.specs.Nodes.{count_where, is_regular, live_count}
use Rattle.node_list.specs.Order.{IsNodeBefore}
use Rattle.split_key.specs.Sort.{IsBefore}
use Rattle.split_key.proofs.SortLemmas.{before_apart}
use Rattle.txn_words.specs.Map.{count_of}
use Rattle.txn_words.proofs.Order.{IsSortedBySplit, value_at, or_else, or_else_none, split_cmp_tied, sorted-rises, value_at-ordered}
use Rattle.txn_words.proofs.Order.{ordered_rising, length-ordered}
use Rattle.txn_words.proofs.OrderedPairs.{ordered-linked, ordered-written, ordered-unlinked}
use Rattle.map_ops.specs.TableAt.{map_of}

-- If a key belongs before the keys of all pairs, the pairs have no value for this key.
none_above : (k : ℕ) (es : List (ℕ × ℕ)) → AllByRecursion (λ (other : ℕ × ℕ). IsBefore (regular_at k) (regular_at other.0)) es → value_at k es ≡ None
none_above k [] all = refl
none_above k (e ∷ es) all = ap (λ b. cond b (Some e.1) (value_at k es)) (split_cmp_tied k e.0 ∙ ne_eqb k e.0 (λ same. before_apart (regular_at k) (regular_at e.0) all.0 (ap regular_at same))) ∙ none_above k es all.1

get-inserted : (ps : List (ℕ × ℕ)) (m : Map) (q : ℕ) → Rises ps → get (fold (λ (m : Map) (pair : ℕ × ℕ). insert m pair.0 pair.1) m ps) q ≡ or_else (value_at q ps) (get m q)
get-inserted [] m q rises = refl
get-inserted (p ∷ ps) m q rises =
    get-inserted ps (insert m p.0 p.1) q rises.1
    ∙ ap (or_else (value_at q ps)) (get-insert m p.0 p.1 q)
    ∙ elim (cases_eq q p.0) [
      | inl same ↦
          let gone : value_at q ps ≡ None = ap (λ k. value_at k ps) same ∙ none_above p.0 ps rises.0 in
          ap (λ o. or_else o (cond (q == p.0) (Some p.1) (get m q))) gone
          ∙ ap (λ b. cond b (Some p.1) (get m q)) (eq-eqb q p.0 same)
          ∙ sym (ap (λ b. or_else (cond b (Some p.1) (value_at q ps)) (get m q)) (split_cmp_tied q p.0 ∙ eq-eqb q p.0 same))
      | inr other ↦
          ap (λ b. or_else (value_at q ps) (cond b (Some p.1) (get m q))) (ne_eqb q p.0 other)
          ∙ sym (ap (λ b. or_else (cond b (Some p.1) (value_at q ps)) (get m q)) (split_cmp_tied q p.0 ∙ ne_eqb q p.0 other))
    ]

-- If the keys of a list of pairs rise, looking a key up in the list and in the map made from it
-- gives the same value.
pub get-map_of : (ps : List (ℕ × ℕ)) (q : ℕ) → Rises ps → get (map_of ps) q ≡ value_at q ps
get-map_of ps q rises = get-inserted ps empty q rises ∙ or_else_none (value_at q ps)

-- If the keys of a list of pairs rise, the list equals the ordered pairs of the map made from it.
pub ordered-map_of : (ps : List (ℕ × ℕ)) → Rises ps → ps ≡ ordered (map_of ps)
ordered-map_of ps rises = ordered_rising (map_of ps) ps rises (λ k. sym (get-map_of ps k rises))

map_of_is : (m : Map) (ps : List (ℕ × ℕ)) → Rises ps → ps ≡ ordered m → map_of ps ≡ m
map_of_is m ps rises is = same_map (map_of ps) m (λ q. get-map_of ps q rises ∙ ap (value_at q) is ∙ value_at-ordered m q)

module _ (old new : List (ℕ × ℕ)) (k : ℕ) (old_rises : Rises old) (new_rises : Rises new) where
  -- If a pair with a new key is added, the map of the pairs gains exactly this pair.
  pub map_of-linked : (v : ℕ) → Replaces old new [] ((k, v) ∷ []) → map_of new ≡ insert (map_of old) k v
  map_of-linked v r =
      map_of_is (insert (map_of old) k v) new new_rises (r.new_is ∙ ordered-linked (map_of old) k v r.before r.after
      (sym r.old_is ∙ ordered-map_of old old_rises) (subst IsSortedBySplit r.new_is (sorted-rises new new_rises)))

  -- If a pair gets another value, the map of the pairs has this new value at the pair's key.
  pub map_of-written : (v w : ℕ) → Replaces old new ((k, v) ∷ []) ((k, w) ∷ []) → map_of new ≡ insert (map_of old) k w
  map_of-written v w r =
      map_of_is (insert (map_of old) k w) new new_rises (r.new_is ∙ ordered-written (map_of old) k v w r.before r.after
      (sym r.old_is ∙ ordered-map_of old old_rises))

  -- If a pair is removed from the list, its key is removed from the map of the pairs.
  pub map_of-unlinked : (v : ℕ) → Replaces old new ((k, v) ∷ []) [] → map_of new ≡ remove (map_of old) k
  map_of-unlinked v r =
      map_of_is (remove (map_of old) k) new new_rises (r.new_is ∙ ordered-unlinked (map_of old) k v r.before r.after
      (sym r.old_is ∙ ordered-map_of old old_rises))

above_pair : (k : ℕ) (kind : Kind) (marked : Bool) (key value : ℕ) (ps : List (ℕ × ℕ)) → (kind ≡ Regular → IsBefore (regular_at k) (regular_at key)) → AllByRecursion (λ (other : ℕ × ℕ). IsBefore (regular_at k) (regular_at other.0)) ps → AllByRecursion (λ (other : ℕ × ℕ). IsBefore (regular_at k) (regular_at other.0)) (pair_if kind marked key value ++ ps)
above_pair k Dummy marked key value ps here all = all
above_pair k Regular true key value ps here all = all
above_pair k Regular false key value ps here all = (here refl, all)

above_pairs : (k : ℕ) (rest : List NodeAt) → AllByRecursion (λ (m : NodeAt). IsBefore (regular_at k) m.at) rest → IsKeyed rest → AllByRecursion (λ (other : ℕ × ℕ). IsBefore (regular_at k) (regular_at other.0)) (pairs rest)
unfolding pairs
above_pairs k [] above keyed = tt
above_pairs k (n ∷ rest) above keyed =
    above_pair k n.kind n.marked n.at.key n.value (pairs rest)
    (λ regular. subst (IsBefore (regular_at k)) (keyed.0 regular) above.0)
    (above_pairs k rest above.1 keyed.1)

rises_pair : (kind : Kind) (marked : Bool) (key value : ℕ) (ps : List (ℕ × ℕ)) → (kind ≡ Regular → AllByRecursion (λ (other : ℕ × ℕ). IsBefore (regular_at key) (regular_at other.0)) ps) → Rises ps → Rises (pair_if kind marked key value ++ ps)
rises_pair Dummy marked key value ps here rises = rises
rises_pair Regular true key value ps here rises = rises
rises_pair Regular false key value ps here rises = (here refl, rises)

-- If the nodes are in rising order, and each regular node is at its key's position, the keys of the
-- nodes' pairs rise.
pub rises-pairs : (nodes : List NodeAt) → IsRising nodes → IsKeyed nodes → Rises (pairs nodes)
unfolding pairs IsRising
rises-pairs [] rising keyed = tt
rises-pairs (n ∷ rest) rising keyed =
    rises_pair n.kind n.marked n.at.key n.value (pairs rest)
    (λ regular. above_pairs n.at.key rest (subst (λ (at : SortKey). AllByRecursion (λ (m : NodeAt). IsBefore at m.at) rest) (keyed.0 regular) rising.0) keyed.1)
    (rises-pairs rest rising.1 keyed.1)

value_at-other : (key : ℕ) (kind : Kind) (marked : Bool) (k value : ℕ) (ps : List (ℕ × ℕ)) → (kind ≡ Regular → k ≢ key) → value_at key (pair_if kind marked k value ++ ps) ≡ value_at key ps
value_at-other key Dummy marked k value ps other = refl
value_at-other key Regular true k value ps other = refl
value_at-other key Regular false k value ps other = ap (λ b. cond b (Some value) (value_at key ps)) (split_cmp_tied key k ∙ ne_eqb key k (λ same. other refl (sym same)))

value_at-here : (key : ℕ) (kind : Kind) (marked : Bool) (k value : ℕ) (ps : List (ℕ × ℕ)) → kind ≡ Regular → marked ≡ false → k ≡ key → value_at key (pair_if kind marked k value ++ ps) ≡ Some value
value_at-here key kind marked k value ps is unmarked own =
    ap (λ kind. value_at key (pair_if kind marked k value ++ ps)) is ∙ ap (λ b. value_at key (pair_if Regular b k value ++ ps)) unmarked
    ∙ ap (λ b. cond b (Some value) (value_at key ps)) (split_cmp_tied key k ∙ eq-eqb key k (sym own))

-- If no node is at the key's position, the pairs have no value at the key.
pub value_at-absent : (key : ℕ) (nodes : List NodeAt) → IsKeyed nodes → AllByRecursion (λ (n : NodeAt). n.at ≢ regular_at key) nodes → value_at key (pairs nodes) ≡ None
unfolding pairs
value_at-absent key [] keyed others = refl
value_at-absent key (n ∷ rest) keyed others =
    value_at-other key n.kind n.marked n.at.key n.value (pairs rest) (λ regular same. others.0 (keyed.0 regular ∙ ap regular_at same))
    ∙ value_at-absent key rest keyed.1 others.1

-- If a regular, unmarked node of the key is linked, the pairs have the node's value at the key.
pub value_at-there : (key : ℕ) (nodes : List NodeAt) (place : ℕ) (n : NodeAt) → IsRising nodes → IsKeyed nodes → node_of nodes place ≡ Some n → n.kind ≡ Regular → n.at ≡ regular_at key → n.marked ≡ false → value_at key (pairs nodes) ≡ Some n.value
unfolding pairs IsRising node_of
value_at-there key [] place n rising keyed is kind at unmarked = absurd (some-none (sym is))
value_at-there key (m ∷ rest) place n rising keyed is kind at unmarked = elim (eqb_tells m.place place) [
  | inl here ↦
      let m_is : m ≡ n = some-injective (rw here.0 at is) in
      value_at-here key m.kind m.marked m.at.key m.value (pairs rest) (ap (λ (v : NodeAt). v.kind) m_is ∙ kind) (ap (λ (v : NodeAt). v.marked) m_is ∙ unmarked) (ap (λ (v : NodeAt). v.at.key) m_is ∙ ap (λ (s : SortKey). s.key) at)
      ∙ ap (λ (v : NodeAt). Some v.value) m_is
  | inr past ↦
      let later : node_of rest place ≡ Some n = rw past.0 at is in
      let below : IsNodeBefore m n = each_found (IsNodeBefore m) rest place n rising.0 later in
      value_at-other key m.kind m.marked m.at.key m.value (pairs rest) (λ regular same. before_apart m.at n.at below (keyed.0 regular ∙ ap regular_at same ∙ sym at))
      ∙ value_at-there key rest place n rising.1 keyed.1 later kind at unmarked
]

length_pair : (kind : Kind) (marked : Bool) (key value : ℕ) (ps : List (ℕ × ℕ)) (count : ℕ) → length ps ≡ count → length (pair_if kind marked key value ++ ps) ≡ (if is_regular kind && not marked then 1 else 0) + count
length_pair Dummy marked key value ps count is = omega (arith, is)
length_pair Regular true key value ps count is = omega (arith, is)
length_pair Regular false key value ps count is = omega (arith, is)

pub length-pairs : (nodes : List NodeAt) → length (pairs nodes) ≡ live_count nodes
unfolding pairs count_where
length-pairs [] = refl
length-pairs (n ∷ rest) = length_pair n.kind n.marked n.at.key n.value (pairs rest) (live_count rest) (length-pairs rest)

pub count_of-map_of : (ps : List (ℕ × ℕ)) → Rises ps → count_of (map_of ps) ≡ length ps
count_of-map_of ps rises = sym (ap (λ (es : List (ℕ × ℕ)). length es) (ordered-map_of ps rises) ∙ length-ordered (map_of ps))
