-- The position of a sort key in an ordered list.
use Rattle.std.proofs.Common.{◌≡◌, ◌≢◌, ℕ, List, [], ◌∷◌, ◌++◌, Some, refl, sym, ◌∙◌, subst}
use Rattle.std.specs.List.{AllByRecursion}
use Rattle.node_list.specs.Nodes.{NodeAt, node_of, next_of, first}
use Rattle.node_list.specs.Order.{IsNodeBefore, IsRising}
use Rattle.split_key.specs.declared.sort.SortKey.{SortKey}
use Rattle.split_key.specs.Sort.{IsBefore}
use Rattle.split_key.proofs.SortLemmas.{before_apart, before_transitive}
use Rattle.list_steps.specs.Seek.{IsBelow}
use Rattle.list_steps.proofs.NodeLemmas.{found_at, next_at}

pub before_later : (k n : NodeAt) (front rest : List NodeAt) → AllByRecursion (IsNodeBefore k) (front ++ n ∷ rest) → IsNodeBefore k n
before_later k n [] rest before = before.0
before_later k n (m ∷ front) rest before = before_later k n front rest before.1

rising_rest : (front : List NodeAt) (n : NodeAt) (rest : List NodeAt) → IsRising (front ++ n ∷ rest) → IsRising rest
unfolding IsRising
rising_rest [] n rest rising = rising.1
rising_rest (k ∷ front) n rest rising = rising_rest front n rest rising.1

-- None of these nodes has the sort key.
abbrev pub NoneHas : SortKey → List NodeAt → Type 0
NoneHas sort nodes = AllByRecursion (λ n. n.at ≢ sort) nodes

-- If a node is below the sort key, and no later node has the sort key, no node of the list has this
-- sort key.
none_before : (front : List NodeAt) (n : NodeAt) (rest : List NodeAt) (sort : SortKey) → IsRising (front ++ n ∷ rest) → IsBelow n sort → NoneHas sort rest → NoneHas sort (front ++ n ∷ rest)
unfolding IsRising
none_before [] n rest sort rising below others = (before_apart n.at sort below, others)
none_before (m ∷ front) n rest sort rising below others =
    let low = before_transitive m.at n.at sort (before_later m n front rest rising.0) below in
    (before_apart m.at sort low, none_before front n rest sort rising.1 below others)

-- If a node is above the sort key, no node after it has the sort key.
none_behind : (n : NodeAt) (rest : List NodeAt) (sort : SortKey) → IsBefore sort n.at → AllByRecursion (IsNodeBefore n) rest → NoneHas sort rest
none_behind n [] sort above before = tt
none_behind n (m ∷ rest) sort above before =
    let high = before_transitive sort n.at m.at above before.0 in
    ((λ same. before_apart sort m.at high (sym same)), none_behind n rest sort above before.1)

none_from : (rest : List NodeAt) (sort : SortKey) → IsRising rest → ((m : NodeAt) → first rest ≡ Some m → IsBefore sort m.at) → NoneHas sort rest
unfolding IsRising
none_from [] sort rising above = tt
none_from (m ∷ rest) sort rising above =
    let high = above m refl in
    ((λ same. before_apart sort m.at high (sym same)), none_behind m rest sort high rising.0)

-- If a sort key is between those of two neighbouring nodes, no node has it.
pub none_between : (nodes : List NodeAt) (place : ℕ) (n : NodeAt) (sort : SortKey) → IsRising nodes → node_of nodes place ≡ Some n → IsBelow n sort → ((m : NodeAt) → next_of nodes place ≡ Some m → IsBefore sort m.at) → NoneHas sort nodes
none_between nodes place n sort rising is below above =
    let at = found_at nodes place n is in
    let P : List NodeAt → Type 0 = IsRising in
    let Q : List NodeAt → Type 0 = NoneHas sort in
    let parts : IsRising (at.front ++ n ∷ at.rest) = subst P at.is rising in
    let behind : NoneHas sort at.rest =
    none_from at.rest sort (rising_rest at.front n at.rest parts) (λ m m_is. above m (next_at nodes place n at ∙ m_is)) in
    subst Q (sym at.is) (none_before at.front n at.rest sort parts below behind)
