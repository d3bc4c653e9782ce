-- Shows which nodes are linked and found after a node is linked, changed or unlinked, because no
-- two nodes share a place.
use Rattle.std.proofs.Common.{◌≡◌, ◌≢◌, ℕ, ◌⊎◌, inl, inr, List, [], ◌∷◌, Some, true, refl, sym, ◌∙◌, ap}
use Rattle.std.proofs.lemmas.Bool.Decides.{eqb_tells}
use Rattle.node_list.specs.Nodes.{NodeAt, node_of, next_of, first, place_of, IsLinked, linked_after, unlinked_after, changed_at, marked_at, written_at}
use Rattle.node_list.specs.Order.{AbsentFrom, IsSpread}
use Rattle.node_list.specs.Follow.{IsSameNode}
use Rattle.node_list.proofs.OrderLemmas.{some-injective, some-none}
use Rattle.node_list.proofs.NodesLemmas.{same_node, absent_linked, linked_more, next_linked, found_linked, linked_found, first_found, next_found}

-- If a new node is linked, each place that was linked is still linked, and so is the place of the
-- new node.
pub still_linked : (nodes : List NodeAt) (pred place : ℕ) (x : NodeAt) → IsLinked nodes place → IsLinked (linked_after nodes pred x) place
unfolding linked_after IsLinked
still_linked [] pred place x is = is
still_linked (n ∷ rest) pred place x is = elim (eqb_tells n.place pred) [
  | inl here ↦ rw here.0 (elim is [ inl first ↦ inl first | inr later ↦ inr (inr later) ])
  | inr apart ↦ rw apart.0 (elim is [ inl first ↦ inl first | inr later ↦ inr (still_linked rest pred place x later) ])
]

pub now_linked : (nodes : List NodeAt) (pred : ℕ) (x : NodeAt) → IsLinked nodes pred → IsLinked (linked_after nodes pred x) x.place
unfolding linked_after IsLinked
now_linked [] pred x is = is
now_linked (n ∷ rest) pred x is = elim (eqb_tells n.place pred) [
  | inl here ↦ rw here.0 (inr (inl refl))
  | inr apart ↦ rw apart.0 (inr (now_linked rest pred x (elim is [ inl first ↦ absurd (apart.1 first) | inr later ↦ later ])))
]

-- If a node is linked at a place that was free, `node_of` finds the node at that place.
pub now_found : (nodes : List NodeAt) (pred : ℕ) (x : NodeAt) → AbsentFrom x.place nodes → IsLinked nodes pred → node_of (linked_after nodes pred x) x.place ≡ Some x
unfolding node_of linked_after IsLinked
now_found [] pred x absent is = absurd is
now_found (n ∷ rest) pred x absent is = elim (eqb_tells n.place pred) [
  | inl here ↦ rw here.0 (deeper (x ∷ rest) (first_found (x ∷ rest) x refl))
  | inr apart ↦ rw apart.0 (deeper (linked_after rest pred x) (now_found rest pred x absent.1 (elim is [ inl first ↦ absurd (apart.1 first) | inr later ↦ later ])))
]
  where
    deeper : (after : List NodeAt) → node_of after x.place ≡ Some x → node_of (n ∷ after) x.place ≡ Some x
    deeper after there = elim (eqb_tells n.place x.place) [
      | inl same ↦ absurd (absent.0 same.1)
      | inr differs ↦ rw differs.0 there
    ]

pub changed_linked : (nodes : List NodeAt) (place other : ℕ) (change : NodeAt → NodeAt) → ((n : NodeAt) → IsSameNode n (change n)) → IsLinked nodes other → IsLinked (changed_at nodes place change) other
unfolding changed_at IsLinked
changed_linked [] place other change same is = is
changed_linked (n ∷ rest) place other change same is = elim (eqb_tells n.place place) [
  | inl here ↦ rw here.0 (elim is [ inl first ↦ inl (sym (same n).place ∙ first) | inr later ↦ inr later ])
  | inr apart ↦ rw apart.0 (elim is [ inl first ↦ inl first | inr later ↦ inr (changed_linked rest place other change same later) ])
]

pub marked_linked : (nodes : List NodeAt) (place other : ℕ) → IsLinked nodes other → IsLinked (marked_at nodes place) other
marked_linked nodes place other =
    changed_linked nodes place other (λ n. record n { marked = true }) (λ n. record { place = refl; at = refl; kind = refl; stamp = refl })

pub written_linked : (nodes : List NodeAt) (place value other : ℕ) → IsLinked nodes other → IsLinked (written_at nodes place value) other
written_linked nodes place value other =
    changed_linked nodes place other (λ n. record n { value = value }) (λ n. record { place = refl; at = refl; kind = refl; stamp = refl })

pub others_linked : (nodes : List NodeAt) (pred gone place : ℕ) → place_of (next_of nodes pred) ≡ Some gone → place ≢ gone → IsLinked nodes place → IsLinked (unlinked_after nodes pred) place
unfolding unlinked_after IsLinked next_of
others_linked [] pred gone place next differs is = is
others_linked (n ∷ []) pred gone place next differs is = elim (eqb_tells n.place pred) [
  | inl here ↦ rw here.0 is
  | inr apart ↦ rw apart.0 is
]
others_linked (n ∷ (m ∷ rest)) pred gone place next differs is = elim (eqb_tells n.place pred) [
  | inl here ↦
      let gone_is : m.place ≡ gone = some-injective (rw here.0 at next) in
      rw here.0 (elim is [
        | inl first ↦ inl first
        | inr later ↦ elim later [ inl second ↦ absurd (differs (sym second ∙ gone_is)) | inr further ↦ inr further ]
      ])
  | inr apart ↦ rw apart.0 (elim is [
    | inl first ↦ inl first
    | inr later ↦ inr (others_linked (m ∷ rest) pred gone place (rw apart.0 at next) differs later)
  ])
]

-- If a node is unlinked, no node is at its place afterwards.
pub absent_unlinked : (nodes : List NodeAt) (pred place : ℕ) → IsSpread nodes → place_of (next_of nodes pred) ≡ Some place → AbsentFrom place (unlinked_after nodes pred)
unfolding IsSpread unlinked_after next_of
absent_unlinked [] pred place apart is = tt
absent_unlinked (n ∷ []) pred place apart is = elim (eqb_tells n.place pred) [
  | inl here ↦ absurd (some-none (sym (rw here.0 at is)))
  | inr later ↦ absurd (some-none (sym (rw later.0 at is)))
]
absent_unlinked (n ∷ (m ∷ rest)) pred place apart is = elim (eqb_tells n.place pred) [
  | inl here ↦
      let place_is : m.place ≡ place = some-injective (rw here.0 at is) in
      rw here.0 (λ same. apart.0.0 (place_is ∙ sym same), rw place_is at apart.1.0)
  | inr later ↦
      let is_later : place_of (next_of (m ∷ rest) pred) ≡ Some place = rw later.0 at is in
      let there = next_linked (m ∷ rest) pred place is_later in
      rw later.0 (absent_linked (m ∷ rest) n.place place apart.0 (linked_more (m ∷ rest) place there.1), absent_unlinked (m ∷ rest) pred place apart.1 is_later)
]

-- If `node_of` finds a node after a new node is linked, it found this node before, or this node is
-- the new one.
pub found_linked_after : (nodes : List NodeAt) (pred place : ℕ) (x n : NodeAt) → node_of (linked_after nodes pred x) place ≡ Some n → (node_of nodes place ≡ Some n) ⊎ ((x ≡ n) × (x.place ≡ place))
unfolding node_of linked_after
found_linked_after [] pred place x n is = inl is
found_linked_after (m ∷ rest) pred place x n is = elim (eqb_tells m.place pred) [
  | inl at_pred ↦ elim (eqb_tells m.place place) [
    | inl here ↦ inl (rw here.0 (rw (at_pred.0, here.0) at is))
    | inr apart ↦
        let below = rw (at_pred.0, apart.0) at is in
        elim (eqb_tells x.place place) [
          | inl x_here ↦ inr (some-injective (rw x_here.0 at below), x_here.1)
          | inr x_apart ↦ inl (rw apart.0 (rw x_apart.0 at below))
        ]
  ]
  | inr later ↦ elim (eqb_tells m.place place) [
    | inl here ↦ inl (rw here.0 (rw (later.0, here.0) at is))
    | inr apart ↦ rw apart.0 (found_linked_after rest pred place x n (rw (later.0, apart.0) at is))
  ]
]

pub found_changed : (nodes : List NodeAt) (changed place : ℕ) (change : NodeAt → NodeAt) (n : NodeAt) → ((k : NodeAt) → IsSameNode k (change k)) → node_of (changed_at nodes changed change) place ≡ Some n → (m : NodeAt) × (node_of nodes place ≡ Some m) × IsSameNode m n
unfolding node_of changed_at
found_changed [] changed place change n same is = absurd (some-none (sym is))
found_changed (m ∷ rest) changed place change n same is = elim (eqb_tells m.place changed) [
  | inl at_it ↦
      let below : node_of (change m ∷ rest) place ≡ Some n = rw at_it.0 at is in
      elim (eqb_tells m.place place) [
        | inl here ↦
            let there : node_of (change m ∷ rest) place ≡ Some (change m) = first_at (change m) rest place (sym (same m).place ∙ here.1) in
            (m, rw here.0 refl, rw (some-injective (sym there ∙ below)) at (same m))
        | inr apart ↦
            let later = not_first_at (change m) rest place (λ first. apart.1 ((same m).place ∙ first)) in
            (n, rw apart.0 (sym later ∙ below), same_node n)
      ]
  | inr later ↦ elim (eqb_tells m.place place) [
    | inl here ↦ (n, rw here.0 (rw (later.0, here.0) at is), same_node n)
    | inr apart ↦
        let rest_is = found_changed rest changed place change n same (rw (later.0, apart.0) at is) in
        (rest_is.0, rw apart.0 rest_is.1, rest_is.2)
  ]
]
  where
    first_at : (k : NodeAt) (others : List NodeAt) (p : ℕ) → k.place ≡ p → node_of (k ∷ others) p ≡ Some k
    first_at k others p here = elim (eqb_tells k.place p) [
      | inl first ↦ rw first.0 refl
      | inr apart ↦ absurd (apart.1 here)
    ]

    not_first_at : (k : NodeAt) (others : List NodeAt) (p : ℕ) → k.place ≢ p → node_of (k ∷ others) p ≡ node_of others p
    not_first_at k others p differs = elim (eqb_tells k.place p) [
      | inl first ↦ absurd (differs first.1)
      | inr apart ↦ rw apart.0 refl
    ]

pub found_unlinked : (nodes : List NodeAt) (pred place : ℕ) (n : NodeAt) → IsSpread nodes → node_of (unlinked_after nodes pred) place ≡ Some n → node_of nodes place ≡ Some n
unfolding node_of unlinked_after IsSpread
found_unlinked [] pred place n spread is = is
found_unlinked (m ∷ []) pred place n spread is = elim (eqb_tells m.place pred) [
  | inl at_pred ↦ rw at_pred.0 at is
  | inr later ↦ rw later.0 at is
]
found_unlinked (m ∷ (k ∷ rest)) pred place n spread is = elim (eqb_tells m.place pred) [
  | inl at_pred ↦ elim (eqb_tells m.place place) [
    | inl here ↦ rw here.0 (rw (at_pred.0, here.0) at is)
    | inr apart ↦
        let below = rw (at_pred.0, apart.0) at is in
        elim (eqb_tells k.place place) [
          | inl k_here ↦ absurd (absent_linked rest k.place place spread.1.0 (found_linked rest place n below) k_here.1)
          | inr k_apart ↦ rw (apart.0, k_apart.0) below
        ]
  ]
  | inr later ↦ elim (eqb_tells m.place place) [
    | inl here ↦ rw here.0 (rw (later.0, here.0) at is)
    | inr apart ↦ rw apart.0 (found_unlinked (k ∷ rest) pred place n spread.1 (rw (later.0, apart.0) at is))
  ]
]

-- If a node is linked at a free place, `node_of` still finds each node that it found before.
pub still_found_linked : (nodes : List NodeAt) (pred place : ℕ) (x n : NodeAt) → AbsentFrom x.place nodes → node_of nodes place ≡ Some n → node_of (linked_after nodes pred x) place ≡ Some n
unfolding node_of linked_after
still_found_linked [] pred place x n absent is = is
still_found_linked (m ∷ rest) pred place x n absent is = elim (eqb_tells m.place pred) [
  | inl at_pred ↦ elim (eqb_tells m.place place) [
    | inl here ↦ rw (at_pred.0, here.0) (rw here.0 at is)
    | inr apart ↦
        let later : node_of rest place ≡ Some n = rw apart.0 at is in
        elim (eqb_tells x.place place) [
          | inl x_here ↦ absurd (absent_linked rest x.place place absent.1 (found_linked rest place n later) x_here.1)
          | inr x_apart ↦ rw (at_pred.0, apart.0, x_apart.0) later
        ]
  ]
  | inr further ↦ elim (eqb_tells m.place place) [
    | inl here ↦ rw (further.0, here.0) (rw here.0 at is)
    | inr apart ↦ rw (further.0, apart.0) (still_found_linked rest pred place x n absent.1 (rw apart.0 at is))
  ]
]

pub still_found_changed : (nodes : List NodeAt) (changed place : ℕ) (change : NodeAt → NodeAt) (n : NodeAt) → ((k : NodeAt) → IsSameNode k (change k)) → node_of nodes place ≡ Some n → (m : NodeAt) × (node_of (changed_at nodes changed change) place ≡ Some m) × IsSameNode n m
still_found_changed nodes changed place change n same is =
    let there = linked_found (changed_at nodes changed change) place (changed_linked nodes changed place change same (found_linked nodes place n is)) in
    let before = found_changed nodes changed place change there.0 same there.1 in
    (there.0, there.1, rw (some-injective (sym before.1 ∙ is)) at before.2)

pub still_found_unlinked : (nodes : List NodeAt) (pred place : ℕ) (n gone : NodeAt) → IsSpread nodes → next_of nodes pred ≡ Some gone → n ≢ gone → node_of nodes place ≡ Some n → node_of (unlinked_after nodes pred) place ≡ Some n
still_found_unlinked nodes pred place n gone spread next differs is =
    let apart : place ≢ gone.place = λ same. differs (some-injective (sym is ∙ ap (node_of nodes) same ∙ next_found nodes pred gone spread next)) in
    let linked = others_linked nodes pred gone.place place (ap place_of next) apart (found_linked nodes place n is) in
    let there = linked_found (unlinked_after nodes pred) place linked in
    there.1 ∙ sym (found_unlinked nodes pred place there.0 spread there.1) ∙ is
