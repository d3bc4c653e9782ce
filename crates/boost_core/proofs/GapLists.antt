-- Shows that a change of a list leaves its unmarked nodes linked (`Stay`), because sweeps and seeks
-- unlink marked nodes only, and that they are found again, because places and sort keys differ.
use Rattle.std.proofs.Common.{◌≡◌, ℕ, ◌==◌, true, false, inl, inr, List, [], ◌∷◌, Some, refl, sym, ap, subst, ◌∙◌, arith, eq-eqb, eqb-true, ltb-true, Bool, cond}
use Rattle.boost_core.proofs.Vocabulary.{AllByRecursion, false≢true, cases_Bool, is_before, IsBefore, NodeAt, node_of, next_of, first, linked_after, changed_at, IsRising, IsSpread, IsNodeBefore, AbsentFrom, cleaned, sought, without_first_marked, SortKey}
use Rattle.boost_core.proofs.NodeLists.{node_here, node_later, none_of_none}

-- A node with the sort key and the stamp of `n` is linked at `place`.
pub record IsStill (nodes : List NodeAt) (place : ℕ) (n : NodeAt) : Type 0 where
  pub node : NodeAt
  pub is : node_of nodes place ≡ Some node
  pub at : node.at ≡ n.at
  pub stamp : node.stamp ≡ n.stamp

-- Each unmarked node of the old list is still linked in the new list (`IsStill`).
abbrev pub Stay : List NodeAt → List NodeAt → Type 0
Stay old new = (place : ℕ) (n : NodeAt) → node_of old place ≡ Some n → n.marked ≡ false → IsStill new place n

pub stay_same : (old new : List NodeAt) → new ≡ old → Stay old new
stay_same old new same place n is live = record { node = n; is = ap (λ ns. node_of ns place) same ∙ is; at = refl; stamp = refl }

found_here : (m : NodeAt) (rest : List NodeAt) (place : ℕ) → (m.place == place) ≡ true → node_of (m ∷ rest) place ≡ Some m
unfolding node_of
found_here m rest place here = rw here refl

found_later : (m : NodeAt) (rest : List NodeAt) (place : ℕ) → (m.place == place) ≡ false → node_of (m ∷ rest) place ≡ node_of rest place
unfolding node_of
found_later m rest place apart = rw apart refl

stay_like : (m m' : NodeAt) (old new : List NodeAt) → (m'.place ≡ m.place) × (m'.at ≡ m.at) × (m'.stamp ≡ m.stamp) → Stay old new → Stay (m ∷ old) (m' ∷ new)
stay_like m m' old new same stay place n is live = elim (cases_Bool (m.place == place)) [
  | inl here ↦
      let one = node_here m old place n is here in
      record { node = m'; is = found_here m' new place (rw same.0 here); at = rw one at same.1; stamp = rw one at same.2 }
  | inr apart ↦
      let still = stay place n (node_later m old place (Some n) is apart) live in
      record { node = still.node; is = found_later m' new place (rw same.0 apart) ∙ still.is; at = still.at; stamp = still.stamp }
]

stay_cons : (m : NodeAt) (old new : List NodeAt) → Stay old new → Stay (m ∷ old) (m ∷ new)
stay_cons m old new stay = stay_like m m old new (refl, refl, refl) stay

-- `Stay` holds if a marked node is removed from the list.
stay_without : (m : NodeAt) (old new : List NodeAt) → m.marked ≡ true → Stay old new → Stay (m ∷ old) new
stay_without m old new gone stay place n is live = elim (cases_Bool (m.place == place)) [
  | inl here ↦ absurd (false≢true (sym live ∙ sym (ap (λ k. k.marked) (node_here m old place n is here)) ∙ gone))
  | inr apart ↦ stay place n (node_later m old place (Some n) is apart) live
]

pub stay_changed : (nodes : List NodeAt) (place : ℕ) (change : NodeAt → NodeAt) → ((n : NodeAt) → ((change n).place ≡ n.place) × ((change n).at ≡ n.at) × ((change n).stamp ≡ n.stamp)) → Stay nodes (changed_at nodes place change)
unfolding changed_at
stay_changed [] place change same = stay_same [] [] refl
stay_changed (m ∷ rest) place change same = elim (cases_Bool (m.place == place)) [
  | inl at_place ↦ rw at_place (stay_like m (change m) rest rest (same m) (stay_same rest rest refl))
  | inr later ↦ rw later (stay_cons m rest (changed_at rest place change) (stay_changed rest place change same))
]

-- If every node of a list has a property, so has the node at a place, and so has the node after it.
pub each_at : (P : NodeAt → Type 0) (nodes : List NodeAt) (place : ℕ) (n : NodeAt) → AllByRecursion P nodes → node_of nodes place ≡ Some n → P n
each_at P [] place n each is = absurd (none_of_none place n is)
each_at P (m ∷ rest) place n each is = elim (cases_Bool (m.place == place)) [
  | inl here ↦ subst P (node_here m rest place n is here) each.0
  | inr apart ↦ each_at P rest place n each.1 (node_later m rest place (Some n) is apart)
]

pub place_at : (nodes : List NodeAt) (place : ℕ) (n : NodeAt) → node_of nodes place ≡ Some n → n.place ≡ place
place_at [] place n is = absurd (none_of_none place n is)
place_at (m ∷ rest) place n is = elim (cases_Bool (m.place == place)) [
  | inl here ↦ sym (ap (λ k. k.place) (node_here m rest place n is here)) ∙ eqb-true m.place place here
  | inr apart ↦ place_at rest place n (node_later m rest place (Some n) is apart)
]

pub next_here : (m : NodeAt) (rest : List NodeAt) (place : ℕ) → (m.place == place) ≡ true → next_of (m ∷ rest) place ≡ first rest
unfolding next_of
next_here m rest place here = rw here refl

pub next_later : (m : NodeAt) (rest : List NodeAt) (place : ℕ) → (m.place == place) ≡ false → next_of (m ∷ rest) place ≡ next_of rest place
unfolding next_of
next_later m rest place apart = rw apart refl

next_none : (place : ℕ) (n : NodeAt) → next_of [] place ≡ Some n → ⊥
unfolding next_of
next_none place n is = cc (is)

first_each : (P : NodeAt → Type 0) (nodes : List NodeAt) (n : NodeAt) → AllByRecursion P nodes → first nodes ≡ Some n → P n
first_each P [] n each is = absurd (cc (is))
first_each P (m ∷ rest) n each is = subst P (cc (is)) each.0

pub each_next : (P : NodeAt → Type 0) (nodes : List NodeAt) (place : ℕ) (n : NodeAt) → AllByRecursion P nodes → next_of nodes place ≡ Some n → P n
each_next P [] place n each is = absurd (next_none place n is)
each_next P (m ∷ rest) place n each is = elim (cases_Bool (m.place == place)) [
  | inl here ↦ first_each P rest n each.1 (sym (next_here m rest place here) ∙ is)
  | inr apart ↦ each_next P rest place n each.1 (sym (next_later m rest place apart) ∙ is)
]

absent_found : (nodes : List NodeAt) (place : ℕ) (n : NodeAt) → AbsentFrom place nodes → node_of nodes place ≡ Some n → ⊥
absent_found nodes place n absent is = each_at (λ m. m.place ≡ place → ⊥) nodes place n absent is (place_at nodes place n is)

first_found : (nodes : List NodeAt) (n : NodeAt) → first nodes ≡ Some n → node_of nodes n.place ≡ Some n
first_found [] n is = absurd (cc (is))
first_found (m ∷ rest) n is =
    let same : m ≡ n = cc (is) in
    found_here m rest n.place (eq-eqb m.place n.place (ap (λ k. k.place) same)) ∙ ap Some same

not_here : (m : NodeAt) (rest : List NodeAt) (place : ℕ) (n : NodeAt) → AbsentFrom m.place rest → node_of rest place ≡ Some n → (m.place == place) ≡ false
not_here m rest place n absent is = elim (cases_Bool (m.place == place)) [
  | inl here ↦ absurd (absent_found rest m.place n absent (rw (eqb-true m.place place here) is))
  | inr apart ↦ apart
]

pub next_found : (nodes : List NodeAt) (place : ℕ) (n : NodeAt) → IsSpread nodes → next_of nodes place ≡ Some n → node_of nodes n.place ≡ Some n
unfolding IsSpread
next_found [] place n spread is = absurd (next_none place n is)
next_found (m ∷ rest) place n spread is =
    let later : node_of rest n.place ≡ Some n = elim (cases_Bool (m.place == place)) [
      | inl here ↦ first_found rest n (sym (next_here m rest place here) ∙ is)
      | inr apart ↦ next_found rest place n spread.1 (sym (next_later m rest place apart) ∙ is)
    ] in
    found_later m rest n.place (not_here m rest n.place n spread.0 later) ∙ later

stay_behind : (x : NodeAt) (rest : List NodeAt) → AbsentFrom x.place rest → Stay rest (x ∷ rest)
stay_behind x rest absent place n is live = record { node = n; is = found_later x rest place (not_here x rest place n absent is) ∙ is; at = refl; stamp = refl }

-- If all nodes have different places, linking one more node leaves the others linked.
pub stay_linked : (nodes : List NodeAt) (place : ℕ) (x : NodeAt) → IsSpread (linked_after nodes place x) → Stay nodes (linked_after nodes place x)
unfolding linked_after IsSpread
stay_linked [] place x spread = stay_same [] [] refl
stay_linked (m ∷ rest) place x spread = elim (cases_Bool (m.place == place)) [
  | inl here ↦ rw here (stay_cons m rest (x ∷ rest) (stay_behind x rest (rw here at spread).1.0))
  | inr apart ↦ rw apart (stay_cons m rest (linked_after rest place x) (stay_linked rest place x (rw apart at spread).1))
]

-- Sweeps and seeks leave each unmarked node linked.
pub stay_swept : (nodes : List NodeAt) → Stay nodes (without_first_marked nodes)
unfolding without_first_marked
stay_swept [] = stay_same [] [] refl
stay_swept (m ∷ rest) = elim (cases_Bool m.marked) [
  | inl gone ↦ subst (Stay (m ∷ rest)) (sym (ap (λ b. cond b rest (m ∷ without_first_marked rest)) gone)) (stay_without m rest rest gone (stay_same rest rest refl))
  | inr live ↦ subst (Stay (m ∷ rest)) (sym (ap (λ b. cond b rest (m ∷ without_first_marked rest)) live)) (stay_cons m rest (without_first_marked rest) (stay_swept rest))
]

stay_cleaned : (sort : SortKey) (nodes : List NodeAt) → Stay nodes (cleaned sort nodes)
unfolding cleaned
stay_cleaned sort [] = stay_same [] [] refl
stay_cleaned sort (m ∷ rest) = elim (cases_Bool m.marked) [
  | inl gone ↦ subst (Stay (m ∷ rest)) (sym (ap (λ b. cond b (cleaned sort rest) (cond (is_before m.at sort) (m ∷ cleaned sort rest) (m ∷ rest))) gone)) (stay_without m rest (cleaned sort rest) gone (stay_cleaned sort rest))
  | inr live ↦ subst (Stay (m ∷ rest)) (sym (ap (λ b. cond b (cleaned sort rest) (cond (is_before m.at sort) (m ∷ cleaned sort rest) (m ∷ rest))) live)) (before (stay_cleaned sort rest) (is_before m.at sort))
]
  where
    before : Stay rest (cleaned sort rest) → (b : Bool) → Stay (m ∷ rest) (cond b (m ∷ cleaned sort rest) (m ∷ rest))
    before stay true = stay_cons m rest (cleaned sort rest) stay
    before stay false = stay_same (m ∷ rest) (m ∷ rest) refl

pub stay_sought : (sort : SortKey) (nodes : List NodeAt) (place : ℕ) → Stay nodes (sought nodes place sort)
unfolding sought
stay_sought sort [] place = stay_same [] [] refl
stay_sought sort (m ∷ rest) place = elim (cases_Bool (m.place == place)) [
  | inl here ↦ rw here (stay_cons m rest (cleaned sort rest) (stay_cleaned sort rest))
  | inr apart ↦ rw apart (stay_cons m rest (sought rest place sort) (stay_sought sort rest place))
]

-- No sort key is before itself.
not_before : (at : SortKey) → IsBefore at at → ⊥
unfolding is_before
not_before at is = let less = ltb-true at.key at.key (rw (eq-eqb at.split at.split refl) at is) in omega arith

pub apart_keys : (a b : SortKey) → a ≡ b → IsBefore a b → ⊥
apart_keys a b same is = not_before b (rw same at is)

later_next : (k : NodeAt) (rest : List NodeAt) (p : ℕ) (n : NodeAt) → AllByRecursion (IsNodeBefore k) rest → next_of (k ∷ rest) p ≡ Some n → IsBefore k.at n.at
later_next k rest p n each next = elim (cases_Bool (k.place == p)) [
  | inl here ↦ first_each (IsNodeBefore k) rest n each (sym (next_here k rest p here) ∙ next)
  | inr apart ↦ each_next (IsNodeBefore k) rest p n each (sym (next_later k rest p apart) ∙ next)
]

first_one : (rest : List NodeAt) (q : ℕ) (n m : NodeAt) → IsRising rest → first rest ≡ Some n → node_of rest q ≡ Some m → m.at ≡ n.at → m ≡ n
unfolding IsRising
first_one [] q n m rising next is same = absurd (cc (next))
first_one (k ∷ rest) q n m rising next is same =
    let k_is : k ≡ n = cc (next) in
    elim (cases_Bool (k.place == q)) [
      | inl here ↦ sym (node_here k rest q m is here) ∙ k_is
      | inr apart ↦ absurd (apart_keys n.at m.at (sym same) (subst (λ j. IsBefore j.at m.at) k_is (each_at (IsNodeBefore k) rest q m rising.0 (node_later k rest q (Some m) is apart))))
    ]

-- If the sort keys of a list rise, two nodes with equal sort keys are the same node.
pub one_of_key : (nodes : List NodeAt) (p q : ℕ) (n m : NodeAt) → IsRising nodes → next_of nodes p ≡ Some n → node_of nodes q ≡ Some m → m.at ≡ n.at → m ≡ n
unfolding IsRising
one_of_key [] p q n m rising next is same = absurd (next_none p n next)
one_of_key (k ∷ rest) p q n m rising next is same = elim (cases_Bool (k.place == q)) [
  | inl here ↦ absurd (apart_keys m.at n.at same (subst (λ j. IsBefore j.at n.at) (node_here k rest q m is here) (later_next k rest p n rising.0 next)))
  | inr later ↦ elim (cases_Bool (k.place == p)) [
    | inl at_pred ↦ first_one rest q n m rising.1 (sym (next_here k rest p at_pred) ∙ next) (node_later k rest q (Some m) is later) same
    | inr apart ↦ one_of_key rest p q n m rising.1 (sym (next_later k rest p apart) ∙ next) (node_later k rest q (Some m) is later) same
  ]
]
