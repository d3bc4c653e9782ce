-- Shows that a call for help that ends with `Helped` has stored its target bucket, because each of
-- its moves keeps the target and the agreement with the core (`HelpSuits`), even if others take
-- steps on the core between two moves.
use Rattle.std.proofs.Common.{◌≡◌, ◌≢◌, ℕ, ◌*◌, ◌^◌, ◌%◌, ◌<◌, ◌≤◌, ◌==◌, ◌&&◌, nat_lt, Bool, true, false, if◌then◌else◌, List, [], ◌∷◌, length, Some, None, refl, sym, ap, subst, ◌∙◌, arith, nat_le, not, unwrap_or, slice_get, slice_set, eqb-true, lt-ltb, get_or-set_same, leb-false}
use Rattle.boost_core.proofs.Vocabulary.{false≢true, eqb-false, mod_below, unwrap_or-slice_get, Step, Answer, Refusal, Way, child_towards, step_in, sized_in, towards, heading, refused_help, told_help, told_init_seek, told_link, told_store, told_in, IsAncestor-root, IsAncestor-child_towards, parent_of-child_towards, child_towards-le, parent_of, IsAncestor, State, Help, Nothing, Sought, Dummy, is_set, with_bucket, help_in, bucket_at, refusal_of, MayLack, has_cursor, holds_dummy, first_of, Move, IsWhole, IsOnWay, HelpSuits, HelperOutOfOrder, NoMemory, NoSuchBucket, NoSuchHelper, OutOfStep, ParentMissing, StampsUsedUp}
use Rattle.txn_drive.specs.declared.phase.Phase.{Phase}
use Rattle.txn_drive.specs.declared.phase.Phase.TheVariants.{Doubling, Initialising, Linking, Storing, Helped, Refused}
use Rattle.boost_core.proofs.SideRefusals.{le_false}
use Rattle.boost_core.proofs.Calls.{never_refused, and_none}
use Rattle.txn_words.specs.declared.step.Step.TheVariants as steps
use Rattle.txn_words.specs.declared.answer.Answer.TheVariants as answers
use Rattle.txn_drive.specs.declared.call.Call.TheVariants as calls

-- Returns true if the step is a doubling. No other step changes the size (`Sized`).
abbrev pub is_double : Step → Bool
is_double (steps.Double seen) = true
is_double step = false

pub record Sized (m n : State) (step : Step) : Type 0 where
  pub least : m.size ≤ n.size
  pub most : n.size ≤ 2 * m.size
  pub same : is_double step ≡ false → n.size ≡ m.size

size_stays : (m n : State) (step : Step) → n.size ≡ m.size → Sized m n step
size_stays m n step is = record { least = omega arith; most = omega arith; same = λ other. is }

pub sized : (m n : State) (step : Step) (a : Answer) → Move m step a n → Sized m n step
sized m n (steps.Double seen) (answers.Doubled size) move =
    let is : n.size ≡ size = ap (λ (s : State). s.size) move.state in
    record { least = omega (arith, move.allowed.1.0); most = omega (arith, move.allowed.1.0); same = λ other. absurd (false≢true (sym other)) }
sized m n step (answers.Doubled size) move = absurd move.allowed.1
sized m n step (answers.Refused r) move = size_stays m n step (ap (λ (s : State). s.size) move.state)
sized m n step _ move = size_stays m n step (ap (λ (s : State). s.size) move.state)

-- Suppose that `P` holds for both phases that may follow after a bucket on the way is initialised.
-- Then `P` holds for the phase that does follow. The next lemmas say the same of the beginning of
-- the way, of a refusal and of a doubling.
pub at_towards : (P : Phase → Type 0) (last target : ℕ) → (last ≡ target → P Helped) → (last ≢ target → P (Initialising (record { bucket = child_towards last target; target = target }) 0)) → P (towards last target)
at_towards P last target there on = at (last == target) refl
  where
    at : (b : Bool) → (last == target) ≡ b → P (if b then Helped else Initialising (record { bucket = child_towards last target; target = target }) 0)
    at true same = there (eqb-true last target same)
    at false differs = on (eqb-false last target differs)

pub at_heading : (P : Phase → Type 0) (key size : ℕ) → P (towards 0 (key % size)) → ((nat_lt 0 size && nat_lt size (2 ^ 32)) ≡ false → P (Refused OutOfStep)) → P (heading key size)
at_heading P key size on out = at (nat_lt 0 size && nat_lt size (2 ^ 32)) refl
  where
    at : (b : Bool) → (nat_lt 0 size && nat_lt size (2 ^ 32)) ≡ b → P (if b then towards 0 (key % size) else Refused OutOfStep)
    at true fits = on
    at false none = out none

pub at_refused : (P : Phase → Type 0) (r : Refusal) → ((r : Refusal) → P (Refused r)) → P (refused_help r)
at_refused P NoMemory ends = ends NoMemory
at_refused P StampsUsedUp ends = ends StampsUsedUp
at_refused P r ends = ends OutOfStep

pub at_double : (P : Phase → Type 0) (m n : State) (key : ℕ) (a : Answer) → Move m (steps.Double m.size) a n → (n.stored ≡ m.stored → P (heading key n.size)) → P (told_help key m.size a)
at_double P m n key (answers.Refused r) move on = absurd (never_refused m (steps.Double m.size) r refl move.allowed)
at_double P m n key (answers.Moved size) move on = subst (λ z. P (heading key z)) (ap (λ (s : State). s.size) move.state ∙ sym move.allowed.1.0) (on (ap (λ (s : State). s.stored) move.state))
at_double P m n key (answers.Doubled size) move on = subst (λ z. P (heading key z)) (ap (λ (s : State). s.size) move.state) (on (ap (λ (s : State). s.stored) move.state))
at_double P m n key answers.AtLimit move on = subst (λ z. P (heading key z)) (ap (λ (s : State). s.size) move.state) (on (ap (λ (s : State). s.stored) move.state))
at_double P m n key answers.Light move on = subst (λ z. P (heading key z)) (ap (λ (s : State). s.size) move.state) (on (ap (λ (s : State). s.stored) move.state))
at_double P m n key _ move on = absurd move.allowed.1

-- If an element is set, reading its index returns the new element.
pub set_there : {A : Type 0} (xs : List A) (i : ℕ) (x other : A) → i < length xs → unwrap_or (slice_get (slice_set xs i x) i) other ≡ x
set_there xs i x other within = unwrap_or-slice_get (slice_set xs i x) i other ∙ get_or-set_same xs i x other within

-- After the answer `Stored`, the bucket `way.bucket` is stored.
stored_there : (m n : State) (c : ℕ) (way : Way) → IsWhole m → HelpSuits m c (Storing way) → Move m (steps.InitStore c) answers.Stored n → is_set n.stored way.bucket ≡ true
stored_there m n c way whole suits move =
    ap (λ (s : State). is_set s.stored way.bucket) move.state ∙ ap (λ b. is_set (with_bucket m.stored b) way.bucket) suits.2
    ∙ set_there m.stored way.bucket true false (omega (arith, suits.0.bucket, whole.most, whole.buckets))

-- While the call for help runs, its target is `bucket`. If the call has ended with `Helped` and
-- `known` holds, this bucket is stored.
abbrev pub Reaches : Type 0 → State → ℕ → Phase → Type 0
Reaches known m bucket (Initialising way again) = way.target ≡ bucket
Reaches known m bucket (Linking way again) = way.target ≡ bucket
Reaches known m bucket (Storing way) = way.target ≡ bucket
Reaches known m bucket Helped = known → is_set m.stored bucket ≡ true
Reaches known m bucket (Refused refusal) = Unit {0}
Reaches known m bucket phase = ⊥

towards_reaches : (known : Type 0) (n : State) (bucket last target : ℕ) → target ≡ bucket → (known → is_set n.stored last ≡ true) → Reaches known n bucket (towards last target)
towards_reaches known n bucket last target to stored =
    at_towards (Reaches known n bucket) last target (λ same k. ap (is_set n.stored) (sym to ∙ sym same) ∙ stored k) (λ other. to)

pub double_reaches : (known : Type 0) (m n : State) (key : ℕ) (a : Answer) → (known → n.stored ≡ m.stored → is_set n.stored 0 ≡ true) → Move m (steps.Double m.size) a n → Reaches known n (key % n.size) (told_help key m.size a)
double_reaches known m n key a first move =
    at_double (Reaches known n (key % n.size)) m n key a move
    (λ same. at_heading (Reaches known n (key % n.size)) key n.size (towards_reaches known n (key % n.size) 0 (key % n.size) refl (λ k. first k same)) (λ none. tt))

pub seek_reaches : (known : Type 0) (m n : State) (c bucket : ℕ) (way : Way) (again : ℕ) (a : Answer) → way.target ≡ bucket → Move m (steps.InitSeek c way.bucket) a n → Reaches known n bucket (told_init_seek way again a)
seek_reaches known m n c bucket way again answers.Ready to move =
    towards_reaches known n bucket way.bucket way.target to (λ k. ap (λ (s : State). is_set s.stored way.bucket) move.state ∙ move.allowed.1)
seek_reaches known m n c bucket way again answers.Placed to move = to
seek_reaches known m n c bucket way again (answers.Refused r) to move = at_refused (Reaches known n bucket) r (λ r. tt)
seek_reaches known m n c bucket way again _ to move = tt

pub link_reaches : (known : Type 0) (n : State) (bucket : ℕ) (way : Way) (again : ℕ) (a : Answer) → way.target ≡ bucket → Reaches known n bucket (told_link way again a)
link_reaches known n bucket way again answers.Again to = to
link_reaches known n bucket way again answers.Present to = to
link_reaches known n bucket way again answers.Linked to = to
link_reaches known n bucket way again (answers.Refused r) to = at_refused (Reaches known n bucket) r (λ r. tt)
link_reaches known n bucket way again _ to = tt

pub store_reaches : (known : Type 0) (m n : State) (c bucket : ℕ) (way : Way) (a : Answer) → (known → IsWhole m × HelpSuits m c (Storing way)) → way.target ≡ bucket → Move m (steps.InitStore c) a n → Reaches known n bucket (told_store way a)
store_reaches known m n c bucket way answers.Stored suits to move =
    towards_reaches known n bucket way.bucket way.target to (λ k. stored_there m n c way (suits k).0 (suits k).1 move)
store_reaches known m n c bucket way (answers.Refused r) suits to move = at_refused (Reaches known n bucket) r (λ r. tt)
store_reaches known m n c bucket way _ suits to move = tt

-- `HelpSuits` holds again after a bucket on the way is initialised.
help_suits_towards : (n : State) (c last target : ℕ) → target < 2 ^ 32 → IsAncestor last target → target < n.size → is_set n.stored last ≡ true → HelpSuits n c (towards last target)
help_suits_towards n c last target small ancestor within stored =
    at_towards (HelpSuits n c) last target (λ same. tt)
    (λ other. record {
      ancestor = IsAncestor-child_towards last target;
      target = within;
      bucket = omega (arith, child_towards-le last target);
      parent = ap (is_set n.stored) (parent_of-child_towards last target small ancestor other) ∙ stored;
    })

-- `HelpSuits` holds again after a doubling.
pub help_suits_double : (m n : State) (c key : ℕ) (a : Answer) → IsWhole m → n.size < 2 ^ 32 → Move m (steps.Double m.size) a n → HelpSuits n c (told_help key m.size a)
help_suits_double m n c key a whole small move =
    let some : 0 < n.size = omega (arith, whole.least, (sized m n (steps.Double m.size) a move).least) in
    let rest = mod_below key n.size some in
    let rest_small : key % n.size < 2 ^ 32 = omega arith in
    at_double (HelpSuits n c) m n key a move
    (λ stored. at_heading (HelpSuits n c) key n.size
    (help_suits_towards n c 0 (key % n.size) rest_small (IsAncestor-root (key % n.size) rest_small) rest (ap (λ xs. is_set xs 0) stored ∙ whole.first))
    (λ none. absurd (false≢true (sym none ∙ (λ i. lt-ltb 0 n.size some i && lt-ltb n.size (2 ^ 32) small i)))))

-- `IsOnWay` still holds if the size and the stored buckets are unchanged.
way_stays : (m n : State) (way : Way) → n.size ≡ m.size → n.stored ≡ m.stored → IsOnWay m way → IsOnWay n way
way_stays m n way size stored on = record {
  ancestor = on.ancestor;
  target = subst (λ k. way.target < k) (sym size) on.target;
  bucket = subst (λ k. way.bucket < k) (sym size) on.bucket;
  parent = ap (λ xs. is_set xs (parent_of way.bucket)) stored ∙ on.parent;
}

target_small : (m : State) (way : Way) → IsWhole m → IsOnWay m way → way.target < 2 ^ 32
target_small m way whole on = omega (arith, on.target, whole.most, whole.fits)

helper_there : (m : State) (c : ℕ) → IsWhole m → nat_le m.limits.callers c ≡ false → c < length m.helpers
helper_there m c whole within = omega (arith, leb-false m.limits.callers c within, whole.helpers)

-- `HelpSuits` holds again after the step `InitSeek`, which seeks the position of a bucket's dummy.
pub help_suits_seek : (m n : State) (c : ℕ) (way : Way) (again : ℕ) (a : Answer) → IsWhole m → nat_le m.limits.callers c ≡ false → IsOnWay m way → Move m (steps.InitSeek c way.bucket) a n → HelpSuits n c (told_init_seek way again a)
help_suits_seek m n c way again a whole within on move = at a move
  where
    parent : (not (is_set m.stored way.bucket) && not (is_set m.stored (parent_of way.bucket))) ≡ false
    parent = ap (λ b. not (is_set m.stored way.bucket) && not b) on.parent ∙ and_none (not (is_set m.stored way.bucket))

    none : refusal_of m (steps.InitSeek c way.bucket) ≡ None
    none = λ i. first_of ((within i, NoSuchHelper) ∷ (le_false m.size way.bucket on.bucket i, NoSuchBucket) ∷ (parent i, ParentMissing) ∷ [])

    at : (a : Answer) → Move m (steps.InitSeek c way.bucket) a n → HelpSuits n c (told_init_seek way again a)
    at (answers.Refused r) move = absurd (never_refused m (steps.InitSeek c way.bucket) r none move.allowed)
    at answers.Ready move =
        help_suits_towards n c way.bucket way.target (target_small m way whole on) on.ancestor (subst (λ k. way.target < k) (sym (ap (λ (s : State). s.size) move.state)) on.target)
        (ap (λ (s : State). is_set s.stored way.bucket) move.state ∙ move.allowed.1)
    at answers.Placed move =
        let sought : help_in n.helpers c ≡ Sought way.bucket n.changes = ap (λ (s : State). help_in s.helpers c) move.state ∙ set_there m.helpers c (Sought way.bucket n.changes) Nothing (helper_there m c whole within) in
        (way_stays m n way (ap (λ (s : State). s.size) move.state) (ap (λ (s : State). s.stored) move.state) on, ap has_cursor sought, ap bucket_at sought)
    at _ move = absurd move.allowed.1

link_lacks : (m n : State) (c : ℕ) (r : Refusal) → MayLack m (steps.InitLink c) r → HelpSuits n c (refused_help r)
link_lacks m n c NoMemory lack = tt
link_lacks m n c StampsUsedUp lack = tt
link_lacks m n c r lack = absurd lack

store_lacks : (m n : State) (c : ℕ) (r : Refusal) → MayLack m (steps.InitStore c) r → HelpSuits n c (refused_help r)
store_lacks m n c NoMemory lack = tt
store_lacks m n c r lack = absurd lack

-- `HelpSuits` holds again after the step `InitLink`.
pub help_suits_link : (m n : State) (c : ℕ) (way : Way) (again : ℕ) (a : Answer) → IsWhole m → nat_le m.limits.callers c ≡ false → HelpSuits m c (Linking way again) → Move m (steps.InitLink c) a n → HelpSuits n c (told_link way again a)
help_suits_link m n c way again a whole within suits move = at a move
  where
    none : refusal_of m (steps.InitLink c) ≡ None
    none = λ i. first_of ((within i, NoSuchHelper) ∷ (not (suits.1 i), HelperOutOfOrder) ∷ [])

    holds : n.size ≡ m.size → n.stored ≡ m.stored → n.helpers ≡ slice_set m.helpers c (Dummy (bucket_at (help_in m.helpers c))) → HelpSuits n c (Storing way)
    holds size stored helpers =
        let dummy : help_in n.helpers c ≡ Dummy (bucket_at (help_in m.helpers c)) = ap (λ (xs : List Help). help_in xs c) helpers ∙ set_there m.helpers c (Dummy (bucket_at (help_in m.helpers c))) Nothing (helper_there m c whole within) in
        (way_stays m n way size stored suits.0, ap holds_dummy dummy, ap bucket_at dummy ∙ suits.2)

    at : (a : Answer) → Move m (steps.InitLink c) a n → HelpSuits n c (told_link way again a)
    at (answers.Refused r) move = link_lacks m n c r (never_refused m (steps.InitLink c) r none move.allowed)
    at answers.Again move = way_stays m n way (ap (λ (s : State). s.size) move.state) (ap (λ (s : State). s.stored) move.state) suits.0
    at answers.Present move = holds (ap (λ (s : State). s.size) move.state) (ap (λ (s : State). s.stored) move.state) (ap (λ (s : State). s.helpers) move.state)
    at answers.Linked move = holds (ap (λ (s : State). s.size) move.state) (ap (λ (s : State). s.stored) move.state) (ap (λ (s : State). s.helpers) move.state)
    at _ move = absurd move.allowed.1

-- `HelpSuits` holds again after the step `InitStore`.
pub help_suits_store : (m n : State) (c : ℕ) (way : Way) (a : Answer) → IsWhole m → nat_le m.limits.callers c ≡ false → HelpSuits m c (Storing way) → Move m (steps.InitStore c) a n → HelpSuits n c (told_store way a)
help_suits_store m n c way a whole within suits move = at a move
  where
    none : refusal_of m (steps.InitStore c) ≡ None
    none = λ i. first_of ((within i, NoSuchHelper) ∷ (not (suits.1 i), HelperOutOfOrder) ∷ [])

    at : (a : Answer) → Move m (steps.InitStore c) a n → HelpSuits n c (told_store way a)
    at (answers.Refused r) move = store_lacks m n c r (never_refused m (steps.InitStore c) r none move.allowed)
    at answers.Stored move =
        help_suits_towards n c way.bucket way.target (target_small m way whole suits.0) suits.0.ancestor (subst (λ k. way.target < k) (sym (ap (λ (s : State). s.size) move.state)) suits.0.target)
        (stored_there m n c way whole suits move)
    at _ move = absurd move.allowed.1

-- `HelpSuits` holds again after any move of the call for help and its answer.
pub help_suits_told : (m n : State) (c key : ℕ) (phase : Phase) (step : Step) (a : Answer) → IsWhole m → n.size < 2 ^ 32 → nat_le m.limits.callers c ≡ false → HelpSuits m c phase → step_in c (calls.Help key) (sized_in m.size phase) ≡ Some step
    → Move m step a n → HelpSuits n c (told_in (calls.Help key) (sized_in m.size phase) a)
help_suits_told m n c key phase step a whole small within suits is move =
    by phase suits is (subst (λ s. Move m s a n) (sym (ap (λ o. unwrap_or o step) is)) move)
  where
    by : (phase : Phase) → HelpSuits m c phase → step_in c (calls.Help key) (sized_in m.size phase) ≡ Some step
        → Move m (unwrap_or (step_in c (calls.Help key) (sized_in m.size phase)) step) a n
        → HelpSuits n c (told_in (calls.Help key) (sized_in m.size phase) a)
    by (Doubling seen) suits is move = help_suits_double m n c key a whole small move
    by (Initialising way again) suits is move = help_suits_seek m n c way again a whole within suits move
    by (Linking way again) suits is move = help_suits_link m n c way again a whole within suits move
    by (Storing way) suits is move = help_suits_store m n c way a whole within suits move
    by Helped suits is move = absurd (cc is)
    by (Refused r) suits is move = absurd (cc is)
    by phase suits is move = absurd suits
