-- Shows that a caller's side refuses a step exactly if the machine does, because both test the
-- caller's number, its stance and its cursor, in this order.
use Rattle.std.proofs.Common.{◌≡◌, ℕ, ◌<◌, Bool, true, false, cond, List, [], ◌∷◌, ◌++◌, length, get_or, Option, Some, None, is_some, refl, sym, ap, ◌∙◌, arith, nat_le, not, map, slice_get, unwrap_or, leb-false, option_map, length-set, slice_set, get_or-set_same}
use Rattle.boost_core.proofs.Vocabulary.{lt-leb, not-false, false≢true, slice_get-map, slice_get-get_or, Refusal, Step, CallerStep, step_by, Phase, Closed, Opened, Waiting, Stance, closed_stance, TableAt, Cursor, cursor_changes, NoSuchCaller, Unplaced, Begin, Act, Back, Commit, Abort, Session, State, Owner, Caller, stance_in, caller_changes, owner_of, is_closed, is_waiting, is_leaving, tests_in, tests_of, first_of, refusal_in, refusal_of, lacks_in, lacks_cursor, IsSoughtAt, World, Tells, state_of, session_changes}

-- The first option if it is a refusal, or else the second option.
abbrev pub or_else : Option Refusal → Option Refusal → Option Refusal
or_else None other = other
or_else (Some refusal) other = Some refusal

first_if : (b : Bool) (refusal : Refusal) (one other : Option Refusal) → cond b (Some refusal) (or_else one other) ≡ or_else (cond b (Some refusal) one) other
first_if true refusal one other = refl
first_if false refusal one other = refl

pub first_of-append : (xs ys : List (Bool × Refusal)) → first_of (xs ++ ys) ≡ or_else (first_of xs) (first_of ys)
first_of-append [] ys = refl
first_of-append (x ∷ xs) ys = ap (cond x.0 (Some x.1)) (first_of-append xs ys) ∙ first_if x.0 x.1 (first_of xs) (first_of ys)

pub first_none : (b : Bool) (refusal : Refusal) (rest : Option Refusal) → cond b (Some refusal) rest ≡ None → (b ≡ false) × (rest ≡ None)
first_none true refusal rest none = absurd (cc (none))
first_none false refusal rest none = (refl, none)

or_else_none : (one other : Option Refusal) → or_else one other ≡ None → (one ≡ None) × (other ≡ None)
or_else_none None other none = (refl, none)
or_else_none (Some refusal) other none = absurd (cc (none))

-- The number of the caller that owns a step, or 0 if no caller owns it.
abbrev pub caller_in : Option Owner → ℕ
caller_in (Some (Caller c)) = c
caller_in _ = 0

-- The caller that takes a step owns it.
pub owner_by : (c : ℕ) (step : CallerStep) → owner_of (step_by c step) ≡ Some (Caller c)
owner_by c CallerStep.Begin = refl
owner_by c _ = refl

lacks_is : (state : State) (c : ℕ) (step : Step) → owner_of step ≡ Some (Caller c) → lacks_cursor state step ≡ lacks_in (stance_in state.history c) (is_some (caller_changes state.cursors c)) step
lacks_is state c (Act d) owner =
    ap (λ (k : ℕ). lacks_in (stance_in state.history k) (is_some (caller_changes state.cursors k)) (Act d)) (ap caller_in owner)
lacks_is state c _ owner = refl

-- A caller's step is refused if the caller's number is too high, if the caller's stance refuses the
-- step, or if a cursor is missing. The first of these three that applies gives the refusal.
pub refusal_parts : (state : State) (c : ℕ) (step : Step) → owner_of step ≡ Some (Caller c)
    → refusal_of state step ≡ cond (nat_le state.limits.callers c) (Some NoSuchCaller) (or_else (refusal_in state.limits.half (stance_in state.history c) step) (cond (lacks_in (stance_in state.history c) (is_some (caller_changes state.cursors c)) step) (Some Unplaced) None))
refusal_parts state c step owner =
    ap (λ o. first_of (tests_of state o step)) owner
    ∙ ap (cond (nat_le state.limits.callers c) (Some NoSuchCaller))
    (first_of-append (tests_in state.limits.half (stance_in state.history c) step) ((lacks_cursor state step, Unplaced) ∷ [])
    ∙ ap (λ b. or_else (refusal_in state.limits.half (stance_in state.history c) step) (cond b (Some Unplaced) None)) (lacks_is state c step owner))

-- Nothing refuses the step: the caller's number is in range, the caller's stance allows the step, and
-- no cursor is missing.
pub record Free (state : State) (c : ℕ) (step : Step) : Type 0 where
  pub within : nat_le state.limits.callers c ≡ false
  pub stance : refusal_in state.limits.half (stance_in state.history c) step ≡ None
  pub cursor : lacks_in (stance_in state.history c) (is_some (caller_changes state.cursors c)) step ≡ false

pub free : (state : State) (c : ℕ) (step : Step) → owner_of step ≡ Some (Caller c) → refusal_of state step ≡ None → Free state c step
free state c step owner none =
    let first = first_none (nat_le state.limits.callers c) NoSuchCaller _ (sym (refusal_parts state c step owner) ∙ none) in
    let rest = or_else_none (refusal_in state.limits.half (stance_in state.history c) step) _ first.1 in
    record { within = first.0; stance = rest.0; cursor = (first_none _ Unplaced None rest.1).0 }

pub closed_is : (q : Phase) → is_closed q ≡ true → q ≡ Closed
closed_is Closed is = refl
closed_is _ is = absurd (false≢true is)

opened_is : (q : Phase) → is_closed q ≡ false → is_leaving q ≡ false → is_waiting q ≡ false → q ≡ Opened
opened_is Closed closed leaving waiting = absurd (false≢true (sym closed))
opened_is Opened closed leaving waiting = refl
opened_is (Waiting op) closed leaving waiting = absurd (false≢true (sym waiting))
opened_is _ closed leaving waiting = absurd (false≢true (sym leaving))

pub begin_closed : (half : Bool) (s : Stance) (c : ℕ) → refusal_in half s (Begin c) ≡ None → s.phase ≡ Closed
begin_closed half s c none =
    let first = first_none (is_leaving s.phase) _ _ none in
    let second = first_none (not (is_closed s.phase)) _ _ first.1 in
    closed_is s.phase (not-false (is_closed s.phase) second.0)

-- Suppose that the first three tests refuse a stance whose phase is closed, leaving or waiting. If no
-- test refuses the stance, its phase is `Opened`, and no later test refuses it.
pub three_tests : (s : Stance) (a b c : Refusal) (rest : Option Refusal) → cond (is_closed s.phase) (Some a) (cond (is_leaving s.phase) (Some b) (cond (is_waiting s.phase) (Some c) rest)) ≡ None → (s.phase ≡ Opened) × (rest ≡ None)
three_tests s a b c rest none =
    let first = first_none (is_closed s.phase) a _ none in
    let second = first_none (is_leaving s.phase) b _ first.1 in
    let third = first_none (is_waiting s.phase) c rest second.1 in
    (opened_is s.phase first.0 second.0 third.0, third.1)

pub commit_open : (half : Bool) (s : Stance) (c : ℕ) → refusal_in half s (Commit c) ≡ None → s.phase ≡ Opened
commit_open half s c none = (three_tests s _ _ _ _ none).0

pub back_open : (half : Bool) (s : Stance) (c n : ℕ) → refusal_in half s (Back c n) ≡ None → (s.phase ≡ Opened) × (nat_le (length s.kept) n ≡ false)
back_open half s c n none =
    let open_so = three_tests s _ _ _ _ none in
    (open_so.0, (first_none _ _ None open_so.1).0)

-- A caller that acts on no key has no cursor.
pub no_cursor : (t : TableAt) (cursor : Option Cursor) → IsSoughtAt t cursor None → cursor ≡ None
no_cursor t None sought = refl
no_cursor t (Some cursor) sought = absurd sought

-- There is a change number exactly if there is a cursor.
pub noted_some : (o : Option Cursor) → is_some (option_map cursor_changes o) ≡ is_some o
noted_some None = refl
noted_some (Some cursor) = refl

module _ (w : World) (tells : Tells w) (c : ℕ) (x : Session) (at : slice_get w.sessions c ≡ Some x) where
  -- The machine's state has the stance of the caller's session and the change number of the caller's
  -- cursor.
  pub stance_here : stance_in w.history c ≡ x.stance.stance
  stance_here = ap (λ o. unwrap_or o closed_stance) (tells.its_stance c x at).stance

  pub changes_here : caller_changes (map session_changes w.sessions) c ≡ session_changes x
  changes_here = ap (λ o. unwrap_or o None) (slice_get-map session_changes w.sessions c ∙ ap (option_map session_changes) at)

  pub changes_is_some : is_some (caller_changes (map session_changes w.sessions) c) ≡ is_some x.cursor
  changes_is_some = ap is_some changes_here ∙ noted_some x.cursor

  -- If the caller's number is in range, a step of the caller is refused in two cases: the caller's
  -- stance refuses it, or a cursor is missing.
  pub refusal_here : (step : Step) → owner_of step ≡ Some (Caller c) → nat_le w.limits.callers c ≡ false
      → refusal_of (state_of w) step ≡ or_else (refusal_in w.limits.half x.stance.stance step) (cond (lacks_in x.stance.stance (is_some x.cursor) step) (Some Unplaced) None)
  refusal_here step owner within =
      refusal_parts (state_of w) c step owner
      ∙ ap (λ b. cond b (Some NoSuchCaller) (or_else (refusal_in w.limits.half (stance_in w.history c) step) (cond (lacks_in (stance_in w.history c) (is_some (caller_changes (map session_changes w.sessions) c)) step) (Some Unplaced) None))) within
      ∙ (λ i. or_else (refusal_in w.limits.half (stance_here i) step) (cond (lacks_in (stance_here i) (changes_is_some i) step) (Some Unplaced) None))

  -- If nothing refuses a step, the caller's stance does not refuse it, and no cursor is missing.
  pub stance_free : (step : Step) → owner_of step ≡ Some (Caller c) → refusal_of (state_of w) step ≡ None → refusal_in w.limits.half x.stance.stance step ≡ None
  stance_free step owner none = ap (λ s. refusal_in w.limits.half s step) (sym stance_here) ∙ (free (state_of w) c step owner none).stance

  pub cursor_free : (step : Step) → owner_of step ≡ Some (Caller c) → refusal_of (state_of w) step ≡ None → lacks_in x.stance.stance (is_some x.cursor) step ≡ false
  cursor_free step owner none = (λ i. lacks_in (sym stance_here i) (sym changes_is_some i) step) ∙ (free (state_of w) c step owner none).cursor

-- If the first option is a refusal, `or_else` returns it.
pub or_else_some : (one other : Option Refusal) → is_some one ≡ true → or_else one other ≡ one
or_else_some None other some = absurd (false≢true some)
or_else_some (Some refusal) other some = refl

pub not_some : {A : Type 0} (one : Option A) → is_some one ≡ false → one ≡ None
not_some None none = refl
not_some (Some x) none = absurd (false≢true (sym none))

-- If `get_or` finds `x` at a position within the list, `slice_get` finds it too.
pub index_at : {A : Type 0} (xs : List A) (i : ℕ) (x : A) → i < length xs → x ≡ get_or xs i x → slice_get xs i ≡ Some x
index_at xs i x within is = slice_get-get_or xs i x within ∙ ap Some (sym is)

pub set_here : {A : Type 0} (xs : List A) (i : ℕ) (x : A) → i < length xs → slice_get (slice_set xs i x) i ≡ Some x
set_here xs i x within = index_at (slice_set xs i x) i x (omega (arith, length-set xs i x, within)) (sym (get_or-set_same xs i x x within))

pub le_false : (a b : ℕ) → b < a → nat_le a b ≡ false
le_false a b less = lt-leb a b less

pub lacking : (one : Option Refusal) (b value : Bool) → one ≡ None → b ≡ value → or_else one (cond b (Some Unplaced) None) ≡ cond value (Some Unplaced) None
lacking one b value none is = rw (none, is) refl

-- If nothing refuses a step in a state that is equal to the state of `w`, then nothing refuses it
-- in the state of `w`, and its caller has a session.
pub free_at : (w : World) (old : State) → Tells w → state_of w ≡ old → (c : ℕ) (step : CallerStep) (r : Option Refusal) → r ≡ refusal_of old (step_by c step) → r ≡ None → (x : Session) → x ≡ get_or w.sessions c x
    → (refusal_of (state_of w) (step_by c step) ≡ None) × (slice_get w.sessions c ≡ Some x)
free_at w old tells view c step r says none x is =
    let nothing = ap (λ (s : State). refusal_of s (step_by c step)) view ∙ sym says ∙ none in
    let within = (free (state_of w) c (step_by c step) (owner_by c step) nothing).within in
    (nothing, index_at w.sessions c x (omega (arith, tells.count, leb-false w.limits.callers c within)) is)

-- Let a state be equal to the state of `w`. In this state, a caller's step is refused in two cases:
-- the caller's stance refuses it, or a cursor is missing.
pub refusal_at : (w : World) (old : State) → Tells w → state_of w ≡ old → (c : ℕ) (x : Session) → x ≡ get_or w.sessions c x → (step : CallerStep) (whole : Step) → whole ≡ step_by c step → c < w.limits.callers
    → refusal_of old (step_by c step) ≡ or_else (refusal_in w.limits.half x.stance.stance whole) (cond (lacks_in x.stance.stance (is_some x.cursor) whole) (Some Unplaced) None)
refusal_at w old tells view c x is step whole by within =
    rw by (ap (λ (s : State). refusal_of s (step_by c step)) (sym view)
    ∙ refusal_here w tells c x (index_at w.sessions c x (omega (arith, tells.count, within)) is) (step_by c step) (owner_by c step) (le_false w.limits.callers c within))

pub abort_runs : (half : Bool) (s : Stance) (c : ℕ) → refusal_in half s (Abort c) ≡ None → (is_closed s.phase ≡ false) × (is_leaving s.phase ≡ false)
abort_runs half s c none =
    let first = first_none (is_closed s.phase) _ _ none in
    (first.0, (first_none (is_leaving s.phase) _ None first.1).0)
