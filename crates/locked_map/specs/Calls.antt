-- PROMISES callers-in-threads: IsHeld, WentOn, DoesOp
-- The holds of a shared call, and the caller after the call.
use Rattle.std.specs.Prelude.{ℕ, zero, suc, ◌≡◌, ◌≤◌, ◌⊎◌, true, false, List, [], ◌∷◌, ◌++◌, length, Option, Some, None, is_some, Result, Ok, Err, IfOk, OnOk}
use Rattle.locked_map.specs.Vocabulary.{Call, CommitNothing, Drive, End, Entry, IsMade, IsSameSide, NoMemory, Op, OutOfStep, Refusal, State}
use Rattle.locked_map.specs.Vocabulary.{Stop, new_drive, stance_after}
use Rattle.txn_drive.specs.declared.call.Call.TheVariants as calls
use Rattle.txn_drive.specs.declared.«end».End.TheVariants as ends
use Rattle.locked_map.specs.Claims.{Readies, claims_at}
use Rattle.locked_map.specs.Holds.{Held}
use Rattle.locked_map.specs.Ready.{refused_by}
use Rattle.locked_map.specs.Ready.{MovesSide}
use Rattle.locked_map.specs.Suits.{may_refuse}
use Rattle.locked_map.specs.Tokens.{Token, IsSameCaller, IsSameSeen}
use Rattle.txn_words.specs.declared.entry.Entry.TheVariants as entries
use Rattle.txn_words.specs.declared.stop.Stop.TheVariants as stops

-- A call has had this number of holds, none of which has ended the call. Each hold finds the core
-- as it is under the lock at that time. Other callers may take steps between two holds.
abbrev pub HasHeld : {S : Type 0} → ℕ → Token S → Drive → Token S → Drive → Type 0
HasHeld zero k d l e = (l ≡ k) × (e ≡ d)
HasHeld {S} (suc holds) k d l e =
    (between : Token S) × (half : Drive) × (m : State) × (n : State)
    × HasHeld holds k d between half × Held m between half None n l e

-- The call is in progress, after some holds.
pub record IsHolding {S : Type 0} (k : Token S) (call : Call) (l : Token S) (d : Drive) : Type 0
  where
    pub holds : ℕ
    pub held : HasHeld holds k (new_drive k.limits.half k.number call) l d

-- A call has ended with its last hold. The effects of the call are those of its holds, and no
-- others.
pub record IsHeld {S : Type 0} (k : Token S) (call : Call) (outcome : End) (l : Token S) : Type 0
  where
    pub between : Token S
    pub half : Drive
    pub holding : IsHolding k call between half
    pub before : State
    pub after : State
    pub last : Drive
    pub held : Held before between half (Some outcome) after l last

-- The call took the lock. If the call is an operation, it first tried the word of its key's stripe,
-- unless the token had the right to the stripe. Since then, the token has seen exactly the entries
-- that the call's holds added. If the call ended the transaction, all rights were given back.
-- Otherwise the token's claims are those before the first hold.
pub record WentOn {S : Type 0} (k : Token S) (call : Call) (outcome : End) (l : Token S) : Type 0
  where
    pub ready : Token S
    pub same : IsSameSeen k ready
    pub readied : Readies k.claims call ready.claims
    pub last : Token S
    pub held : IsHeld ready call outcome last
    pub seen : l.seen ≡ last.seen
    pub claims : l.claims ≡ claims_at outcome ready.claims

-- The token did not refuse the call. The call did what it was asked to do, or it found a stripe
-- held and aborted the transaction. It added the entries that belong to its end, and changed the
-- side value and the rights to match.
pub record Ran {S : Type 0} (words : S → List ℕ) (k : Token S) (call : Call) (outcome : End)
    (l : Token S) : Type 0 where
  pub free : refused_by k call ≡ None
  pub whose : IsSameCaller k l
  pub sound : l.broken ≡ false
  pub added : List Entry
  pub entries : l.seen ≡ k.seen ++ added
  pub made : IsMade k.number call outcome added
  pub side : MovesSide words outcome k.side l.side
  pub went : WentOn k call outcome l

-- The call did not take the lock. It needed memory for one more right or for one more level, and
-- this memory was refused. No word was tried.
abbrev pub TriedNothing : {S : Type 0} → Token S → Refusal → Token S → Type 0
TriedNothing k refusal l = (refusal ≡ NoMemory) × (l.claims ≡ k.claims)

-- The token did not refuse the call. But memory or a stamp was lacking, or the call found a stale
-- word. The call added no entry. If it took the lock, its last hold ended the call with this
-- refusal.
pub record FoundNone {S : Type 0} (k : Token S) (call : Call) (refusal : Refusal) (l : Token S) :
    Type 0 where
  pub may : may_refuse call refusal ≡ true
  pub whose : IsSameCaller k l
  pub sound : l.broken ≡ false
  pub seen : l.seen ≡ k.seen
  pub side : IsSameSide k.side l.side
  pub cause : TriedNothing k refusal l ⊎ WentOn k call (ends.Refused refusal) l

-- The call is a return to a level that the side value does not have. No word was tried, and no
-- entry was added.
abbrev pub LacksLevel : {S : Type 0} → Token S → Call → Token S → Type 0
LacksLevel k (calls.Back level) l =
    (length k.side.levels ≤ level) × (l.seen ≡ k.seen) × (l.claims ≡ k.claims)
LacksLevel k call l = ⊥

-- The token did not refuse the call, but the call ended with `OutOfStep`. The token is broken and
-- keeps its rights, and it has seen the entries that the call added. If the rule of shape allows
-- all entries that the token has now seen, none of the added entries is a commit. The call's last
-- hold ended it with `OutOfStep`, unless the call is a return to a missing level.
pub record FellOut {S : Type 0} (k : Token S) (call : Call) (l : Token S) : Type 0 where
  pub whose : IsSameCaller k l
  pub broken : l.broken ≡ true
  pub added : List Entry
  pub entries : l.seen ≡ k.seen ++ added
  pub quiet : is_some (stance_after l.seen) ≡ true → CommitNothing added
  pub side : IsSameSide k.side l.side
  pub cause : LacksLevel k call l ⊎ WentOn k call (ends.Refused OutOfStep) l

abbrev pub Failed : {S : Type 0} → Token S → Call → Refusal → Token S → Type 0
Failed k call OutOfStep l = FellOut k call l
Failed k call refusal l = FoundNone k call refusal l

-- The call was refused. Either the token itself refused it: then the token is unchanged. Or the
-- call failed later (`Failed`).
abbrev pub WasRefused : {S : Type 0} → Token S → Call → Refusal → Token S → Type 0
WasRefused k call refusal l =
    ((refused_by k call ≡ Some refusal) × (l ≡ k))
    ⊎ ((refused_by k call ≡ None) × Failed k call refusal l)

-- The caller after a call with this end.
abbrev pub Ended : {S : Type 0} → (S → List ℕ) → Token S → Call → End → Token S → Type 0
Ended words k call (ends.Refused refusal) l = WasRefused k call refusal l
Ended words k call outcome l = Ran words k call outcome l

-- The end says that the call did what it was asked to do.
abbrev pub IsDone : End → Type 0
IsDone (ends.Answered answer) = Unit {0}
IsDone ends.Helped = Unit {0}
IsDone outcome = ⊥

-- The caller after a call that did not do what it was asked to do.
abbrev pub Stopped : {S : Type 0} → (S → List ℕ) → Token S → Call → Stop → Token S → Type 0
Stopped words k call (stops.Busy holder) l = Ran words k call (ends.Busy holder) l
Stopped words k call (stops.Refused refusal) l = WasRefused k call refusal l

-- The call did what it was asked to do. Its token did not refuse it, and its last hold ended it
-- with an answer or with `Helped` (`IsDone`). The contract of each call states the entries that the
-- call adds and its effect on the side value.
pub record Passed {S : Type 0} (k : Token S) (call : Call) (l : Token S) : Type 0 where
  pub free : refused_by k call ≡ None
  pub whose : IsSameCaller k l
  pub sound : l.broken ≡ false
  pub outcome : End
  pub done : IsDone outcome
  pub went : WentOn k call outcome l

-- The caller after a call with this result, which is a value or the reason why the call stopped.
abbrev pub LeavesBy : {S T : Type 0} → (S → List ℕ) → Token S → Call → Result T Stop → Token S
    → Type 0
LeavesBy words k call (Ok reply) l = Passed k call l
LeavesBy words k call (Err stop) l = Stopped words k call stop l

-- The caller after each call. If the token is broken, the call is refused with `OutOfStep` and
-- changes nothing.
pub record EndsCall {S T : Type 0} (words : S → List ℕ) (k : Token S) (call : Call)
    (result : Result T Stop) (l : Token S) : Type 0 where
  pub by_result : LeavesBy words k call result l
  pub stays : k.broken ≡ true → (result ≡ Err (stops.Refused OutOfStep)) × (l ≡ k)

-- An operation with this result. If it was done, the token has seen two more entries, and the side
-- value is unchanged.
pub record DoesOp {S : Type 0} (words : S → List ℕ) (k : Token S) (op : Op)
    (result : Result (Option ℕ) Stop) (l : Token S) : Type 0 where
  pub ok : IfOk result (λ reply. l.seen
      ≡ k.seen ++ entries.Asked k.number op ∷ entries.Did k.number reply ∷ [])
  pub side : OnOk result (IsSameSide k.side l.side)
  pub claims : OnOk result (Readies k.claims (calls.Op op) l.claims)
  pub leaves : EndsCall words k (calls.Op op) result l
