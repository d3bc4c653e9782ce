-- PROMISES from-c: Tells, TellsPairs, Joins, MakesAnother
-- The effect of a striped map's call on a handle, in terms of the member that the handle owns
-- before and after. Only `Opens`, `Joins` and `MakesAnother` give a member to an empty handle. For
-- every other call on an empty handle the status says that the handle is empty.
use Rattle.std.specs.Prelude.{◌≡◌, ℕ, ◌&&◌, nat_eq, nat_le, is_some, Bool, true, List, [], ◌∷◌, ◌++◌, length, Option, Some, None, Result, Vec, if◌then◌else◌}
use Rattle.std.specs.Global.{Global}
use Rattle.txn_words.specs.declared.refusal.Refusal.{Refusal}
use Rattle.txn_words.specs.declared.refusal.Refusal.TheVariants.{NoMemory, NoSuchCaller, Limit}
use Rattle.striped_map.specs.declared.caller.Caller.{Caller}
use Rattle.txn_words.specs.declared.stop.Stop.{Stop}
use Rattle.striped_map.specs.declared.host.Host.{Host}
use Rattle.striped_map.specs.declared.keep.Keep.{Keep}
use Rattle.striped_map.specs.declared.keep.Keep.TheVariants.{Nothing, Commits as KeepCommits, Entries as KeepEntries}
use Rattle.striped_map.specs.Calls.{Aborts}
use Rattle.striped_map.specs.Callers.{number, keeps, numbers_seen, IsAnother, IsMaker}
use Rattle.striped_map.specs.Hosts.{IsOpened}
use Rattle.striped_map.specs.Rule.{most}
use Rattle.boostmap_c.specs.declared.counts.Counts.{Counts}
use Rattle.boostmap_c.specs.declared.member.Group.{Group}
use Rattle.boostmap_c.specs.declared.member.Member.{Member}
use Rattle.boostmap_c.specs.declared.read.CPair.{CPair}
use Rattle.boostmap_c.specs.Contents.{LaysAnswer}
use Rattle.boostmap_c.specs.Counting.{committed, counted, goes_on, none_ended}
use Rattle.boostmap_c.specs.Replies.{done, empty_handle, full, refused}
use Rattle.boostmap_c.specs.Stops.{status_of_reply, word_of_reply, status_of_number, word_of_number, status_of_place, word_of_place, status_of_end}

-- The member's caller makes a call. The status and the word report its answer to C, by `status_of`
-- and `word_of`, and `ends` gives the counts after a call that was done. The group is unchanged.
abbrev pub Tells : {A : Type 0} → (Result A Stop → ℕ) → (ℕ → Result A Stop → ℕ)
    → (Counts → Counts) → (Caller → Result A Stop → Caller → Type 0) → Option Member → ℕ → ℕ → ℕ
    → Option Member → Type 0
Tells {A} status_of word_of ends Calls (Some old) status before after (Some new) =
    (answer : Result A Stop) × Calls old.caller answer new.caller
    × (new.group ≡ old.group) × (new.counts ≡ counted ends old.counts answer)
    × (status ≡ status_of answer) × (after ≡ word_of before answer)
Tells status_of word_of ends Calls None status before after None =
    (status ≡ empty_handle) × (after ≡ before)
Tells status_of word_of ends Calls old status before after new = ⊥

-- The call returns a value or none, a number, or the place of a commit.
abbrev pub TellsReply : (Caller → Result (Option ℕ) Stop → Caller → Type 0) → Option Member → ℕ → ℕ
    → ℕ → Option Member → Type 0
TellsReply Calls = Tells status_of_reply word_of_reply goes_on Calls

abbrev pub TellsNumber : (Caller → Result ℕ Stop → Caller → Type 0) → Option Member → ℕ → ℕ → ℕ
    → Option Member → Type 0
TellsNumber Calls = Tells status_of_number word_of_number goes_on Calls

abbrev pub TellsPlace : (Caller → Result (Option ℕ) Stop → Caller → Type 0) → Option Member → ℕ → ℕ
    → ℕ → Option Member → Type 0
TellsPlace Calls = Tells status_of_place word_of_place committed Calls

-- The call returns pairs of the map, which C gets in an array.
abbrev pub TellsPairs : (Caller → Result (Vec (ℕ × ℕ) Global) Stop → Caller → Type 0)
    → Option Member → ℕ → List CPair → List CPair → ℕ → ℕ → Option Member → Type 0
TellsPairs Calls (Some old) status before after was word (Some new) =
    (answer : Result (Vec (ℕ × ℕ) Global) Stop) × Calls old.caller answer new.caller
    × (new.group ≡ old.group) × (new.counts ≡ counted goes_on old.counts answer)
    × LaysAnswer answer status before after was word
TellsPairs Calls None status before after was word None =
    (status ≡ empty_handle) × (after ≡ before) × (word ≡ was)
TellsPairs Calls old status before after was word new = ⊥

-- The member's caller makes a call that returns no value. The status reports the result to C. The
-- group is unchanged. `ends` gives the counts after a call that was done.
abbrev pub TellsEnd : (Caller → Result Unit Stop → Caller → Type 0) → (Counts → Counts)
    → Option Member → ℕ → Option Member → Type 0
TellsEnd Calls ends (Some old) status (Some new) =
    (answer : Result Unit Stop) × Calls old.caller answer new.caller
    × (new.group ≡ old.group) × (new.counts ≡ counted ends old.counts answer)
    × (status ≡ status_of_end answer)
TellsEnd Calls ends None status None = status ≡ empty_handle
TellsEnd Calls ends old status new = ⊥

-- What a map keeps of its history, by its number in C.
abbrev pub keep_at : ℕ → Option Keep
keep_at keep =
    if nat_eq keep 0 then Some Nothing
    else (if nat_eq keep 1 then Some KeepCommits
    else (if nat_eq keep 2 then Some KeepEntries else None))

-- Whether a map can have these numbers of callers and stripes.
abbrev pub are_numbers : ℕ → ℕ → Bool
are_numbers callers stripes =
    (nat_le 1 callers && nat_le callers 4096) && (nat_le 1 stripes && nat_le stripes 4096)

-- Whether a map can have these numbers of callers and stripes, and keep this.
abbrev pub are_striped_limits : ℕ → ℕ → ℕ → Bool
are_striped_limits callers stripes keep = are_numbers callers stripes && is_some (keep_at keep)

-- The first member of a map that was opened (`IsOpened`): the map has no entries yet, and no
-- callers but those of the member. The member's own caller has the largest number. The other
-- callers wait in the member, in the order of their numbers from 1.
pub record IsFirstMember (callers stripes keys keep seed : ℕ) (m : Member) : Type 0 where
  pub kept : Keep
  pub keep_is : keep_at keep ≡ Some kept
  pub opening : m.group.opening
      ≡ record { stripes = stripes; callers = callers; keys = keys; keep = kept; seed = seed }
  pub host : Host
  pub hosts : m.group.host ≡ Some host
  pub counts_are : m.counts ≡ none_ended
  pub opened : IsOpened m.group.opening host (m.group.waiting.items ++ m.caller ∷ [])

-- The call makes the first member of a new map, unless the map's limits or memory are refused.
abbrev pub OpensAt : ℕ → ℕ → ℕ → ℕ → ℕ → ℕ → ℕ → ℕ → Option Member → Type 0
OpensAt callers stripes keys keep seed status before after (Some new) =
    (are_striped_limits callers stripes keep ≡ true) × (status ≡ done) × (after ≡ callers)
    × IsFirstMember callers stripes keys keep seed new
OpensAt callers stripes keys keep seed status before after None =
    (status ≡ refused (if are_striped_limits callers stripes keep then NoMemory else Limit))
    × (after ≡ before)

-- An empty handle gets the first member of a new map, unless the map is refused. A handle with a
-- member keeps its member.
abbrev pub Opens : Option Member → ℕ → ℕ → ℕ → ℕ → ℕ → ℕ → ℕ → ℕ → Option Member → Type 0
Opens None callers stripes keys keep seed status before after new =
    OpensAt callers stripes keys keep seed status before after new
Opens (Some old) callers stripes keys keep seed status before after new =
    (status ≡ full) × (after ≡ before) × (new ≡ Some old)

-- The group has the same host and opening. Its waiting callers may differ.
pub record IsAlike (old new : Group) : Type 0 where
  pub host_is : new.host ≡ old.host
  pub opening_is : new.opening ≡ old.opening

-- The caller of the member, the callers that wait and all else of the group are unchanged.
abbrev pub IsSame : Member → Member → Type 0
IsSame old new = (new.caller ≡ old.caller) × (new.counts ≡ old.counts)
    × IsAlike old.group new.group
    × (new.group.waiting.items ≡ old.group.waiting.items)

-- The group of a member that has joined: no caller waits in it, and it has no host.
pub record IsJoined (old made : Group) : Type 0 where
  pub none : made.waiting.items ≡ []
  pub hostless : made.host ≡ None
  pub opening_is : made.opening ≡ old.opening

-- The last waiting caller gets its own member, in which no caller waits. The word is the number of
-- callers that waited before the call, which by `IsFirstMember` is the number of this caller. If
-- no caller waits or memory is refused, no member is made.
abbrev pub JoinsOf : Member → ℕ → ℕ → ℕ → Member → Option Member → Type 0
JoinsOf old status before after new (Some made) =
    (new.caller ≡ old.caller) × (new.counts ≡ old.counts) × (made.counts ≡ none_ended)
    × IsAlike old.group new.group × IsJoined old.group made.group
    × (old.group.waiting.items ≡ new.group.waiting.items ++ made.caller ∷ [])
    × (status ≡ done) × (after ≡ length old.group.waiting.items)
JoinsOf old status before after new None =
    IsSame old new × (after ≡ before)
    × (status ≡ refused (if nat_le 1 (length old.group.waiting.items) then NoMemory else NoSuchCaller))

-- A caller that waits in the first handle's member leaves it, and gets the second handle, which
-- must be empty.
abbrev pub Joins : Option Member → Option Member → ℕ → ℕ → ℕ → Option Member → Option Member
    → Type 0
Joins (Some old) None status before after (Some new) made = JoinsOf old status before after new made
Joins None None status before after new made =
    (status ≡ empty_handle) × (after ≡ before) × (new ≡ None) × (made ≡ None)
Joins first (Some next) status before after new made =
    (status ≡ full) × (after ≡ before) × (new ≡ first) × (made ≡ Some next)
Joins (Some old) None status before after None made = ⊥

-- Why the member's caller made no other caller.
-- - `Limit`: the map has given out all its numbers.
-- - `NoMemory`: memory was refused.
abbrev pub IsNotMade : Member → Member → Refusal → Type 0
IsNotMade old new Limit = numbers_seen new.caller ≡ most (keeps old.caller)
IsNotMade old new refusal = refusal ≡ NoMemory

-- Either the caller of the old member has made another caller, which has its own member, in which no
-- caller waits, and the word is its number, or none was made.
abbrev pub IsMade : Member → ℕ → ℕ → ℕ → Member → Option Member → Type 0
IsMade old status before after new (Some made) =
    IsAnother old.caller new.caller made.caller × (made.counts ≡ none_ended)
    × IsJoined old.group made.group × (status ≡ done) × (after ≡ number made.caller)
IsMade old status before after new None =
    (after ≡ before) × (why : Refusal) × IsNotMade old new why × (status ≡ refused why)

-- The first handle's caller makes another (`IsMade`), and is the same afterwards. The other caller
-- gets the second handle, which must be empty.
abbrev pub MakesAnother : Option Member → Option Member → ℕ → ℕ → ℕ → Option Member
    → Option Member → Type 0
MakesAnother (Some old) None status before after (Some new) made =
    IsMaker old.caller new.caller × (new.counts ≡ old.counts) × (new.group ≡ old.group)
    × IsMade old status before after new made
MakesAnother None None status before after new made =
    (status ≡ empty_handle) × (after ≡ before) × (new ≡ None) × (made ≡ None)
MakesAnother first (Some next) status before after new made =
    (status ≡ full) × (after ≡ before) × (new ≡ first) × (made ≡ Some next)
MakesAnother (Some old) None status before after None made = ⊥

-- The handle no longer has a member. If the member's caller was in a transaction, this was
-- aborted.
abbrev pub LeavesMap : Option Member → ℕ → Option Member → Type 0
LeavesMap (Some old) status new = (status ≡ done) × (new ≡ None)
    × (answer : Result Unit Stop) × (left : Caller) × Aborts old.caller answer left
LeavesMap None status new = (status ≡ empty_handle) × (new ≡ None)
