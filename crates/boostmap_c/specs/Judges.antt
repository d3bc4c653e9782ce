-- The effect of a call on a judge, in terms of the referee that its handle owns before and after.
use Rattle.std.specs.Prelude.{◌≡◌, ℕ, zero, suc, nat_eq, [], ◌∷◌, List, length, take, slice_get, Option, Some, None, if◌then◌else◌}
use Rattle.txn_words.specs.declared.entry.Entry.{Entry}
use Rattle.txn_words.specs.declared.holder.Holder.TheVariants.{Now, Begun}
use Rattle.txn_words.specs.declared.refusal.Refusal.TheVariants.{Limit, NoMemory}
use Rattle.history_check.specs.declared.verdict.Verdict.{Verdict}
use Rattle.history_check.specs.declared.verdict.Verdict.TheVariants.{Legal, Illegal}
use Rattle.history_check.specs.Verdicts.{number_of}
use Rattle.boostmap_c.specs.declared.referee.Way.{Way}
use Rattle.boostmap_c.specs.declared.referee.Way.TheVariants.{ByLocks, ByCommits}
use Rattle.boostmap_c.specs.declared.referee.Referee.{Referee}
use Rattle.boostmap_c.specs.Referees.{IsFedBy, IsVerdictOf, IsFedOneMore, Stays}
use Rattle.boostmap_c.specs.declared.c_entry.CEntry.{CEntry}
use Rattle.boostmap_c.specs.declared.judge.CVerdict.{CVerdict}
use Rattle.boostmap_c.specs.Entries.{judged_entry}
use Rattle.boostmap_c.specs.Replies.{done, empty_handle, full, no_entry, refused}

-- The rule that a number stands for, if it stands for one. A rule by locks needs at least one
-- stripe.
abbrev pub way_for : ℕ → ℕ → Option Way
way_for stripes number =
    if nat_eq number 2 then Some ByCommits
    else (if nat_eq stripes 0 then None
    else (if nat_eq number 0 then Some (ByLocks Now)
    else (if nat_eq number 1 then Some (ByLocks Begun) else None)))

-- The verdict as C reads it.
abbrev pub verdict_of : Verdict → CVerdict
verdict_of (Legal commits running) =
    record { is_legal = 1; commits = commits; running = running; entry = 0; rule = 0 }
verdict_of (Illegal entry rule) =
    record { is_legal = 0; commits = 0; running = 0; entry = entry; rule = number_of rule }

-- The call makes a referee that has been fed no entries yet, unless memory is refused.
abbrev pub BeginsWith : Way → ℕ → ℕ → Option Referee → Type 0
BeginsWith way stripes status (Some new) = (status ≡ done) × IsFedBy way stripes [] new
BeginsWith way stripes status None = status ≡ refused NoMemory

-- The call makes a referee for this rule, unless memory is refused. If there is no rule, the call
-- is refused with `Limit`, and makes no referee.
abbrev pub BeginsFor : Option Way → ℕ → ℕ → Option Referee → Type 0
BeginsFor None stripes status new = (status ≡ refused Limit) × (new ≡ None)
BeginsFor (Some way) stripes status new = BeginsWith way stripes status new

-- A handle without a referee gets one, unless the referee is refused. A handle with a referee keeps
-- its referee.
abbrev pub BeginsJudging : Option Referee → ℕ → ℕ → ℕ → Option Referee → Type 0
BeginsJudging None stripes number status new = BeginsFor (way_for stripes number) stripes status new
BeginsJudging (Some old) stripes number status new = (status ≡ full) × (new ≡ Some old)

-- If the status is 0, the entry is fed. Otherwise memory is refused, and nothing is fed.
abbrev pub FedOrRefused : ℕ → Entry → Referee → Referee → Type 0
FedOrRefused zero entry old new = IsFedOneMore entry old new
FedOrRefused (suc status) entry old new = (suc status ≡ refused NoMemory) × Stays old new

-- If the numbers stand for an entry, the entry is fed or memory is refused. If not, nothing is fed,
-- and the status is `no_entry`.
abbrev pub FeedsEntry : Option Entry → Referee → ℕ → Referee → Type 0
FeedsEntry None old status new = (status ≡ no_entry) × (new ≡ old)
FeedsEntry (Some entry) old status new = FedOrRefused status entry old new

abbrev pub Feeds : Option Referee → CEntry → ℕ → Option Referee → Type 0
Feeds (Some old) e status (Some new) = FeedsEntry (judged_entry e) old status new
Feeds None e status None = status ≡ empty_handle
Feeds old e status new = ⊥

-- All these entries are fed, one after the other.
abbrev pub FedAll : List CEntry → Referee → Referee → Type 0
FedAll [] old new = new ≡ old
FedAll (e ∷ entries) old new =
    (between : Referee) × FeedsEntry (judged_entry e) old done between × FedAll entries between new

-- If the status is 0, all entries are fed, and `count` is their number. Otherwise only the entries
-- before place `count` are fed, and the status says why the entry at that place is not fed.
abbrev pub FedFront : List CEntry → Referee → ℕ → ℕ → Referee → Type 0
FedFront entries old zero count new = (count ≡ length entries) × FedAll entries old new
FedFront entries old (suc status) count new =
    (entry : CEntry) × (slice_get entries count ≡ Some entry)
    × (between : Referee) × FedAll (take count entries) old between
    × FeedsEntry (judged_entry entry) between (suc status) new

abbrev pub FeedsAll : Option Referee → List CEntry → ℕ → ℕ → ℕ → Option Referee → Type 0
FeedsAll (Some old) entries status before after (Some new) = FedFront entries old status after new
FeedsAll None entries status before after None = (status ≡ empty_handle) × (after ≡ before)
FeedsAll old entries status before after new = ⊥

-- C gets the referee's verdict on the entries that the referee was fed.
abbrev pub TellsVerdict : Option Referee → ℕ → CVerdict → CVerdict → Option Referee → Type 0
TellsVerdict (Some old) status before after (Some new) =
    (new ≡ old) × (status ≡ done)
    × (outcome : Verdict) × (after ≡ verdict_of outcome) × IsVerdictOf old outcome
TellsVerdict None status before after None = (status ≡ empty_handle) × (after ≡ before)
TellsVerdict old status before after new = ⊥

-- The handle no longer has a referee.
abbrev pub Frees : Option Referee → ℕ → Option Referee → Type 0
Frees (Some old) status new = (status ≡ done) × (new ≡ None)
Frees None status new = (status ≡ empty_handle) × (new ≡ None)
