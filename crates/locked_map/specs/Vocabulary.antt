-- Names of lower crates that several definitions and proofs use. Declares nothing.
pub use Rattle.atomic_table.specs.Seated.{TableId}
pub use Rattle.boost_core.specs.Helps.{HelpSuits}
pub use Rattle.boost_core.specs.Machine.{IsAllowed, Move}
pub use Rattle.boost_core.specs.Refusals.{lacks_in}
pub use Rattle.boost_core.specs.State.{State, caller_changes, holder_by, stance_in}
pub use Rattle.boost_core.specs.Whole.{IsWhole}
pub use Rattle.boost_core.specs.Words.{Goes, is_ask}
pub use Rattle.boost_core.specs.declared.claim.Claim.{Claim}
pub use Rattle.boost_core.specs.declared.claim.Claim.TheVariants.{Lock}
pub use Rattle.key_words.specs.Rule.{Holds}
pub use Rattle.key_words.specs.declared.rights.Rights.{Rights}
pub use Rattle.key_words.specs.declared.taken.Tried.{Tried}
pub use Rattle.key_words.specs.declared.taken.Tried.TheVariants.{Another, Mine}
pub use Rattle.txn_words.specs.declared.stop.Stop.{Stop}
pub use Rattle.std.specs.Global.{Vec}
pub use Rattle.std.specs.List.{AllByRecursion, fold, list_any, range_with_len}
pub use Rattle.std.specs.Option.{option_or}
pub use Rattle.txn_drive.specs.Drives.{counted, end_last, end_of, ended_by, first_step, new_drive, sized_in, sized_of, step_in, step_of}
pub use Rattle.txn_drive.specs.Drives.{told_first, told_in, told_of, told_seek, turn_in, turn_of, undone_more}
pub use Rattle.txn_drive.specs.Made.{CommitNothing, IsMade, IsQuiet, made, undone_in}
pub use Rattle.txn_drive.specs.declared.call.Call.{Call}
pub use Rattle.txn_drive.specs.declared.drive.Drive.{Drive}
pub use Rattle.txn_drive.specs.declared.phase.Phase.{Phase}
pub use Rattle.txn_drive.specs.declared.phase.Phase.TheVariants.{Acting, Doubling, First, Fresh, Helped, Initialising, Last, Linking, Lost}
pub use Rattle.txn_drive.specs.declared.phase.Phase.TheVariants.{Refused, Seeking, Storing}
pub use Rattle.txn_drive.specs.declared.phase.Work.{Work}
pub use Rattle.txn_drive.specs.declared.phase.Work.TheVariants.{Busy, Leaving, Operation}
pub use Rattle.txn_drive.specs.declared.turn.Turn.{Turn}
pub use Rattle.txn_drive.specs.declared.turn.Turn.TheVariants.{Ended, One, Two}
pub use Rattle.txn_drive.specs.declared.«end».End.{End}
pub use Rattle.txn_trace.specs.Legal.{IsLegal}
pub use Rattle.txn_words.specs.Entries.{entries_of}
pub use Rattle.txn_words.specs.Kinds.{caller_of}
pub use Rattle.txn_words.specs.Owed.{owed_by, owed_in, reserved}
pub use Rattle.txn_words.specs.Stances.{is_closed, refusal_in}
pub use Rattle.txn_words.specs.Shape.{IsShaped, RoomyStance, Stance, closed_stance, own, row, stance_after}
pub use Rattle.txn_words.specs.Sizes.{Sizes, are_limits, is_bad_key}
pub use Rattle.txn_words.specs.declared.answer.Answer.{Answer}
pub use Rattle.txn_words.specs.declared.entry.Entry.{Entry}
pub use Rattle.txn_words.specs.declared.op.Op.{Op}
pub use Rattle.txn_words.specs.declared.refusal.Refusal.{Refusal}
pub use Rattle.txn_words.specs.declared.refusal.Refusal.TheVariants.{BadKey, NoMemory, NothingToSeek, OutOfStep, StaleWord, StampsUsedUp}
pub use Rattle.txn_words.specs.declared.stance.Phase.{Phase as Standing}
pub use Rattle.txn_words.specs.declared.step.Step.{Step}
pub use Rattle.txn_words.specs.declared.step.Step.TheVariants.{Act, Ask, Begin}
pub use Rattle.undo_log.specs.SideValue.{Leveled}
pub use Rattle.undo_log.specs.Sides.{IsSameSide}
