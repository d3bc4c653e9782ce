-- The names of lower crates and of specs that the proofs cite, in one place. Declares nothing.
pub use Rattle.script_worker.specs.Accounts.{AreAccounts, AreAllTrue, AreBusy, AreTrue, every, HasCome, is_busy, IsAccount, IsPlayedBy}
pub use Rattle.script_worker.specs.Accounts.{Outcome, replies_in, reply_in, Told, tolds_of}
pub use Rattle.script_worker.specs.Attempts.{attempt_at, busy_at, call_at, call_of, done_at, done_with, first_attempt, progress_at}
pub use Rattle.script_worker.specs.Attempts.{progress_of, progress_refused, refused_in, refused_with}
pub use Rattle.script_worker.specs.Chunks.{first_heard, Heard, heard_at, heard_then, IsAtStage, IsChunk, IsFront, outcome_by, replies_then}
pub use Rattle.script_worker.specs.Chunks.{txn_then}
pub use Rattle.script_worker.specs.Keeps.{KeepsScripts, KeepsAt, KeepsTask}
pub use Rattle.script_worker.specs.Workers.{drive_told, finish_by, followed, IsReady, IsReadyTask, IsTurnBy, new_worker, progressed}
pub use Rattle.script_worker.specs.Workers.{settled, settled_in, sized_by, Standing, started, step_by, TakesTurnBy, TakesNext, TakesStep}
pub use Rattle.script_worker.specs.Workers.{task_step, task_told, told_by, told_drive, turn_by, with_drive, Working}
pub use Rattle.script_worker.specs.declared.attempt.Progress.TheVariants.{Next, Over}
pub use Rattle.script_worker.specs.declared.attempt.Stage.TheVariants.{Acting, Beginning, Leaving}
pub use Rattle.script_worker.specs.declared.{attempt.Attempt.Attempt, attempt.Finish.Finish, attempt.Progress.Progress, attempt.Stage.Stage}
pub use Rattle.script_worker.specs.declared.{task.Task.Task, worker.Worker.Worker}
pub use Rattle.std.proofs.lemmas.Bool.{cases_Bool, cases_eq, cases_lt, false≢true, or_right}
pub use Rattle.std.proofs.lemmas.Iterator.Consumers.{YieldsList-end, YieldsList-turn}
pub use Rattle.std.proofs.lemmas.List.{drop_all, get_or-map, length-map, length-reverse, length_push, map-append, nil_from_length}
pub use Rattle.std.proofs.lemmas.List.{reverse-append, reverse-reverse, same_from_push}
pub use Rattle.std.proofs.lemmas.List.Elements.{All-cons, All-nil, filter-append, filter_map-append}
pub use Rattle.std.proofs.lemmas.List.FromFn.{get_or-map-range_with_len, length-map-range_with_len}
pub use Rattle.std.proofs.lemmas.Option.{get_or_from_slice_get, slice_get-get_or, slice_get-map, slice_get_past, slice_get_read}
pub use Rattle.std.proofs.lemmas.Option.{slice_get_within}
pub use Rattle.std.proofs.{Math.Bool.and-false, Math.Bool.and-true, Math.ListN.get_or-append, Math.Nat.add-mul-mod_self_right}
pub use Rattle.std.proofs.{Math.Nat.mod-add-div', Math.Seq.get_or-append_seam, lemmas.Iterator.Adapters.YieldsList-from_vec}
pub use Rattle.std.proofs.{lemmas.List.Recursion.is_count_by, lemmas.List.Sums.count_by_more_no, lemmas.List.Sums.fold-append}
pub use Rattle.std.specs.{List.AllByRecursion, List.cons_option, List.list_any, List.range_with_len, Option.option_or}
pub use Rattle.txn_drive.proofs.DriveLaws.{entries_callers, goes_on, made-new, made-sized, made_at_end, own_all, own_none}
pub use Rattle.txn_drive.proofs.{MadeLemmas.made-told_of, Quiet.append_quiet, Quiet.going_quiet, Quiet.made_quiet, TurnLemmas.turn_maps}
pub use Rattle.txn_drive.specs.Drives.{end_of, ended_by, first_step, new_drive, sized_of, step_in, step_of, told_of, turn_in}
pub use Rattle.txn_drive.specs.Made.{CommitNothing, IsMade, IsQuiet, MakesNone, made, undone_by}
pub use Rattle.txn_drive.specs.Turns.{HasTaken, TakesTurn}
pub use Rattle.txn_drive.specs.declared.phase.Phase.TheVariants.{Doubling, Fresh, Refused}
pub use Rattle.txn_drive.specs.declared.turn.Turn.TheVariants.{Ended}
pub use Rattle.txn_drive.specs.declared.{call.Call.Call, drive.Drive.Drive, phase.Phase.Phase, turn.Turn.Turn, «end».End.End}
pub use Rattle.txn_trace.proofs.{Callers.ByRecursion-append, Callers.Callers, Callers.in_or_out, Callers.shaped_number}
pub use Rattle.txn_trace.proofs.{Committing.has_committed, Counts.length-commits, Inductions.by_entries, Pushes.ends_in-push}
pub use Rattle.txn_trace.proofs.{Pushes.of-push_in, Pushes.of-push_out, Pushes.own-push_in, Pushes.own-push_out, Pushes.stance_after-push}
pub use Rattle.txn_trace.proofs.{Pushes.txn_at, Pushes.txn_in, Pushes.txn_in-push, Running.has_stance, Steps.commits_are, Steps.txns_of-push}
pub use Rattle.txn_trace.specs.History.{commits, ends_in, of, txn_after, txns_of}
pub use Rattle.txn_trace.specs.Plays.{ArePlayed, commits_of, is_commit_of, is_undone, IsPlayed, PlayRising, PlayScripts, without_undone}
pub use Rattle.txn_trace.specs.{Legal.IsLegal, Replies.RepliesHold}
pub use Rattle.txn_words.specs.Kinds.{caller_of, is_began, is_commit}
pub use Rattle.txn_words.specs.Shape.{closed_stance, how_many, is_numbered, is_shaped, IsShaped, own, row, Stance, stance_after}
pub use Rattle.txn_words.specs.{Entries.entries_of, Map.key_of, Stances.refusal_in, Sizes.is_bad_key, Sizes.Sizes}
pub use Rattle.txn_words.specs.declared.entry.Entry.TheVariants.{Aborted, Asked, Began, Busy, Committed, Did, Leave, Returned, Saved}
pub use Rattle.txn_words.specs.declared.entry.Entry.TheVariants.{Undone}
pub use Rattle.txn_words.specs.declared.refusal.Refusal.TheVariants.{BadKey, NoMemory, NoSuchLevel, OutOfStep, StaleWord, StampsUsedUp}
pub use Rattle.txn_words.specs.declared.stance.Phase.TheVariants.{Closed, LeavingTo, LeavingToEnd, Opened, Waiting}
pub use Rattle.txn_words.specs.declared.{action.Action.Action, answer.Answer.Answer, entry.Entry.Entry, holder.Holder.Holder}
pub use Rattle.txn_words.specs.declared.{holder.Holder.TheVariants.Begun, refusal.Refusal.Refusal, step.Step.Step}
