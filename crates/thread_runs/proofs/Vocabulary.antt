-- The names of lower crates and of specs that the proofs cite, in one place. Declares nothing.
pub use Rattle.locked_map.specs.Ready.{refused_at, refused_at as refused_token, refusal_of_help}
pub use Rattle.locked_map.specs.{Holds.is_out, Suits.may_refuse, Tokens.IsSameCaller, Tokens.new_ticket, Tokens.Token, Calls.Ended}
pub use Rattle.locked_map.specs.{Calls.Failed, Calls.Ran, Closes.IsOwn}
pub use Rattle.script_worker.proofs.Accounts.{account_more, no_account, tolds_of-none, tolds_of-push, true_plays}
pub use Rattle.script_worker.proofs.Every.{every-fewer, every-hit, every-length, every-map, every-miss, get-every, get_empty, get_none}
pub use Rattle.script_worker.proofs.Every.{get_within, number_at, one_remainder}
pub use Rattle.script_worker.proofs.{Chunks.after_call, Chunks.chunk_begun, Chunks.goes_quiet, Reading.stance_front, Telling.accounts_true}
pub use Rattle.script_worker.specs.declared.attempt.Progress.TheVariants.{Next, Over}
pub use Rattle.script_worker.specs.declared.attempt.Stage.TheVariants.{Acting, Beginning, Leaving}
pub use Rattle.script_worker.specs.declared.{attempt.Finish.Finish, attempt.Progress.Progress, attempt.Stage.Stage}
pub use Rattle.thread_runs.specs.Runs.{Each, Adds, AreToldIn, IsAfterHelp, HasEnded, HasPhase, HasReported, HasRoomAt, HasRoomFor}
pub use Rattle.thread_runs.specs.Runs.{HasRunAll, HasRunScripts, HasRunTo, heard_of, IsIn, MayAllCome, phase_at, outcome_told}
pub use Rattle.thread_runs.specs.Possible.{has_bad_key, is_abort, is_back, is_op, MayBeRefused, MayCome}
pub use Rattle.thread_runs.specs.declared.worker.WorkerReport.{WorkerReport}
pub use Rattle.txn_words.specs.declared.stance.Phase.{Phase}
