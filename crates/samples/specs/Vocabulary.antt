-- Names of lower crates that several definitions and proofs use. Declares nothing.
pub use Rattle.boost_core.specs.State.{State}
pub use Rattle.txn_words.specs.declared.stop.Stop.{Stop}
pub use Rattle.txn_words.specs.declared.stop.Stop.TheVariants.{Busy}
pub use Rattle.owned_map.specs.Effects.{IsStopped}
pub use Rattle.owned_map.specs.Within.{OnlyWorked}
pub use Rattle.std.specs.List.{fold}
pub use Rattle.std.specs.Option.{option_and_then, option_eq}
pub use Rattle.striped_map.specs.Attempts.{FailsBusy, FailsOrNot}
pub use Rattle.striped_map.specs.Callers.{IsRun, IsSince, IsStep, has_made, number, seen, stripes_in}
pub use Rattle.striped_map.specs.Hosts.{have_made, numbers, seen_by, taken}
pub use Rattle.striped_map.specs.Seats.{stripes_of}
pub use Rattle.striped_map.specs.declared.caller.Caller.{Caller}
pub use Rattle.striped_map.specs.declared.host.Host.{Host}
pub use Rattle.txn_trace.specs.Alone.{AloneRun, act, alone, map_after}
pub use Rattle.txn_trace.specs.History.{of}
pub use Rattle.txn_trace.specs.Legal.{IsLegal}
pub use Rattle.txn_trace.specs.Now.{now}
pub use Rattle.txn_trace.specs.Serial.{serial}
pub use Rattle.txn_words.specs.Kinds.{caller_of, is_commit}
pub use Rattle.txn_words.specs.Map.{Map, get, insert}
pub use Rattle.txn_words.specs.Shape.{how_many, own}
pub use Rattle.txn_words.specs.declared.entry.Entry.{Entry}
pub use Rattle.txn_words.specs.declared.entry.Entry.TheVariants.{Asked, Began, Committed, Did}
pub use Rattle.txn_words.specs.declared.holder.Holder.TheVariants.{Begun}
pub use Rattle.txn_words.specs.declared.op.Op.{Op}
pub use Rattle.txn_words.specs.declared.op.Op.TheVariants.{Get, Put}
