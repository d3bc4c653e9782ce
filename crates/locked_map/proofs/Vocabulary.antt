-- Lemmas of lower crates that several proofs cite. Declares nothing.
pub use Rattle.boost_core.proofs.Calls.{never_refused}
pub use Rattle.boost_core.proofs.SideRefusals.{or_else, refusal_parts}
pub use Rattle.std.proofs.lemmas.Bool.{false≢true}
pub use Rattle.std.proofs.lemmas.List.{append-nil}
pub use Rattle.std.proofs.lemmas.List.Sums.{fold-append}
pub use Rattle.txn_drive.proofs.DriveLaws.{goes_on}
pub use Rattle.txn_trace.proofs.Running.{has_stance}
