pub mod Vocabulary
pub mod Jobs
pub mod Nodes
pub mod Plans
pub mod Lists
pub mod TableAt
pub mod Changes
pub mod Buckets
pub mod Sound
pub mod Laws
-- The types of the lower layers that the table re-exports.
pub use Rattle.bucket_table.specs.declared.answer.InitSeek
pub use Rattle.bucket_table.specs.declared.answer.InitLink
pub use Rattle.bucket_table.specs.declared.answer.Double
pub use Rattle.list_steps.specs.declared.cursor.Cursor
pub use Rattle.list_steps.specs.declared.sweeps.SweepOutcome
