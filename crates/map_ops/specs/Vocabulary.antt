-- Names of lower crates that several definitions and proofs use. Declares nothing.
pub use Rattle.bucket_table.specs.Directory.{Directory, IsNearest, helper_of, limit_of}
pub use Rattle.bucket_table.specs.Dummies.{IsKeyed}
unfoldable pub use Rattle.bucket_table.specs.Dummies.{has_dummy}
pub use Rattle.bucket_table.specs.Helpers.{cursor_fits}
pub use Rattle.bucket_table.specs.Home.{IsHome}
pub use Rattle.bucket_table.specs.declared.answer.InitLink.{InitLink}
pub use Rattle.bucket_table.specs.declared.answer.InitLink.TheVariants.{Again, Linked, Present}
pub use Rattle.bucket_table.specs.declared.answer.InitRefusal.{InitRefusal}
pub use Rattle.bucket_table.specs.declared.answer.InitRefusal.TheVariants.{HelperOutOfOrder, NoMemory, NoSuchBucket, NoSuchHelper}
pub use Rattle.bucket_table.specs.declared.answer.InitRefusal.TheVariants.{ParentMissing, StampsUsedUp}
pub use Rattle.bucket_table.specs.declared.answer.InitSeek.{InitSeek}
pub use Rattle.bucket_table.specs.declared.helper.Helper.{Helper}
pub use Rattle.bucket_table.specs.declared.helper.Helper.TheVariants.{Holding, Idle, Seeking}
pub use Rattle.list_steps.specs.Content.{Replaces, pair_if}
unfoldable pub use Rattle.list_steps.specs.Content.{pairs}
pub use Rattle.list_steps.specs.Found.{IsPlaced, at_of, fits, pred_of}
pub use Rattle.list_steps.specs.Seek.{sought}
pub use Rattle.list_steps.specs.declared.cursor.Cursor.{Cursor}
pub use Rattle.list_steps.specs.declared.sweeps.SweepOutcome.{SweepOutcome}
pub use Rattle.node_list.specs.Nodes.{IsLinked, Listing, NodeAt, SpareAt, first_dummy, linked_after, marked_at, out_at, written_at}
unfoldable pub use Rattle.node_list.specs.Nodes.{node_of}
pub use Rattle.node_list.specs.Order.{IsVacant}
unfoldable pub use Rattle.node_list.specs.Order.{IsRising}
pub use Rattle.node_list.specs.Sound.{IsSound}
pub use Rattle.node_list.specs.declared.node.Kind.{Kind}
pub use Rattle.node_list.specs.declared.node.Kind.TheVariants.{Dummy, Regular}
pub use Rattle.split_key.specs.Sort.{dummy_at, regular_at}
pub use Rattle.split_key.specs.declared.sort.SortKey.{SortKey}
pub use Rattle.std.specs.List.{AllByRecursion, fold, range_with_len, slice_get}
pub use Rattle.std.specs.Option.{option_eq}
pub use Rattle.txn_words.specs.Map.{Map, after, empty, get, insert, key_of, remove, set_at}
pub use Rattle.txn_words.specs.Ordered.{ordered}
pub use Rattle.txn_words.specs.declared.op.Op.{Op}
pub use Rattle.txn_words.specs.declared.op.Op.TheVariants.{Get, Put, PutIf, Take}
pub use Rattle.txn_words.specs.declared.refusal.Refusal.{Refusal}
