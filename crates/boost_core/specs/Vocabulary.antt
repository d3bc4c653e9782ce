-- The names of lower crates that several specs cite, in one place. This file declares nothing.
pub use Rattle.key_locks.specs.Locks.{Grants, Refuses, Releases}
pub use Rattle.map_ops.specs.Buckets.{Doubles, LacksSegment, LinkChanges, SeekChanges, StoreChanges, double_answer, helper_fits, link_answer_of, parent_of, seek_answer, store_answer}
pub use Rattle.map_ops.specs.Changes.{Does, GivesBack, IsRefused, OwnsIf, Places, Prepares, SeeksNear, Sweeps, TakesBack}
pub use Rattle.map_ops.specs.Jobs.{IsDue, PendingAt, key_of_job, spare_of_job, value_before}
pub use Rattle.map_ops.specs.TableAt.{Cursor, Help, IsClean, IsPlaced, KeepsList, KeepsNodes, KeepsSpares, KeepsTable, NodeAt, SpareAt, SweepOutcome, TableAt, content, cursor_changes, cursors_of, fits, helps_of, largest_of, last_of, linked_of, nodes_of, regular, size_of, spare_out, stored_of, table_changes}
pub use Rattle.map_ops.specs.declared.job.MapJob.{MapJob}
pub use Rattle.node_list.specs.Nodes.{changes_after, node_of, one_more}
pub use Rattle.node_list.specs.Sound.{IsSound}
pub use Rattle.split_key.specs.Sort.{IsBefore, IsNotBefore, dummy_at, regular_at}
pub use Rattle.split_key.specs.Split.{IsAncestor, ancestor_of}
pub use Rattle.std.specs.List.{All, AllByRecursion, slice_get}
pub use Rattle.std.specs.Option.{option_eq, option_map}
pub use Rattle.txn_trace.specs.Locks.{has_begun, holder_of, is_locked, stripe_of}
pub use Rattle.txn_trace.specs.Log.{log_of}
pub use Rattle.txn_trace.specs.Now.{now}
pub use Rattle.txn_words.specs.Kinds.{caller_of, is_began, is_commit}
pub use Rattle.txn_words.specs.Map.{Map, count_of, get, key_of, reply_of, set_at}
pub use Rattle.txn_words.specs.Owed.{may_change, owed_in, reserved}
pub use Rattle.txn_words.specs.Stances.{has_job, has_target, is_leaving, is_saved, refusal_in}
pub use Rattle.txn_words.specs.Shape.{RoomyStance, Stance, closed_stance, how_many, own, row, stance_after}
pub use Rattle.txn_words.specs.Sizes.{Sizes}
pub use Rattle.txn_words.specs.declared.answer.Answer.{Answer}
pub use Rattle.txn_words.specs.declared.entry.Entry.{Entry}
pub use Rattle.txn_words.specs.declared.holder.Holder.TheVariants.{Begun, Now}
pub use Rattle.txn_words.specs.declared.op.Op.{Op}
pub use Rattle.txn_words.specs.declared.refusal.Refusal.{Refusal}
pub use Rattle.txn_words.specs.declared.refusal.Refusal.TheVariants.{BadKey, HelperOutOfOrder, NoMemory, NoSuchBucket, NoSuchCaller, NoSuchHelper, ParentMissing, StaleWord, StampsUsedUp, Unplaced}
pub use Rattle.txn_words.specs.declared.stance.Phase.{Phase}
pub use Rattle.txn_words.specs.declared.stance.Phase.TheVariants.{LeavingTo, LeavingToEnd, Waiting}
pub use Rattle.txn_words.specs.declared.step.Step.{Step}
pub use Rattle.txn_words.specs.declared.step.Step.TheVariants.{Abort, Act, Ask, Back, Begin, Commit, Double, InitLink, InitSeek, InitStore, Save, Seek, Sweep}
