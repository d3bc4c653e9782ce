-- The names of lower crates and of specs that several proofs cite, in one place. Declares nothing.
pub use Rattle.boost_core.specs.Answers.{IsReply, is_at_end, is_back_at, is_just_placed, may_be_stale, may_stand, owner_changes}
pub use Rattle.boost_core.specs.Core.{LastPlacedFits, HasStance, Tells, World, all_times, gap_at, gap_by, gap_if, gap_of, helper_gaps_of, node_at, nodes_at, session_changes, state_of, world_of}
pub use Rattle.boost_core.specs.Counts.{counts_after}
pub use Rattle.boost_core.specs.Helps.{HelpSuits, IsOnWay}
pub use Rattle.boost_core.specs.Machine.{Cursors, Happens, Fits, IsAllowed, IsAnswer, KeepsGaps, Lists, Move, Moves, Touches, mover_of, placed_then, stamp_after}
pub use Rattle.boost_core.specs.Nodes.{AreNeighbours, BackDoes, Changes, IsBetween, IsClean, IsNearest, Links, Marks, OpDoes, OpDoesIn, PutsIf, SeeksFrom, SeeksKey, StandsAt, StartsAt, StopsAt, Writes, is_unmarked, next_key_in, newest_key, next_key}
unfoldable pub use Rattle.boost_core.specs.Nodes.{IsInOrder}
pub use Rattle.boost_core.specs.Plain.{Aborts, Drives, Helps, Operates, Returns, outcome_of, undoing, undone}
pub use Rattle.boost_core.specs.Refusals.{MayLack, first_of, has_cursor, holds_dummy, has_job, has_stamp, has_stamp_for, has_target, is_closed, is_leaving, is_waiting, lacks_cursor, lacks_dummy, lacks_in, owner_of, refusal_in, refusal_of, tests_in, tests_of}
pub use Rattle.boost_core.specs.Serves.{Linking, Serves, Storing, Sweeping, doubled}
pub use Rattle.boost_core.specs.Sessions.{ActsIn, Agrees, AreDue, AsksBy, AsksIn, CanAct, CanArrive, CanSettle, CanUndo, HasEffect, DoesIn, Drops, EndsIn, GoesWith, IsAsked, IsIdle, IsSought, IsSoughtAt, KeepsPlaced, MeetsIn, Rests, ReturnsIn, Saves, SavesIn, SeeksIn, SettlesIn, Side, MayTakeStep, Reach, reach, TakesBackIn, Waits, WithdrawsIn, change_of, changes_of, key_of_newest, level_of, owed_of, side_of, spare_if, target_in, target_of, times_kept, unless_busy}
pub use Rattle.boost_core.specs.Spares.{IsCovered, IsCoveredWith, StaysCovered, times_in, times_of, times_out}
pub use Rattle.boost_core.specs.State.{Caller, Dummy, Gap, Help, Helper, Node, Nothing, Owner, SortKey, Sought, State, bucket_at, caller_changes, gap_for, gap_in, help_in, helper_changes, holder_by, is_set, marked_node, plain_node, stance_in, start, with_bucket}
pub use Rattle.boost_core.specs.Steps.{CallerStep, HelperStep, claim_in, step_by, step_from}
pub use Rattle.boost_core.specs.Whole.{IsWhole}
pub use Rattle.boost_core.specs.Words.{Claim, Goes, Held, IsClaim, ListsAsk, ListsBy, Lock, Right, Stale, is_ask, is_taken, may_come, reserved_by, stamp_by}
pub use Rattle.boost_core.specs.declared.counts.Counts.{Counts}
pub use Rattle.boost_core.specs.declared.session.Session.{Session}
pub use Rattle.bucket_table.specs.Changes.{HoldsDummy, LinksDummy, Seeks, Stores}
pub use Rattle.bucket_table.specs.Directory.{Directory, helper_of, limit_of, with_helper}
pub use Rattle.bucket_table.specs.Dummies.{IsDummyAt, dummy_node}
pub use Rattle.bucket_table.specs.Helpers.{cursor_fits}
pub use Rattle.bucket_table.specs.declared.answer.InitRefusal.{InitRefusal}
pub use Rattle.bucket_table.specs.declared.helper.Helper.{Helper as TableHelper}
pub use Rattle.bucket_table.specs.declared.helper.Helper.TheVariants.{Holding, Idle, Seeking}
pub use Rattle.key_locks.specs.Locks.{Releases, holder_of as held_by, without_caller}
pub use Rattle.list_steps.proofs.CursorLemmas.{found_fits, found_placed}
pub use Rattle.list_steps.specs.Found.{IsPlaced as IsPlacedIn, at_of, behind, is_next_noted, is_noted, pred_of}
unfoldable pub use Rattle.list_steps.specs.Found.{fits as list_fits}
unfoldable pub use Rattle.list_steps.specs.Seek.{cleaned, sought}
unfoldable pub use Rattle.list_steps.specs.Steps.{without_first_marked}
pub use Rattle.list_steps.specs.declared.cursor.Noted.{Noted}
pub use Rattle.map_ops.specs.Buckets.{Doubles, LacksSegment, LinkChanges, SeekChanges, StoreChanges, answer_for, helper_fits, is_stored, link_answer, link_answer_of, seek_answer, store_answer}
pub use Rattle.map_ops.specs.Changes.{GivesBack, GivesFor, GivesSpare, IsRefused, OwnsIf, Prepares, SeeksNear, Spends, SpendsFor, Sweeps}
pub use Rattle.map_ops.specs.Double.{Double}
pub use Rattle.map_ops.specs.InitLink.{InitLink}
pub use Rattle.map_ops.specs.InitSeek.{InitSeek}
pub use Rattle.map_ops.specs.Jobs.{IsDue, PendingAt, job_of, key_of_job, relink, spare_of_job, unput, value_before}
pub use Rattle.map_ops.specs.Nodes.{JobWrites, LinksNode, MarksNode, OpWrites, PutIfWrites, PutWrites, TakeWrites, WritesNode, WritesNothing, node_for}
pub use Rattle.map_ops.specs.SweepOutcome.{SweepOutcome}
pub use Rattle.map_ops.specs.TableAt.{Cursor, Follows, HasParents, IsNew, IsPlaced, KeepsTable, KeepsBuckets, KeepsList, KeepsNodes, KeepsSpares, NamesDummies, SpareAt, TableAt, content, cursor_changes, cursor_in, cursors_of, help_of, helper_cursor, helps_of, largest_of, last_of, linked_of, map_of, nodes_of, regular, size_of, spare_out, stored_of, table_changes, fits}
pub use Rattle.map_ops.specs.declared.job.MapJob.{MapJob}
pub use Rattle.map_ops.specs.declared.job.MapJob.TheVariants.{Relink, Restore, Unput}
pub use Rattle.node_list.specs.Nodes.{Listing, NodeAt, changes_after, first, first_dummy, out_at, written_at}
unfoldable pub use Rattle.node_list.specs.Nodes.{IsLinked, changed_at, linked_after, next_of, node_of}
pub use Rattle.node_list.specs.Order.{AbsentFrom, IsNodeBefore}
unfoldable pub use Rattle.node_list.specs.Order.{IsRising, IsSpread}
pub use Rattle.node_list.specs.Sound.{IsSound}
pub use Rattle.split_key.specs.Sort.{IsBefore, IsNotBefore, dummy_at, regular_at}
unfoldable pub use Rattle.split_key.specs.Sort.{is_before}
pub use Rattle.split_key.specs.Split.{IsAncestor, ancestor_of}
unfoldable pub use Rattle.split_key.specs.Split.{highest_cleared, parent_of}
pub use Rattle.std.proofs.Math.Bool.{and-false, or-false, or-true}
pub use Rattle.std.proofs.lemmas.Bool.{and_from, and_parts, and_right, cases_Bool, cases_eq, cases_lt, eqb-false, false≢true, lt-leb, not-false, not-true, or_cases, or_left, or_right}
pub use Rattle.std.proofs.lemmas.List.{get_or-replicate, get_or_past, get_or_push, length-map, length-replicate, length-reverse, length_push, map-set, reverse-append, take_more}
pub use Rattle.std.proofs.lemmas.List.Elements.{All-head, All-nil, All-push, All-tail}
pub use Rattle.std.proofs.lemmas.List.Sums.{count_by-le-length, get_or-le-sum_by, length-filter, sum_by-cons, sum_by-set, sum_by_push}
pub use Rattle.std.proofs.lemmas.Nat.{mod_below, ones_le_self, zero_from_ones}
pub use Rattle.std.proofs.lemmas.Option.{get_or_from_slice_get, slice_get-get_or, slice_get-map, slice_get_past, slice_get_within, unwrap_or-slice_get}
pub use Rattle.std.specs.Int.{is_power_of_two}
pub use Rattle.std.specs.List.{AllByRecursion, range_with_len}
pub use Rattle.std.specs.Option.{option_eq}
pub use Rattle.txn_drive.proofs.WayLemmas.{IsAncestor-child_towards, IsAncestor-root, child_towards-le, parent_of-child_towards, parent_of-zero}
pub use Rattle.txn_drive.specs.Drives.{end_of, ended_by, first_phase, heading, new_drive, refused_help, sized_in, sized_of, step_in, step_of, told_help, told_in, told_init_seek, told_link, told_of, told_store, towards, turn_in}
unfoldable pub use Rattle.txn_drive.specs.Ways.{child_towards, child_within}
pub use Rattle.txn_drive.specs.declared.drive.Drive.{Drive}
pub use Rattle.txn_drive.specs.declared.way.Way.{Way}
pub use Rattle.txn_trace.proofs.HeldStripes.{held_apart, log_held, waiting_held}
pub use Rattle.txn_trace.proofs.Holders.{is_locked-asked, is_locked-busy}
pub use Rattle.txn_trace.proofs.Naming.{has_begun-other, has_begun-own, legal_begun}
pub use Rattle.txn_trace.proofs.EntrySteps.{Next, stance-own}
pub use Rattle.txn_trace.proofs.Now.{same_is, same_option}
pub use Rattle.txn_trace.proofs.Pushes.{how_many-push, own-push_in, stance_after-push}
pub use Rattle.txn_trace.specs.Legal.{IsLegal, is_running, runs}
pub use Rattle.txn_trace.specs.Locks.{has_begun, holder_of, is_locked, stripe_of}
pub use Rattle.txn_trace.specs.Log.{log_of}
pub use Rattle.txn_trace.specs.Now.{now}
pub use Rattle.txn_trace.specs.Serial.{serial}
pub use Rattle.txn_words.proofs.Effects.{after_unchanged, changes-reply, get-after_other}
pub use Rattle.txn_words.proofs.Levels.{IsLevelIn, stance_leveled, standing_owed}
pub use Rattle.txn_words.proofs.Maps.{get-insert-here, get-remove-here, get-set_at, same_map}
pub use Rattle.txn_words.specs.Entries.{entries_of}
pub use Rattle.txn_words.specs.Kinds.{caller_of, is_began, is_commit}
pub use Rattle.txn_words.specs.Map.{Map, after, count_of, get, key_of, reply_of, set_at}
pub use Rattle.txn_words.specs.Owed.{may_change, owed, owed_by, owed_in, reserved}
pub use Rattle.txn_words.specs.Stances.{is_saved}
pub use Rattle.txn_words.specs.Shape.{RoomyStance, Stance, changes, closed_stance, how_many, own, row, stance_after}
pub use Rattle.txn_words.specs.Sizes.{Sizes, are_limits, is_bad_key}
pub use Rattle.txn_words.specs.declared.answer.Answer.{Answer}
pub use Rattle.txn_words.specs.declared.answer.Answer.TheVariants.{Aborted, Again, Asked, Done, Leaving, Placed, Refused, Returned, Undone}
pub use Rattle.txn_words.specs.declared.entry.Entry.{Entry}
pub use Rattle.txn_words.specs.declared.entry.Entry.TheVariants.{Began, Busy}
pub use Rattle.txn_words.specs.declared.holder.Holder.TheVariants.{Begun, Now}
pub use Rattle.txn_words.specs.declared.op.Op.{Op}
pub use Rattle.txn_words.specs.declared.op.Op.TheVariants.{Get, Put, PutIf, Take}
pub use Rattle.txn_words.specs.declared.refusal.Refusal.{Refusal}
pub use Rattle.txn_words.specs.declared.refusal.Refusal.TheVariants.{NoMemory, NoSuchCaller, StaleWord, StampsUsedUp, Unplaced, NotOpen, NothingToSeek, BadKey, HelperOutOfOrder, NoSuchBucket, NoSuchHelper, ParentMissing, OutOfStep}
pub use Rattle.txn_words.specs.declared.stance.Phase.{Phase}
pub use Rattle.txn_words.specs.declared.stance.Phase.TheVariants.{Closed, LeavingTo, LeavingToEnd, Opened, Waiting}
pub use Rattle.txn_words.specs.declared.step.Step.{Step}
pub use Rattle.txn_words.specs.declared.step.Step.TheVariants.{Abort, Act, Ask, Back, Begin, Commit, Seek, Save}
pub use Rattle.undo_log.specs.UndoLog.{LogAt, kept_at, newest_above}
