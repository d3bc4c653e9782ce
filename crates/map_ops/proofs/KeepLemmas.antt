-- What holds of a table because it holds of its list, and only the list changes.
use Rattle.std.proofs.Common.{◌≡◌, ℕ, List, Option, true, map, refl, ◌∙◌, ap, arith}
use Rattle.map_ops.specs.Vocabulary.{Cursor, Directory, IsSound, Listing, NodeAt, Op, SortKey, fits, has_dummy, limit_of, pairs}
use Rattle.map_ops.specs.Vocabulary.{range_with_len, regular_at, sought}
use Rattle.node_list.specs.Follow as nodes
use Rattle.node_list.proofs.FollowLemmas as nodes_again
use Rattle.list_steps.specs.Found.{IsFound}
use Rattle.list_steps.specs.Found as cursors
use Rattle.list_steps.specs.Seek.{KeepsRest}
use Rattle.list_steps.proofs.CursorLemmas.{still_placed}
use Rattle.bucket_table.proofs.DummyLemmas.{has_dummy-sought}
use Rattle.map_ops.specs.declared.job.MapJob.{MapJob}
use Rattle.map_ops.specs.Jobs.{PendingAt}
use Rattle.map_ops.specs.Lists as lists
use Rattle.map_ops.specs.Nodes.{WritesNothing}
use Rattle.map_ops.specs.TableAt.{TableAt, SpareAt, table_of, Follows, IsPlaced, KeepsBuckets, KeepsNodes}
use Rattle.map_ops.specs.Changes.{Does, GivesBack, Places, Prepares, TakesBack}
use Rattle.map_ops.proofs.BelongLemmas.{linked_same}

-- If only the list changes, `KeepsBuckets` holds.
pub same_buckets : (old new : Listing) (d : Directory) → KeepsBuckets (table_of old d) (table_of new d)
same_buckets old new d = record { all = refl; size = refl; largest = refl; stored = refl; helps = refl }

-- If the list keeps its nodes and its change number, the table keeps its nodes (`KeepsNodes`).
pub same_nodes : (old new : Listing) (d : Directory) → WritesNothing old new → KeepsNodes (table_of old d) (table_of new d)
same_nodes old new d same = record {
  all = same.nodes;
  regular = ap pairs same.nodes;
  buckets = same_buckets old new d;
  linked = ap (λ (nodes : List NodeAt). map (has_dummy nodes) (range_with_len 0 (limit_of d))) same.nodes;
  changes = same.changes;
}

-- If a cursor was placed on the list at the key's position, it was placed on the table for the key.
pub placed_on : (l : Listing) (d : Directory) (cursor : Cursor) (key : ℕ) → cursors.IsPlaced l cursor → cursors.at_of cursor ≡ regular_at key → IsPlaced (table_of l d) cursor key
placed_on l d cursor key placed is = record { list = placed; at_is = is; held = placed.held }

-- If the new list follows the old one, a table with the new list follows a table with the old one.
pub follows : (old new : Listing) (d e : Directory) → nodes.Follows old new → Follows (table_of old d) (table_of new e)
follows old new d e later = record {
  list = later;
  last = later.last;
  placed = λ cursor key is. placed_on new e cursor key (still_placed old new cursor is.list later) is.at_is;
}

pub follows_twice : (one two three : TableAt) → Follows one two → Follows two three → Follows one three
follows_twice one two three first second = record {
  list = nodes_again.follows_twice one.list two.list three.list first.list second.list;
  last = let low = first.last in let high = second.last in omega arith;
  placed = λ cursor key is. second.placed cursor key (first.placed cursor key is);
}

-- If the seek of a key has found a cursor that fits, `Places` holds.
pub places : (old new : Listing) (buckets : Directory) (key from : ℕ) (bound : SortKey) (c : Cursor) → IsSound old → new.nodes ≡ sought old.nodes from bound → KeepsRest old new → pairs new.nodes ≡ pairs old.nodes
    → IsFound new c → cursors.IsPlaced new c → fits new c ≡ true → cursors.at_of c ≡ regular_at key → Places (table_of old buckets) (table_of new buckets) key c
places old new buckets key from bound c sound nodes_is kept same found placed fitting place = record {
  keeps = record { regular = same; dummies = dummies; buckets = same_buckets old new buckets; linked = linked_same old new buckets dummies; last = kept.last };
  spares = kept.out;
  placed = placed_on new buckets c key placed place;
  fits = fitting;
  changes = found.changes;
}
  where
    dummies : lists.KeepsDummies old new
    dummies b = ap (λ (nodes : List NodeAt). has_dummy nodes b) nodes_is ∙ has_dummy-sought old.nodes from bound b sound.plain

-- What holds of a list holds of a table with this list, if its buckets are unchanged.
module _ (old new : Listing) (buckets : Directory) where
  pub does : (pending : PendingAt) (reply : Option ℕ) (job : Option MapJob) → lists.Does old new pending reply job → Does (table_of old buckets) (table_of new buckets) pending reply job
  does pending reply job is = record { on_list = is; buckets = same_buckets old new buckets; linked = linked_same old new buckets is.dummies }

  pub takes_back : (job : MapJob) → lists.TakesBack old new job → TakesBack (table_of old buckets) (table_of new buckets) job
  takes_back job is = record { on_list = is; buckets = same_buckets old new buckets; linked = linked_same old new buckets is.dummies }

  pub gives_back : (spare : Option SpareAt) → lists.GivesBack old new spare → GivesBack (table_of old buckets) (table_of new buckets) spare
  gives_back spare is = record { on_list = is; nodes = same_nodes old new buckets is.writes }

  pub prepares : (op : Op) (pending : PendingAt) → lists.Prepares old new op pending → Prepares (table_of old buckets) (table_of new buckets) op pending
  prepares op pending is = record { on_list = is; nodes = same_nodes old new buckets is.writes }
