use Rattle.std.proofs.Common.{sym, ◌∙◌}
use Rattle.std.proofs.lemmas.Option.{slice_get_within}
use Rattle.bucket_table.specs.Dummies.{IsKeyedNode}
use Rattle.split_key.proofs.SortLemmas.{before_by_split}
use Rattle.bucket_table.proofs.DummyLemmas.{each_sought, has_dummy-sought}
use Rattle.bucket_table.proofs.HomeLemmas.{still_home, home_with_helper}
use Rattle.bucket_table.proofs.buckets.Buckets.init_seek.Goals as goal

pub seek-cursor-requires : goal.seek-cursor-requires
seek-cursor-requires c =
    let parent = c.requires.stored _ _ (sym c.in-Some.ensures.dummy) in
    let below = c.parent-parent.ensures.order in
    record { node = parent.node; is = parent.is; dummy = parent.kind; below = rw (parent.at, c.dummy-3.ensures.value) (before_by_split _ _ below) }

pub set_helper-requires-2-clause-there : goal.set_helper-requires-2-clause-there
set_helper-requires-2-clause-there c = slice_get_within _ _ _ c.in_ok-helper.ensures.ok

pub returns-clause-home : goal.returns-clause-home
returns-clause-home c =
    rw c.set_helper-2.ensures (home_with_helper _ _ (still_home _ _ c.seek-cursor.ensures.follows _ c.requires) _ _ (c.seek-cursor.ensures.placed, c.seek-cursor.ensures.at ∙ c.dummy-3.ensures.value))

pub returns-clause-dummies : goal.returns-clause-dummies
returns-clause-dummies c other = rw c.seek-cursor.ensures.nodes (has_dummy-sought _ _ _ other c.changes-changes.ensures.sound.plain)

pub returns-clause-keyed : goal.returns-clause-keyed
returns-clause-keyed c keyed = rw c.seek-cursor.ensures.nodes (each_sought IsKeyedNode _ _ _ keyed)
