use Rattle.std.proofs.Common.{refl, sym, subst}
use Rattle.map_ops.specs.Sound.{Belong}
use Rattle.map_ops.proofs.DoesLemmas.{back_turns}
use Rattle.map_ops.proofs.RemoveLemmas.{remove-absent}
use Rattle.map_ops.proofs.change.take_key.Goals as goal

pub mark_key-old-requires-clause-there : goal.mark_key-old-requires-clause-there
mark_key-old-requires-clause-there c = rw c.in-Some.is at c.requires.stands

pub returns-in-None-clause-does : goal.returns-in-None-clause-does
returns-in-None-clause-does c =
    let room = rw c.in-None.is at c.requires.stands in
    let back = c.give_back.ensures.back in
    record { reply_is = sym room.none; job_is = rw room.none refl; spares = back.spares; turns = back_turns c.args.list.now c.give_back.new.list _ _ (sym (remove-absent _ c.args.key room.none)) back }

pub returns-in-None-clause-writes : goal.returns-in-None-clause-writes
returns-in-None-clause-writes c =
    let room = rw c.in-None.is at c.requires.stands in
    rw room.none c.give_back.ensures.back.writes

pub returns-in-None-clause-belong : goal.returns-in-None-clause-belong
returns-in-None-clause-belong c = subst Belong (sym c.give_back.ensures.back.writes.nodes) c.requires.belong

pub returns-in-Some-clause-does : goal.returns-in-Some-clause-does
returns-in-Some-clause-does c =
    let was = c.mark_key-old.ensures.was in
    record { reply_is = sym was; job_is = rw was refl; spares = c.mark_key-old.ensures.spares; turns = c.mark_key-old.ensures.sets }

pub returns-in-Some-clause-writes : goal.returns-in-Some-clause-writes
returns-in-Some-clause-writes c = rw c.mark_key-old.ensures.was c.mark_key-old.ensures.writes
