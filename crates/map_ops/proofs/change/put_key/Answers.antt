use Rattle.std.proofs.Common.{◌∙◌, refl, sym, subst}
use Rattle.node_list.proofs.FollowLemmas.{follows_twice}
use Rattle.map_ops.specs.Sound.{Belong}
use Rattle.map_ops.proofs.ChangeLemmas.{written_then_back}
use Rattle.map_ops.proofs.DoesLemmas.{keeps_then_back, turns_then_back}
use Rattle.map_ops.proofs.change.put_key.Goals as goal

pub link_key-requires-clause-room : goal.link_key-requires-clause-room
link_key-requires-clause-room c = rw c.in-None.is at c.requires.stands

pub swap_key-old-requires-clause-there : goal.swap_key-old-requires-clause-there
swap_key-old-requires-clause-there c = rw c.in-Some.is at c.requires.stands

pub give_back-requires : goal.give_back-requires
give_back-requires c = c.swap_key-old.ensures.spares c.args.spare.place ∙ c.requires.owned

pub returns-in-None-clause-does : goal.returns-in-None-clause-does
returns-in-None-clause-does c =
    let room = rw c.in-None.is at c.requires.stands in
    record { reply_is = sym room.none; job_is = rw room.none refl; spares = c.link_key.ensures.spares; turns = c.link_key.ensures.sets }

pub returns-in-Some-clause-does : goal.returns-in-Some-clause-does
returns-in-Some-clause-does c = record {
  reply_is = sym c.swap_key-old.ensures.was;
  job_is = rw c.swap_key-old.ensures.was refl;
  spares = keeps_then_back c.args.list.now c.swap_key-old.new.list c.give_back.new.list _ c.swap_key-old.ensures.spares c.give_back.ensures.back;
  turns = turns_then_back c.args.list.now c.swap_key-old.new.list c.give_back.new.list _ _ c.swap_key-old.ensures.sets c.give_back.ensures.back;
}

pub returns-in-Some-clause-writes : goal.returns-in-Some-clause-writes
returns-in-Some-clause-writes c = written_then_back _ _ _ _ _ c.swap_key-old.ensures.writes c.give_back.ensures.back.writes

pub returns-in-Some-clause-belong : goal.returns-in-Some-clause-belong
returns-in-Some-clause-belong c = subst Belong (sym c.give_back.ensures.back.writes.nodes) c.swap_key-old.ensures.belong

pub returns-in-Some-clause-follows : goal.returns-in-Some-clause-follows
returns-in-Some-clause-follows c = follows_twice _ _ _ c.swap_key-old.ensures.follows c.give_back.ensures.follows
