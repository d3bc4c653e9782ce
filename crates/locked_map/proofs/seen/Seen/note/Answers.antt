use Rattle.locked_map.proofs.Noting.{noted, standing_small}
use Rattle.locked_map.proofs.seen.Seen.note.Goals as goal

pub invariant_of-self : goal.invariant_of-self
invariant_of-self g c =
    noted _ _ _ _ c.in-Some.entry c.args.step c.args.answer _ _ _ _ _ _ _ _ c.self.invariant (rw (← c.self.view_is) at c.requires.whole) (rw (← c.self.view_is) at c.requires.room)
    c.in-Some.ensures (rw c.packed.ensures at c.push_reserved.ensures.items) c.push_reserved.ensures.capacity c.enter-self-inside.ensures.is_allowed c.enter-self-inside.ensures.stance
    c.began_by-self-inside.ensures c.add.ensures.parts c.add.ensures.amount

pub enter-self-inside-requires-clause-standing : goal.enter-self-inside-requires-clause-standing
enter-self-inside-requires-clause-standing g c = standing_small _ _ _ _ _ _ c.self.invariant (rw (← c.self.view_is) at c.requires.whole)
