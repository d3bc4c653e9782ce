use Rattle.node_list.proofs.CountLemmas.{marked_count-zero}
use Rattle.node_list.proofs.FollowLemmas.{sound}
use Rattle.node_list.proofs.TallyLemmas.{if_some, marks_from, marks_near}
use Rattle.node_list.proofs.list.NodeList.marks_begin.Goals as goal

pub returns-clause-none : goal.returns-clause-none
returns-clause-none c =
    let counted = rw c.self.invariant.kept.marks at c.first.ensures.none in
    let none = marked_count-zero _ in
    rw (← c.self.view_is) ((λ is. none.0 (counted.0 is)), (λ each. counted.1 (none.1 each)))

pub returns-clause-from : goal.returns-clause-from
returns-clause-from c =
    rw (← c.self.view_is) (if_some _ _ _ (λ split first. marks_from c.self.inside.marks _ split c.self.invariant.tallied first) c.first.ensures.first)

pub returns-clause-near : goal.returns-clause-near
returns-clause-near c =
    let rising = c.self.invariant.kept.laid_out.rising in
    rw (← c.self.view_is) (if_some _ _ _ (λ split first. marks_near c.self.inside.marks _ split c.self.invariant.tallied rising first) c.first.ensures.first)

pub returns-clause-sound : goal.returns-clause-sound
returns-clause-sound c = rw (← c.self.view_is) (sound _ _ _ _ _ _ c.self.invariant.kept)
