use Rattle.std.proofs.Common.{◌≡◌, subst, true}
use Rattle.locked_map.specs.Vocabulary.{Sizes, are_limits}
use Rattle.locked_map.proofs.Claiming.{counted_more, goes_over, small_added}
use Rattle.locked_map.proofs.Holding.{goes_told}
use Rattle.locked_map.proofs.Stepping.{in_step_told}
use Rattle.locked_map.proofs.turns.take.Goals as goal

pub returns-clause-in_step : goal.returns-clause-in_step
returns-clause-in_step g c = λ limits number sized ins.
    in_step_told _ _ _ limits number _ _ _ _ c.args.step c.step-answer.result c.trace-before.ensures.whole c.trace-after.ensures.whole c.trace-before.ensures.shape c.trace-after.ensures.shape c.entries-seen.ensures.small sized c.requires.step
    (record { goes = c.step-answer.ensures.goes; lists = c.step-answer.ensures.lists; told = c.told.ensures.drive; entries = c.note.ensures.entries }) ins

pub returns-clause-goes : goal.returns-clause-goes
returns-clause-goes g c = λ base goes. goes_told base _ _ _ _ c.args.step c.step-answer.result c.requires.step c.requires.may.whole c.note.ensures.entries c.told.ensures.drive goes

pub invariant_of-booked-clause-counted : goal.invariant_of-booked-clause-counted
invariant_of-booked-clause-counted g c = counted_more _ _ _ _ _ c.args.booked.now.counted c.note.ensures.book (goes_over _ _ _ _ _ c.step-answer.ensures.goes).history

pub note-requires-clause-small : goal.note-requires-clause-small
note-requires-clause-small g c =
    small_added _ _ c.args.step c.step-answer.result (goes_over _ _ _ _ _ c.step-answer.ensures.goes) c.trace-after.ensures.callers c.trace-after.ensures.legal
    (subst (λ (l : Sizes). are_limits l.callers l.stripes l.buckets ≡ true) c.limits.ensures c.callers-fits.ensures.limits)
