use Rattle.std.proofs.Common.{◌≡◌, ◌<◌, suc, Some, None, refl, sym, ap, subst, ◌∙◌}
use Rattle.boost_core.proofs.Vocabulary.{Drive, new_drive, sized_of, step_of, told_of, end_of, State, Drives, Helps, outcome_of}
use Rattle.boost_core.proofs.HelpOutcomes.{Fits, left, fits_first, round, help_asks_nothing, within_there, most_there, ended}
use Rattle.boost_core.proofs.Moves.{move_over}
use Rattle.txn_drive.specs.declared.call.Call.TheVariants as calls
use Rattle.boost_core.proofs.machine.Core.help.Goals as goal

pub loop-step-init : goal.loop-step-init
loop-step-init c =
    let is : c.new-drive.result ≡ new_drive c.args.self.now.limits.half c.args.caller (calls.Help c.args.key) = c.new-drive.ensures.drive ∙ ap (λ (s : State). new_drive s.limits.half c.args.caller (calls.Help c.args.key)) c.self.view_is in
    record {
      drives = λ more last new drives. (more, subst (λ (d : Drive). Drives more d c.args.self.now last new) is drives);
      caller = ap (λ (d : Drive). d.caller) is;
      call = ap (λ (d : Drive). d.call) is;
      limits = refl;
      words = refl;
      fits = subst (λ (d : Drive). Fits c.args.self.now c.args.caller c.args.key d.phase) (sym is) (fits_first c.args.self.now c.args.caller c.args.key);
    }

pub step-answer-requires : goal.step-answer-requires
step-answer-requires c = λ words.
    let so_far = c.loop-step.invariant in
    let step_is : step_of (sized_of c.loop-step.self.size c.loop-step.drive) ≡ Some c.in-Some.step = ap step_of (sym c.next_step.ensures.drive) ∙ sym c.next_step.ensures.step ∙ c.in-Some.is in
    help_asks_nothing c.args.key c.loop-step.self.size c.loop-step.drive c.in-Some.step so_far.call step_is

pub loop-step-smaller : goal.loop-step-smaller
loop-step-smaller c =
    let so_far = c.loop-step.invariant in
    let limits = ap (λ (s : State). s.limits) c.self.view_is ∙ sym so_far.limits in
    let step_is : step_of (sized_of c.loop-step.self.size c.loop-step.drive) ≡ Some c.in-Some.step = ap step_of (sym c.next_step.ensures.drive) ∙ sym c.next_step.ensures.step ∙ c.in-Some.is in
    let told_is : c.told.new.self ≡ told_of (sized_of c.loop-step.self.size c.loop-step.drive) c.step-answer.result = c.told.ensures.drive ∙ ap (λ (d : Drive). told_of d c.step-answer.result) c.next_step.ensures.drive in
    let goes = round c.loop-step.self c.step-answer.new.self c.args.caller c.args.key c.loop-step.drive c.in-Some.step c.step-answer.result c.next_step.ensures.whole
    (most_there c.self.inside.limits c.loop-step.self.limits limits c.callers.ensures.limits) (within_there c.self.inside.limits c.loop-step.self.limits c.args.caller c.from.result c.callers.result limits c.if-caller-from.false c.from.ensures c.callers.ensures.value)
    so_far.caller so_far.call so_far.fits step_is c.step-answer.ensures.event.move in
    subst (λ (d : Drive). left d.phase < left c.loop-step.drive.phase) (sym told_is) goes.fewer

pub loop-step-preserved : goal.loop-step-preserved
loop-step-preserved c =
    let so_far = c.loop-step.invariant in
    let limits = ap (λ (s : State). s.limits) c.self.view_is ∙ sym so_far.limits in
    let step_is : step_of (sized_of c.loop-step.self.size c.loop-step.drive) ≡ Some c.in-Some.step = ap step_of (sym c.next_step.ensures.drive) ∙ sym c.next_step.ensures.step ∙ c.in-Some.is in
    let told_is : c.told.new.self ≡ told_of (sized_of c.loop-step.self.size c.loop-step.drive) c.step-answer.result = c.told.ensures.drive ∙ ap (λ (d : Drive). told_of d c.step-answer.result) c.next_step.ensures.drive in
    let goes = round c.loop-step.self c.step-answer.new.self c.args.caller c.args.key c.loop-step.drive c.in-Some.step c.step-answer.result c.next_step.ensures.whole
    (most_there c.self.inside.limits c.loop-step.self.limits limits c.callers.ensures.limits) (within_there c.self.inside.limits c.loop-step.self.limits c.args.caller c.from.result c.callers.result limits c.if-caller-from.false c.from.ensures c.callers.ensures.value)
    so_far.caller so_far.call so_far.fits step_is c.step-answer.ensures.event.move in
    record {
      drives = λ more last new drives. so_far.drives (suc more) last new (c.in-Some.step, c.step-answer.result, c.step-answer.new.self, step_is, c.step-answer.ensures.event, subst (λ (d : Drive). Drives more d c.step-answer.new.self last new) told_is drives);
      caller = ap (λ (d : Drive). d.caller) told_is ∙ so_far.caller;
      call = ap (λ (d : Drive). d.call) told_is ∙ so_far.call;
      words = c.step-answer.ensures.words ∙ so_far.words;
      limits = (move_over _ _ c.in-Some.step _ c.step-answer.ensures.event.move).limits ∙ so_far.limits;
      fits = subst (λ (d : Drive). Fits c.step-answer.new.self c.args.caller c.args.key d.phase) (sym told_is) goes.fits;
    }

pub returns-clause-helps : goal.returns-clause-helps
returns-clause-helps c =
    let so_far = c.loop-step.invariant in
    let none : step_of (sized_of c.loop-step.self.size c.loop-step.drive) ≡ None = ap step_of (sym c.next_step.ensures.drive) ∙ sym c.next_step.ensures.step ∙ c.in_default.is in
    let is = c.outcome_of.ensures ∙ ap outcome_of (c.ended.ensures.drive ∙ ap end_of c.next_step.ensures.drive) in
    subst (λ r. Helps c.args.self.now c.args.caller c.args.key r c.loop-step.self) (sym is)
    (ended c.args.self.now c.loop-step.self c.args.caller c.args.key c.loop-step.drive (so_far.drives 0 c.loop-step.drive c.loop-step.self (refl, refl)) so_far.caller so_far.call so_far.fits none)
