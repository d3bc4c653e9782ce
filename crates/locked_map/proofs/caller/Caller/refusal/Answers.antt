use Rattle.std.proofs.Common.{◌∙◌, ◌≡◌, Bool, None, Option, Some, ap, false, is_some, refl, true}
use Rattle.locked_map.specs.Vocabulary.{Call, Refusal, Stance, first_step, option_or, refusal_in}
use Rattle.locked_map.specs.Ready.{refused_at, refusal_of_help}
use Rattle.locked_map.proofs.caller.Caller.refusal.Goals as goal

-- If the caller's stance refuses a call, the call is refused with the stance's refusal. Otherwise the
-- call is refused only if it is a call for help with a bad key.
refuses : (half b : Bool) (o : Option Stance) (call : Call) (stance help r : Option Refusal) → b ≡ false → is_some o ≡ true
    → ((s : Stance) → o ≡ Some s → stance ≡ refusal_in half s (first_step 0 call)) → help ≡ refusal_of_help half call → r ≡ option_or stance help → r ≡ refused_at half b o call
refuses half b None call stance help r sound whole stance_is help_is is = absurd (cc whole)
refuses half b (Some s) call stance help r sound whole stance_is help_is is = rw (sound, is, help_is, stance_is s refl)

pub returns-clause-refusal : goal.returns-clause-refusal
returns-clause-refusal g c = rw (← c.self.view_is) (
    refuses _ _ _ _ _ _ _ c.if-self.false (c.self.invariant.1 c.if-self.false) (λ s at. c.refusal-by_stance.ensures s at ∙ ap (refusal_in c.self.inside.limits.half s) c.first_step.ensures) c.help_refusal.ensures c.or.ensures
    )
