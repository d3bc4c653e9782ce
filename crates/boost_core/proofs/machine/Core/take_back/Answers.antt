use Rattle.std.proofs.Common.{suc, [], ◌∷◌, refl, sym, ap, subst, ◌∙◌, nat_le}
use Rattle.boost_core.proofs.Vocabulary.{Sizes, Answer, Placed, Undone, Seek, Act, is_leaving, Happens}
use Rattle.boost_core.specs.Answers.{end_answer}
use Rattle.boost_core.proofs.Calls.{took_back, act_ends}
use Rattle.boost_core.proofs.machine.Core.take_back.Goals as goal

pub loop-self-preserved : goal.loop-self-preserved
loop-self-preserved c =
    let so_far = c.loop-self.invariant in
    let back = took_back c.loop-self.self c.call.new.self c.call-in-loop-self.new.self c.args.caller c.call.result c.call-in-loop-self.result (ap (λ (l : Sizes). nat_le l.callers c.args.caller) so_far.limits ∙ c.requires.within) (ap is_leaving so_far.phase ∙ c.requires.leaves) (sym c.has_job.ensures ∙ c.loop-self-test.true)
    c.call.ensures.moves c.call.ensures.cursor c.call-in-loop-self.ensures.moves in
    record {
      changes = suc so_far.changes;
      moves = λ steps answers new moves. so_far.moves (Seek c.args.caller ∷ Act c.args.caller ∷ steps) (Placed ∷ Undone ∷ answers) new (
        c.call.new.self,
        subst (λ (a : Answer). Happens c.loop-self.self (Seek c.args.caller) a c.call.new.self) back.placed (record { move = c.call.ensures.moves; lists = c.call.ensures.lists; cursors = c.call.ensures.cursors }),
        (c.call-in-loop-self.new.self, subst (λ (a : Answer). Happens c.call.new.self (Act c.args.caller) a c.call-in-loop-self.new.self) back.undone (record { move = c.call-in-loop-self.ensures.moves; lists = c.call-in-loop-self.ensures.lists; cursors = c.call-in-loop-self.ensures.cursors }), moves),
      );
      limits = back.limits ∙ so_far.limits;
      words = c.call-in-loop-self.ensures.words ∙ c.call.ensures.words ∙ so_far.words;
      phase = back.phase ∙ so_far.phase;
    }

pub loop-self-smaller : goal.loop-self-smaller
loop-self-smaller c =
    let so_far = c.loop-self.invariant in
    let back = took_back c.loop-self.self c.call.new.self c.call-in-loop-self.new.self c.args.caller c.call.result c.call-in-loop-self.result (ap (λ (l : Sizes). nat_le l.callers c.args.caller) so_far.limits ∙ c.requires.within) (ap is_leaving so_far.phase ∙ c.requires.leaves) (sym c.has_job.ensures ∙ c.loop-self-test.true)
    c.call.ensures.moves c.call.ensures.cursor c.call-in-loop-self.ensures.moves in
    back.fewer

pub returns-clause-ends : goal.returns-clause-ends
returns-clause-ends c =
    let so_far = c.loop-self.invariant in
    (so_far.changes, so_far.moves (Act c.args.caller ∷ []) (c.call-2.result ∷ []) c.call-2.new.self (c.call-2.new.self, record { move = c.call-2.ensures.moves; lists = c.call-2.ensures.lists; cursors = c.call-2.ensures.cursors }, refl))

pub returns-clause-answer : goal.returns-clause-answer
returns-clause-answer c =
    let so_far = c.loop-self.invariant in
    act_ends c.loop-self.self c.call-2.new.self c.args.caller c.call-2.result (ap (λ (l : Sizes). nat_le l.callers c.args.caller) so_far.limits ∙ c.requires.within) (ap is_leaving so_far.phase ∙ c.requires.leaves) (sym c.has_job.ensures ∙ c.loop-self-test.false) c.call-2.ensures.moves
    ∙ ap end_answer so_far.phase
