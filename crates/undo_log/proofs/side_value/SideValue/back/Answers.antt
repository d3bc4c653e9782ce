use Rattle.std.proofs.Common.{◌+◌, ◌<◌, ◌≤◌, ◌∙◌, length, take, slice_get, ap, sym, arith, rules, append-nil}
use Rattle.std.proofs.lemmas.Grind.{common_steps}
use Rattle.std.proofs.lemmas.List.{length-map}
use Rattle.undo_log.specs.UndoLog.{kept_at}
use Rattle.undo_log.specs.SideValue.{words_at}
use Rattle.undo_log.proofs.Levels.{IsCutAt, on_the_way_start, on_the_way_step, on_the_way_fits, on_the_way_end}
use Rattle.undo_log.proofs.side_value.SideValue.back.Given as given
use Rattle.undo_log.proofs.side_value.SideValue.back.Goals as goal

pub loop-job-init : goal.loop-job-init
loop-job-init g c =
    let there : c.args.level ≤ length c.self.inside.log.kept = omega (arith, c.requires, ap (λ v. length v.levels) c.self.view_is, length-map c.self.inside.log.kept (words_at (λ j. g.S.Side.before j.job) (g.S.Side.words_of c.self.inside.value) c.self.inside.log.jobs)) in
    record {
      way = on_the_way_start (λ j. g.S.Side.before j.job) (λ j. g.S.Side.after j.job) (g.S.Side.words_of c.self.inside.value) c.self.inside.log c.args.level there c.self.invariant;
      room = search rules;
      save_room = search rules;
    }

pub replace_with-requires : goal.replace_with-requires
replace_with-requires g c =
    on_the_way_fits (λ j. g.S.Side.before j.job) (λ j. g.S.Side.after j.job) (g.S.Side.words_of c.self.inside.value) (g.S.Side.words_of c.loop-job.self-inside.value) c.self.inside.log c.loop-job.self-inside.log c.pop_above.new.self.jobs c.in-Some.job c.args.level c.loop-job.invariant.way c.in-Some.ensures.jobs

pub loop-job-preserved : goal.loop-job-preserved
loop-job-preserved g c =
    let above : kept_at c.loop-job.self-inside.log.kept c.args.level < length c.loop-job.self-inside.log.jobs = search (rules, c.in-Some.ensures.some) in
    record {
      way = on_the_way_step (λ j. g.S.Side.before j.job) (λ j. g.S.Side.after j.job) (g.S.Side.words_of c.self.inside.value) (g.S.Side.words_of c.loop-job.self-inside.value) (g.S.Side.words_of c.replace_with.new.dest) c.self.inside.log c.loop-job.self-inside.log c.pop_above.new.self c.in-Some.job c.args.level c.loop-job.invariant.way above c.in-Some.ensures.jobs c.in-Some.ensures.kept c.replace_with.ensures;
      room = grind (arith, common_steps, c.in-Some.ensures.jobs, c.in-Some.ensures.room, c.loop-job.invariant.room);
      save_room = search rules;
    }

ended : (g : given.Over) (c : goal.After-cut g) → IsCutAt (λ j. g.S.Side.before j.job) (λ j. g.S.Side.after j.job) (g.S.Side.words_of c.self.inside.value) (g.S.Side.words_of c.loop-job.self-inside.value) c.self.inside.log c.cut.new.self c.args.level
ended g c =
    let there : c.args.level ≤ length c.self.inside.log.kept = omega (arith, c.requires, ap (λ v. length v.levels) c.self.view_is, length-map c.self.inside.log.kept (words_at (λ j. g.S.Side.before j.job) (g.S.Side.words_of c.self.inside.value) c.self.inside.log.jobs)) in
    let none_above : length c.loop-job.self-inside.log.jobs ≤ kept_at c.loop-job.self-inside.log.kept c.args.level = grind (arith, common_steps, c.in_default.ensures.some) in
    on_the_way_end (λ j. g.S.Side.before j.job) (λ j. g.S.Side.after j.job) (g.S.Side.words_of c.self.inside.value) (g.S.Side.words_of c.loop-job.self-inside.value) c.self.inside.log c.loop-job.self-inside.log c.cut.new.self c.args.level there c.self.invariant c.loop-job.invariant.way none_above
    (c.in_default.ensures.jobs ∙ append-nil c.pop_above.new.self.jobs ∙ sym c.cut.ensures.jobs)
    (c.cut.ensures.kept ∙ ap (take c.args.level) c.in_default.ensures.kept)

pub invariant_of-self : goal.invariant_of-self
invariant_of-self g c = (ended g c).undoable

pub returns-clause-words : goal.returns-clause-words
returns-clause-words g c = ap (λ v. slice_get v.levels c.args.level) (sym c.self.view_is) ∙ (ended g c).words

pub returns-clause-levels : goal.returns-clause-levels
returns-clause-levels g c = (ended g c).levels ∙ ap (λ v. take (c.args.level + 1) v.levels) c.self.view_is

pub returns-clause-kept : goal.returns-clause-kept
returns-clause-kept g c = (ended g c).kept ∙ ap (λ v. take (c.args.level + 1) v.kept) c.self.view_is
