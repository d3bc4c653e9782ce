use Rattle.std.proofs.Common.{◌∙◌, [], ◌∷◌, ◌++◌, ap}
use Rattle.std.proofs.lemmas.Result.{on_ok_weaker}
use Rattle.undo_log.proofs.Levels.{IsUndoable-saved, levels_of-save}
use Rattle.undo_log.proofs.side_value.SideValue.save.Goals as goal

pub invariant_of-self : goal.invariant_of-self
invariant_of-self g c =
    IsUndoable-saved (λ j. g.S.Side.before j.job) (λ j. g.S.Side.after j.job) (g.S.Side.words_of c.self.inside.value) c.self.inside.log c.save.new.self c.save.result c.save.ensures.jobs c.save.ensures.kept c.save.ensures.err c.self.invariant

pub returns-clause-levels : goal.returns-clause-levels
returns-clause-levels g c =
    on_ok_weaker c.save.result
    (λ kept. levels_of-save (λ j. g.S.Side.before j.job) (λ j. g.S.Side.after j.job) (g.S.Side.words_of c.self.inside.value) c.self.inside.log c.save.new.self c.save.ensures.jobs kept
    ∙ ap (λ v. v.levels ++ g.S.Side.words_of v.value ∷ []) c.self.view_is)
    c.save.ensures.kept
