use Rattle.std.proofs.Common.{◌≡◌, ◌∙◌, [], ◌∷◌, ◌++◌, ap}
use Rattle.undo_log.proofs.Levels.{IsUndoable-push, levels_of-push}
use Rattle.undo_log.proofs.side_value.SideValue.change.Goals as goal

pub invariant_of-self-2 : goal.invariant_of-self-2
invariant_of-self-2 g c =
    let fits : g.S.Side.words_of c.self.inside.value ≡ g.S.Side.before c.args.job.job = ap (λ v. g.S.Side.words_of v.value) c.self.view_is ∙ c.requires.before in
    let gives : g.S.Side.words_of c.replace_with.new.dest ≡ g.S.Side.after c.args.job.job = c.requires.after c.replace_with.new.dest (rw (← c.self.view_is) c.replace_with.ensures) in
    let jobs : c.push_reserved.new.self.jobs ≡ c.self.inside.log.jobs ++ c.args.job ∷ [] = cc in
    let kept : c.push_reserved.new.self.kept ≡ c.self.inside.log.kept = cc in
    IsUndoable-push (λ j. g.S.Side.before j.job) (λ j. g.S.Side.after j.job) (g.S.Side.words_of c.self.inside.value) (g.S.Side.words_of c.replace_with.new.dest) c.self.inside.log c.push_reserved.new.self c.args.job fits gives jobs kept c.self.invariant

pub returns-clause-levels : goal.returns-clause-levels
returns-clause-levels g c =
    let fits : g.S.Side.words_of c.self.inside.value ≡ g.S.Side.before c.args.job.job = ap (λ v. g.S.Side.words_of v.value) c.self.view_is ∙ c.requires.before in
    let jobs : c.push_reserved.new.self.jobs ≡ c.self.inside.log.jobs ++ c.args.job ∷ [] = cc in
    let kept : c.push_reserved.new.self.kept ≡ c.self.inside.log.kept = cc in
    levels_of-push (λ j. g.S.Side.before j.job) (λ j. g.S.Side.after j.job) (g.S.Side.words_of c.self.inside.value) (g.S.Side.words_of c.replace_with.new.dest) c.self.inside.log c.push_reserved.new.self c.args.job fits jobs kept c.self.invariant.nested ∙ ap (λ v. v.levels) c.self.view_is
