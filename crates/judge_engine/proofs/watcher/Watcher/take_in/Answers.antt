use Rattle.std.proofs.Common.{◌≡◌, ◌∷◌, [], ◌++◌, Some, take, refl, sym, subst, ◌∙◌, append_assoc}
use Rattle.std.specs.List.{position}
use Rattle.judge_engine.specs.Breaks.{is_break}
use Rattle.judge_engine.specs.Watchers.{TookIn}
use Rattle.judge_engine.proofs.LineLemmas.{cut_line, unbroken_front, unbroken_whole}
use Rattle.judge_engine.proofs.watcher.Watcher.take_in.Goals as goal

pub end_line-requires : goal.end_line-requires
end_line-requires c = unbroken_front c.lines.rest.now c.in-Some.at (sym c.first_break.ensures ∙ c.in-Some.is)

pub hold-requires : goal.hold-requires
hold-requires c = unbroken_whole c.lines.rest.now (sym c.first_break.ensures ∙ c.in_default.is)

pub lines-preserved : goal.lines-preserved
lines-preserved c =
    let i = c.lines.invariant in
    let rest = c.lines.rest.now in
    let at : position is_break rest ≡ Some c.in-Some.at = sym c.first_break.ensures ∙ c.in-Some.is in
    let line = take c.in-Some.at rest ++ 10 ∷ [] in (
      i.0 ++ line,
      cut_line c.args.chunk.now i.0 rest c.in-Some.at _ i.1 at refl,
      λ basis bytes t. subst (λ b. TookIn basis b c.end_line.new.self) (append_assoc bytes i.0 line) (c.in_ok-end_line.ensures.line basis (bytes ++ i.0) (i.2 basis bytes t)),
    )
