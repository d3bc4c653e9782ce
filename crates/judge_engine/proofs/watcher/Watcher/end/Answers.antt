use Rattle.std.proofs.Common.{◌≡◌, [], ◌∷◌, ◌++◌, None, Ok, ap, subst}
use Rattle.std.proofs.lemmas.Result.{err_from_is_err_and}
use Rattle.judge_engine.specs.Watching.{HasNoVerdict, IsJudged}
use Rattle.judge_engine.proofs.Taking.{all_taken, judged_whole}
use Rattle.judge_engine.proofs.watcher.Watcher.end.Goals as goal

pub returns-in_err-verdict : goal.returns-in_err-verdict
returns-in_err-verdict c = λ basis bytes t.
    let p = err_from_is_err_and c.from_residual-in_err-verdict.result c.from_residual-in_err-verdict.ensures.1 in
    let took = c.in_ok-end_line.ensures.line basis bytes t in
    rw (p.1, p.2) (subst (λ found. HasNoVerdict basis found c.in_err-verdict.field-0.0) (all_taken bytes) (c.in_err-verdict.ensures.settled basis (bytes ++ 10 ∷ []) [] took))

pub returns-in-Some : goal.returns-in-Some
returns-in-Some c = λ basis bytes t.
    let took = c.in_ok-end_line.ensures.line basis bytes t in
    let told = rw c.in-Some.is at (c.in_ok-verdict.ensures.settled basis (bytes ++ 10 ∷ []) [] took) in
    subst (λ found. IsJudged basis found c.in-Some.verdict) (all_taken bytes) told

pub returns-in-None : goal.returns-in-None
returns-in-None c = λ basis bytes t.
    let took = c.in_ok-end_line.ensures.line basis bytes t in
    let w = c.end_line.new.self in
    let none : w.refused ≡ None = c.in_ok-verdict.ensures.open (ap Ok c.in-None.is) in
    judged_whole basis bytes took.entries w.part.items w.number w.refused c.verdict.result none (c.in_ok-end_line.ensures.empty none) took.place (c.verdict.ensures basis took.entries took.fed)
