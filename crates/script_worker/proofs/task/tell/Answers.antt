use Rattle.std.proofs.Common.{◌≡◌, Option, Some, sym, ap, ◌∙◌}
use Rattle.script_worker.proofs.Vocabulary.{Drive, drive_told, finish_by, option_or, settled, Task}
use Rattle.script_worker.proofs.task.tell.Goals as goal

pub returns-clause-finish : goal.returns-clause-finish
returns-clause-finish c =
    let with_drive : Drive → Option Task = λ d. Some (record { script = c.in-Some.now.script; attempt = c.in-Some.now.attempt; drive = d }) in
    let told : with_drive c.told.new.self ≡ drive_told c.args.task.now c.args.answer = ap with_drive c.told.ensures.drive ∙ ap (λ o. drive_told o c.args.answer) (sym c.in-Some.is) in
    let first = c.settle-first.ensures.finish ∙ ap (finish_by c.args.scripts.now c.args.tries) told in
    let second = c.settle-second.ensures.finish ∙ ap (finish_by c.args.scripts.now c.args.tries) (sym c.in-Some-task.is ∙ c.settle-first.ensures.task ∙ ap (settled c.args.scripts.now c.args.tries c.args.worker c.args.limits) told) in
    c.or.ensures ∙ (λ i. option_or (first i) (second i))
