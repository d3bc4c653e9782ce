use Rattle.std.proofs.Common.{sym, subst, ◌∙◌, arith}
use Rattle.piece_files.specs.Faults.{Gives}
use Rattle.piece_files.proofs.Whole.{gives_fault}
use Rattle.txn_files.proofs.OnLine.{entry_on-unread, entry_on-found, entry_on-fails, Gives-same}
use Rattle.txn_files.proofs.entry_line.entry_on.Goals as goal

pub returns-in_default-clause-entry : goal.returns-in_default-clause-entry
returns-in_default-clause-entry c = entry_on-unread c.args.line.now (omega arith) (sym c.is_blank.ensures ∙ c.if-is_blank.false) c.in_default.ensures.cases.0

pub returns-in_err-found-clause-entry : goal.returns-in_err-found-clause-entry
returns-in_err-found-clause-entry c =
    let fault = c.in_err-found.field-0.0 in
    let fails = entry_on-fails c.args.line.now c.in-Ok.text.now fault (omega arith) (sym c.is_blank.ensures ∙ c.if-is_blank.false) c.in-Ok.ensures.cases.1 c.in-Ok.ensures.cases.0 c.in_err-found.ensures in
    gives_fault _ c.from_residual.result fault _ c.from_residual.ensures.1 fails

pub returns-clause-entry : goal.returns-clause-entry
returns-clause-entry c =
    let w = c.in_ok-found.ensures in
    let e = entry_on-found c.args.line.now c.in-Ok.text.now w.0 c.in_ok-found.found c.entry_in_range.result (omega arith) (sym c.is_blank.ensures ∙ c.if-is_blank.false) c.in-Ok.ensures.cases.1 c.in-Ok.ensures.cases.0 w.1 w.2 c.entry_in_range.ensures.found in
    subst (Gives (λ x. x) c.entry_in_range.result) (sym e) (Gives-same c.entry_in_range.result)
