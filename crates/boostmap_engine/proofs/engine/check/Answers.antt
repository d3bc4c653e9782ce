use Rattle.std.proofs.Common.{string_bytes, refl}
use Rattle.std.proofs.lemmas.Result.{err_from_is_err_and}
use Rattle.boostmap_engine.proofs.Lines.{Leaves-line}
use Rattle.boostmap_engine.proofs.engine.check.Goals as goal

pub returns-in_err-write_text-clause-fault : goal.returns-in_err-write_text-clause-fault
returns-in_err-write_text-clause-fault g c =
    let p = err_from_is_err_and c.from_residual-in_err-write_text.result c.from_residual-in_err-write_text.ensures.1 in
    rw (p.1, p.2)
    (Leaves-line _ _ _ c.in_ok-bytes.bytes.items c.in_ok-bytes.bytes.items (string_bytes c.in_ok-line.line) c.as_bytes.result.now c.in_ok-verdict.verdict
    c.in_ok-bytes.ensures refl c.in_ok-verdict.ensures.ok c.in_ok-line.ensures c.as_bytes.ensures.value c.in_err-write_text.ensures.err)
