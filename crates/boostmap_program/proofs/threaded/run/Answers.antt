use Rattle.std.proofs.Common.{sym, subst}
use Rattle.txn_files.specs.HistoryText.{text_of_history}
use Rattle.boostmap_engine.specs.Report.{line}
use Rattle.boostmap_engine.proofs.WrittenBlocks.{on_ok, if_err}
use Rattle.boostmap_program.specs.Threaded.{IsThreadedOf}
use Rattle.boostmap_program.proofs.Threading.{leaves_threaded}
use Rattle.boostmap_program.proofs.threaded.run.Goals as goal

pub returns-clause-runs : goal.returns-clause-runs
returns-clause-runs g c =
    let is = subst (λ es. IsThreadedOf c.in_ok-bytes.bytes.items (line (text_of_history 3 c.in_ok-history.history.stripes es))) (sym c.deref.ensures.value) c.in_ok-history.ensures.ok in
    on_ok c.write_history.result _ _ (λ grows. (c.in_ok-bytes.bytes.items, line (text_of_history 3 c.in_ok-history.history.stripes c.deref.result.now), c.in_ok-bytes.ensures, is, grows)) c.write_history.ensures.ok

pub returns-clause-fault : goal.returns-clause-fault
returns-clause-fault g c =
    let is = subst (λ es. IsThreadedOf c.in_ok-bytes.bytes.items (line (text_of_history 3 c.in_ok-history.history.stripes es))) (sym c.deref.ensures.value) c.in_ok-history.ensures.ok in
    if_err c.write_history.result _ _
    (leaves_threaded (g.R.Read.remaining c.args.input.now) (g.W.Write.contents c.args.output.now) (g.W.Write.contents c.write_history.new.output) c.in_ok-bytes.bytes.items
    (line (text_of_history 3 c.in_ok-history.history.stripes c.deref.result.now)) c.in_ok-bytes.ensures is)
    c.write_history.ensures.err
