use Rattle.std.proofs.Common.{◌≡◌, true, ap, subst, ◌∙◌}
use Rattle.std.specs.Prelude.{◌↔◌, string_bytes}
use Rattle.std.specs.Io.KnownBytes.{Appends}
use Rattle.std.proofs.lemmas.Result.{err_from_is_err_and}
use Rattle.judge_engine.specs.Outcomes.{IsWell}
use Rattle.txn_files.specs.Output.{AppendsPart}
use Rattle.judge_engine.proofs.Telling.{leaves_history, told}
use Rattle.judge_engine.proofs.outcomes.tell_outcomes.Goals as goal

pub returns-in-Ok-write_text-clause-tells : goal.returns-in-Ok-write_text-clause-tells
returns-in-Ok-write_text-clause-tells g c =
    let well_is = subst (λ ss. (c.is_well-well.result ≡ true) ↔ IsWell ss c.in-Ok.found.items) c.scripts.ensures
    (subst (λ os. (c.is_well-well.result ≡ true) ↔ IsWell c.scripts.result.now os) c.deref-3.ensures.value c.is_well-well.ensures) in
    let tells = told (g.S.Read.remaining c.args.scripts) (g.H.Read.remaining c.args.history) c.in_ok-work.work c.in_ok-entries.entries.items c.deref.result.now c.in-Ok.found.items c.deref-2.result.now
    c.callers-workers.result (string_bytes c.in-Ok-text_of.text) c.is_well-well.result c.in_ok-work.ensures.ok c.in_ok-entries.ensures.ok c.deref.ensures.value c.in-Ok.ensures
    (c.callers-workers.ensures.value ∙ ap (λ l. l.callers) c.limits.ensures) c.deref-2.ensures.value c.in-Ok-text_of.ensures well_is in
    (string_bytes c.in-Ok-text_of.text, tells, subst (Appends (g.W.Write.contents c.args.output.now) (g.W.Write.contents c.write_text.new.output)) c.as_bytes.ensures.value c.in-Ok-write_text.ensures.ok)

pub returns-clause-fault : goal.returns-clause-fault
returns-clause-fault g c =
    let well_is = subst (λ ss. (c.is_well-well.result ≡ true) ↔ IsWell ss c.in-Ok.found.items) c.scripts.ensures
    (subst (λ os. (c.is_well-well.result ≡ true) ↔ IsWell c.scripts.result.now os) c.deref-3.ensures.value c.is_well-well.ensures) in
    let tells = told (g.S.Read.remaining c.args.scripts) (g.H.Read.remaining c.args.history) c.in_ok-work.work c.in_ok-entries.entries.items c.deref.result.now c.in-Ok.found.items c.deref-2.result.now
    c.callers-workers.result (string_bytes c.in-Ok-text_of.text) c.is_well-well.result c.in_ok-work.ensures.ok c.in_ok-entries.ensures.ok c.deref.ensures.value c.in-Ok.ensures
    (c.callers-workers.ensures.value ∙ ap (λ l. l.callers) c.limits.ensures) c.deref-2.ensures.value c.in-Ok-text_of.ensures well_is in
    (string_bytes c.in-Ok-text_of.text, c.is_well-well.result, tells, subst (AppendsPart (g.W.Write.contents c.args.output.now) (g.W.Write.contents c.write_text.new.output)) c.as_bytes.ensures.value c.in-Err.ensures.err)

pub returns-in_err-entries-clause-fault : goal.returns-in_err-entries-clause-fault
returns-in_err-entries-clause-fault g c =
    let p = err_from_is_err_and c.from_residual-in_err-entries.result c.from_residual-in_err-entries.ensures.1 in
    rw (p.1, p.2) (leaves_history (g.S.Read.remaining c.args.scripts) (g.H.Read.remaining c.args.history) (g.W.Write.contents c.args.output.now) c.in_ok-work.work c.in_err-entries.field-0.0 c.in_ok-work.ensures.ok c.in_err-entries.ensures.err)
