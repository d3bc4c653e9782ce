use Rattle.std.proofs.Common.{Some, sym, ap, ◌∙◌, not}
use Rattle.std.proofs.lemmas.Bool.{false≢true}
use Rattle.std.proofs.lemmas.Option.{slice_get-get_or}
use Rattle.txn_trace.proofs.Now.{same_option, same_is}
use Rattle.order_check.proofs.choice.source_by.Goals as goal

pub returns-then-ne : goal.returns-then-ne
returns-then-ne c =
    let a = c.args.access.now in
    let b = c.in_ok-by.by.now in
    record {
      by = b;
      there = slice_get-get_or c.args.accesses.now c.in-Some.index b c.in_ok-by.ensures.lookup.3.0 ∙ ap Some (sym c.in_ok-by.ensures.lookup.1);
      does_it = (
        c.if-by-access.true,
        same_option b.left a.need (sym c.eq.ensures ∙ c.if-eq.true),
        λ same. false≢true (sym (ap not (same_is b.need b.left same)) ∙ sym c.ne.ensures ∙ c.if-ne.true),
      );
    }
