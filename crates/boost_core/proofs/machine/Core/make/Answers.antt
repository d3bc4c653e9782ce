use Rattle.std.proofs.Common.{false, replicate, ap, sym, subst, ◌∙◌, arith}
use Rattle.boost_core.proofs.Vocabulary.{IsNew}
use Rattle.boost_core.proofs.Numbers.{noted_none}
use Rattle.boost_core.proofs.Starting.{IsPower, buckets_power, start_tells, none_owed, start_is}
use Rattle.boost_core.proofs.machine.Core.make.Goals as goal

pub new-requires-clause-power : goal.new-requires-clause-power
new-requires-clause-power c = subst IsPower (sym c.buckets-max.ensures.value) (buckets_power c.args.limits.callers c.args.limits.stripes c.args.limits.buckets c.buckets-max.ensures.limits)

pub invariant_of-result : goal.invariant_of-result
invariant_of-result c =
    let new : IsNew c.in_ok-table.table c.args.limits.buckets c.args.limits.callers = subst (λ n. IsNew c.in_ok-table.table n c.args.limits.callers) c.buckets-max.ensures.value (subst (IsNew c.in_ok-table.table c.buckets-max.result) c.callers-callers.ensures.value c.in_ok-table.ensures) in
    let count = c.in_ok-sessions.ensures.length ∙ c.callers-callers.ensures.value in
    record {
      tells = rw c.new-3.ensures.items (start_tells c.args.limits c.in_ok-table.table new c.in_ok-sessions.sessions.items count c.in_ok-sessions.ensures.idle c.args.words c.in_ok-locks.locks (rw c.stripes.ensures.value at (c.in_ok-locks.ensures)));
      owes = sym (none_owed c.args.limits c.in_ok-table.table new c.in_ok-sessions.sessions.items count c.in_ok-sessions.ensures.idle c.args.words);
      noted = rw c.new-3.ensures.items (noted_none c.args.limits.callers c.in_ok-begun.begun.items (c.in_ok-begun.ensures ∙ ap (λ n. replicate n false) c.callers-callers.ensures.value));
      room = omega (arith, c.new-3.ensures.len, none_owed c.args.limits c.in_ok-table.table new c.in_ok-sessions.sessions.items count c.in_ok-sessions.ensures.idle c.args.words);
    }

pub returns-clause-ok : goal.returns-clause-ok
returns-clause-ok c =
    let new : IsNew c.in_ok-table.table c.args.limits.buckets c.args.limits.callers = subst (λ n. IsNew c.in_ok-table.table n c.args.limits.callers) c.buckets-max.ensures.value (subst (IsNew c.in_ok-table.table c.buckets-max.result) c.callers-callers.ensures.value c.in_ok-table.ensures) in
    let count = c.in_ok-sessions.ensures.length ∙ c.callers-callers.ensures.value in
    rw c.new-3.ensures.items (start_is c.args.limits c.in_ok-table.table new c.in_ok-sessions.sessions.items count c.in_ok-sessions.ensures.idle c.args.words c.in_ok-locks.locks)
