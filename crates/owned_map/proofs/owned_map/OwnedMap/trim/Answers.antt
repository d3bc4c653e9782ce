use Rattle.std.proofs.Common.{rules, ◌≡◌, length, IfErr, sym, ap, subst, ◌∙◌}
use Rattle.txn_trace.specs.Now.{now}
use Rattle.txn_words.specs.Ordered.{ordered}
use Rattle.boost_core.specs.State.{State}
use Rattle.owned_map.specs.declared.owned_map.OwnedMap.{OwnedMap}
use Rattle.txn_words.specs.Map.{count_of}
use Rattle.txn_words.proofs.Order.{length-ordered}
use Rattle.owned_map.specs.Trimmed.{IsTrimmed, LacksFor, filling}
use Rattle.txn_words.specs.Sizes.{Sizes}
use Rattle.owned_map.specs.Taken.{HasTakenKeys}
use Rattle.owned_map.proofs.RefusedKeys.{none_there}
use Rattle.owned_map.proofs.TrimmedMap.{at_rest, some_open, caused}
use Rattle.owned_map.proofs.owned_map.OwnedMap.trim.Goals as goal

pub returns-then-owed-ne0-clause-cause : goal.returns-then-owed-ne0-clause-cause
returns-then-owed-ne0-clause-cause c = some_open c.args.self.now.core (λ none. c.if-owed-ne0.true (c.owed.ensures ∙ none))

pub fill-requires-clause-listed : goal.fill-requires-clause-listed
fill-requires-clause-listed c = (
  now c.args.self.now.core.history,
  c.as_slice.ensures.value ∙ c.in_ok-pairs.ensures,
  subst (λ (l : Sizes). HasTakenKeys l.half (now c.args.self.now.core.history)) (sym (ap (λ (s : State). s.limits) c.in_ok-fresh.ensures.ok ∙ c.limits.ensures))
      (none_there c.args.self.now.core.limits.half c.args.self.now.core.history c.args.self.now.taken),
)

pub returns-clause-trimmed : goal.returns-clause-trimmed
returns-clause-trimmed c =
    let listed : c.as_slice.result.now ≡ ordered (now c.args.self.now.core.history) = c.as_slice.ensures.value ∙ c.in_ok-pairs.ensures in
    let none : c.owed.result ≡ 0 = search rules in
    let made : IsTrimmed c.args.self.now.core c.fill.new.self.core = record {
      rest = at_rest c.args.self.now.core (sym c.owed.ensures ∙ none);
      history = c.in_ok-fill.ensures.ok ∙ ap filling listed;
      same = c.in_ok-fill.ensures.map (now c.args.self.now.core.history) listed;
      limits = c.in_ok-fill.ensures.limits ∙ ap (λ (s : State). s.limits) c.in_ok-fresh.ensures.ok ∙ c.limits.ensures;
    } in
    subst (λ (m : OwnedMap). IsTrimmed c.args.self.now.core m.core) (sym c.replace.ensures.after) made

pub returns-in_err-pairs-clause-cause : goal.returns-in_err-pairs-clause-cause
returns-in_err-pairs-clause-cause c =
    let none : c.owed.result ≡ 0 = search rules in
    caused c.args.self.now.core c.from_residual.result (sym c.owed.ensures ∙ none) (search rules)

pub returns-in_err-fresh-clause-cause : goal.returns-in_err-fresh-clause-cause
returns-in_err-fresh-clause-cause c =
    let none : c.owed.result ≡ 0 = search rules in
    caused c.args.self.now.core c.from_residual-in_err-fresh.result (sym c.owed.ensures ∙ none) (search rules)

pub returns-in_err-fill-clause-cause : goal.returns-in_err-fill-clause-cause
returns-in_err-fill-clause-cause c =
    let none : c.owed.result ≡ 0 = search rules in
    let all : length c.as_slice.result.now ≡ count_of (now c.args.self.now.core.history) = ap length (c.as_slice.ensures.value ∙ c.in_ok-pairs.ensures) ∙ length-ordered (now c.args.self.now.core.history) in
    let lack : IfErr c.from_residual-in_err-fill.result (λ refusal. LacksFor (length c.as_slice.result.now) refusal) = search rules in
    caused c.args.self.now.core c.from_residual-in_err-fill.result (sym c.owed.ensures ∙ none) (subst (λ n. IfErr c.from_residual-in_err-fill.result (λ refusal. LacksFor n refusal)) all lack)
