use Rattle.std.proofs.Common.{Bool, Ok, inr, subst, rules}
use Rattle.striped_map.specs.Runs.{Does, DoesAll, DoesToMiss}
use Rattle.striped_map.proofs.Ran.{runs_all}
use Rattle.striped_map.proofs.CallSpans.{taken_back_by}
use Rattle.striped_map.proofs.caller.Caller.run_each.Goals as goal

pub returns-in_ok-commit-in-Ok-true-clause-runs : goal.returns-in_ok-commit-in-Ok-true-clause-runs
returns-in_ok-commit-in-Ok-true-clause-runs g c =
    let begun = c.in_ok-begin.ensures.ok in
    let ops = g.O.Operations.ops_of c.args.ops.now in
    let did = c.in-Ok-true.ensures.does in
    let does : DoesAll c.args.strict ops did.0 c.begin.new.self c.do_all.new.self = subst (λ (all : Bool). Does c.args.strict ops did.0 c.begin.new.self (Ok all) c.do_all.new.self) c.in-Ok-true.field-0-test did.2 in
    (did.0, did.1, runs_all c.args.strict c.args.self.now c.begin.new.self c.do_all.new.self c.commit.new.self ops did.0 begun.2 _ begun.3 does c.in_ok-commit-in-Ok-true.ensures.ok)

pub returns-in-Ok-false-clause-runs : goal.returns-in-Ok-false-clause-runs
returns-in-Ok-false-clause-runs g c =
    let begun = c.in_ok-begin.ensures.ok in
    let ops = g.O.Operations.ops_of c.args.ops.now in
    let did = c.in-Ok-false.ensures.does in
    let does : DoesToMiss c.args.strict ops did.0 c.begin.new.self c.do_all.new.self = subst (λ (all : Bool). Does c.args.strict ops did.0 c.begin.new.self (Ok all) c.do_all.new.self) c.in-Ok-false.field-0-test did.2 in (
      did.0,
      did.1,
      record {
        txn = begun.2;
        b = c.begin.new.self;
        began = begun.3;
        c = c.do_all.new.self;
        does = does;
        back = taken_back_by c.do_all.new.self c.abort.new.self c.abort.result c.abort.ensures;
      },
    )

pub returns-in-Err-clause-runs : goal.returns-in-Err-clause-runs
returns-in-Err-clause-runs g c =
    let begun = c.in_ok-begin.ensures.ok in
    let did = c.in-Err.ensures.does in (
      did.0,
      did.1,
      (
        inr (inr (record {
          txn = begun.2;
          b = c.begin.new.self;
          began = begun.3;
          c = c.do_all.new.self;
          does = did.2;
          back = taken_back_by c.do_all.new.self c.abort-in-Err.new.self c.abort-in-Err.result c.abort-in-Err.ensures;
        })),
        λ was. search rules,
      ),
    )
