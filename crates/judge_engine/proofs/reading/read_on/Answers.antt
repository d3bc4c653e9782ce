use Rattle.std.proofs.Common.{[], ◌++◌, take, subst, append-nil, arith}
use Rattle.std.proofs.lemmas.Result.{err_from_is_err_and}
use Rattle.std.specs.Io.KnownBytes.{Consumes}
use Rattle.judge_engine.specs.Watchers.{TookIn}
use Rattle.judge_engine.specs.Watching.{FailsToWatch, IsJudgedLines, Watches}
use Rattle.judge_engine.proofs.Known.{Consumes-none, Consumes-more, OfAll-early}
use Rattle.judge_engine.proofs.Ends.{ok_each, err_each, ended, failed_early}
use Rattle.judge_engine.proofs.reading.read_on.Goals as goal

pub reads-init : goal.reads-init
reads-init g c = ([], Consumes-none (g.R.Read.remaining c.args.input.now), c.requires, λ basis t. t)

pub returns-then-count-eq0-clause-ok : goal.returns-then-count-eq0-clause-ok
returns-then-count-eq0-clause-ok g c =
    let i = c.reads.invariant in
    let a = g.R.Read.remaining c.args.input.now in
    let b = c.in-Ok.ensures.bytes in
    let none = rw c.if-count-eq0.true at b.0 in
    let all = subst (Consumes a (g.R.Read.remaining c.read.new.self)) (append-nil i.0) (Consumes-more a (g.R.Read.remaining c.reads.input) (g.R.Read.remaining c.read.new.self) i.0 [] i.1 none) in
    let end = b.1 c.if-count-eq0.true (omega (arith, c.read.auto.buf, i.2)) in
    ok_each c.end.result (λ basis. TookIn basis [] c.args.watcher.now) (λ basis. Watches basis a) (λ basis. FailsToWatch basis a) (λ basis t. ended basis a (g.R.Read.remaining c.read.new.self) i.0 c.end.result all end (c.end.ensures basis i.0 (i.3 basis t)))

pub returns-then-count-eq0-clause-err : goal.returns-then-count-eq0-clause-err
returns-then-count-eq0-clause-err g c =
    let i = c.reads.invariant in
    let a = g.R.Read.remaining c.args.input.now in
    let b = c.in-Ok.ensures.bytes in
    let none = rw c.if-count-eq0.true at b.0 in
    let all = subst (Consumes a (g.R.Read.remaining c.read.new.self)) (append-nil i.0) (Consumes-more a (g.R.Read.remaining c.reads.input) (g.R.Read.remaining c.read.new.self) i.0 [] i.1 none) in
    let end = b.1 c.if-count-eq0.true (omega (arith, c.read.auto.buf, i.2)) in
    err_each c.end.result (λ basis. TookIn basis [] c.args.watcher.now) (λ basis. Watches basis a) (λ basis. FailsToWatch basis a) (λ basis t. ended basis a (g.R.Read.remaining c.read.new.self) i.0 c.end.result all end (c.end.ensures basis i.0 (i.3 basis t)))

pub returns-in_err-take_in-clause-err : goal.returns-in_err-take_in-clause-err
returns-in_err-take_in-clause-err g c =
    let p = err_from_is_err_and c.from_residual.result c.from_residual.ensures.1 in
    rw (p.1, p.2, c.in_err-take_in.ensures.err) (λ basis t. tt)

pub returns-in_err-verdict-clause-err : goal.returns-in_err-verdict-clause-err
returns-in_err-verdict-clause-err g c =
    let i = c.reads.invariant in
    let a = g.R.Read.remaining c.args.input.now in
    let more = take c.in-Ok.count c.read.new.buf in
    let all = Consumes-more a (g.R.Read.remaining c.reads.input) (g.R.Read.remaining c.read.new.self) i.0 more i.1 c.in-Ok.ensures.bytes.0 in
    let p = err_from_is_err_and c.from_residual-in_err-verdict.result c.from_residual-in_err-verdict.ensures.1 in
    rw (p.1, p.2) (λ basis t. failed_early basis a (g.R.Read.remaining c.read.new.self) (i.0 ++ more) c.in_err-verdict.field-0.0 all (λ rest. c.in_err-verdict.ensures.settled basis (i.0 ++ more) rest (c.in_ok-take_in.ensures.ok basis i.0 (i.3 basis t))))

pub returns-in-Some-clause-ok : goal.returns-in-Some-clause-ok
returns-in-Some-clause-ok g c = λ basis t.
    let i = c.reads.invariant in
    let a = g.R.Read.remaining c.args.input.now in
    let more = take c.in-Ok.count c.read.new.buf in
    let all = Consumes-more a (g.R.Read.remaining c.reads.input) (g.R.Read.remaining c.read.new.self) i.0 more i.1 c.in-Ok.ensures.bytes.0 in
    OfAll-early (λ bytes. IsJudgedLines basis bytes c.in-Some.verdict) a (g.R.Read.remaining c.read.new.self) (i.0 ++ more) all (λ rest. rw c.in-Some.is at (c.in_ok-verdict.ensures.settled basis (i.0 ++ more) rest (c.in_ok-take_in.ensures.ok basis i.0 (i.3 basis t))))

pub reads-preserved : goal.reads-preserved
reads-preserved g c =
    let i = c.reads.invariant in
    let a = g.R.Read.remaining c.args.input.now in
    let more = take c.in-Ok.count c.read.new.buf in (
      i.0 ++ more,
      Consumes-more a (g.R.Read.remaining c.reads.input) (g.R.Read.remaining c.read.new.self) i.0 more i.1 c.in-Ok.ensures.bytes.0,
      omega (arith, c.read.auto.buf, i.2),
      λ basis t. c.in_ok-take_in.ensures.ok basis i.0 (i.3 basis t),
    )
