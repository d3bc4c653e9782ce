use Rattle.std.proofs.Common.{◌≡◌, ◌<◌, ◌∷◌, ◌++◌, [], Err, length, rules, refl, sym, ◌∙◌, arith}
use Rattle.striped_map.proofs.Ran.{does_next, does_to_miss, does_until, lies_next}
use Rattle.striped_map.proofs.caller.Caller.do_all.Goals as goal

pub returns-in_err-reply-clause-does : goal.returns-in_err-reply-clause-does
returns-in_err-reply-clause-does g c =
    let l = c.loop-place in
    let ops = g.O.Operations.ops_of c.args.ops.now in
    let told = l.invariant.0 in
    let is : c.from_residual.result ≡ Err c.in_err-reply.field-0.0 = search rules in
    rw is (told, rw l.invariant.3 l.invariant.4, does_until c.args.strict ops l.place _ told c.args.self.now l.self c.operate_by_kind.new.self c.in_err-reply.field-0.0 c.at-op.ensures (sym l.invariant.4.count) l.invariant.5 c.in_err-reply.ensures.does.err)

pub returns-then-is_miss-clause-does : goal.returns-then-is_miss-clause-does
returns-then-is_miss-clause-does g c =
    let l = c.loop-place in
    let ops = g.O.Operations.ops_of c.args.ops.now in
    let told = l.invariant.0 in
    let reply = c.in_ok-reply.reply in
    let below : l.place < length c.args.replies.now = (let room = c.requires.room in let test = c.loop-place-test.true in search (rules, arith)) in
    let all = told ++ reply ∷ [] in
    let lie = lies_next g.R.ReplyForm.form told reply c.args.replies.now l.replies l.place below l.invariant.4 in
    (all, rw c.of.ensures lie, does_to_miss c.args.strict ops l.place _ told all reply c.args.self.now l.self c.operate_by_kind.new.self c.at-op.ensures (sym l.invariant.4.count) refl l.invariant.5 c.in_ok-reply.ensures.does.ok (sym c.is_miss.ensures ∙ c.if-is_miss.true))

pub loop-place-preserved : goal.loop-place-preserved
loop-place-preserved g c =
    let l = c.loop-place in
    let ops = g.O.Operations.ops_of c.args.ops.now in
    let told = l.invariant.0 in
    let reply = c.in_ok-reply.reply in
    let below : l.place < length c.args.replies.now = (let room = c.requires.room in let test = c.loop-place-test.true in search (rules, arith)) in
    let lie = lies_next g.R.ReplyForm.form told reply c.args.replies.now l.replies l.place below l.invariant.4 in
    (told ++ reply ∷ [], c.operate_by_kind.ensures.map ∙ l.invariant.1, (λ was. (c.in_ok-reply.ensures.does.stays).1), refl, rw c.of.ensures lie, does_next c.args.strict ops l.place _ told reply c.args.self.now l.self c.operate_by_kind.new.self c.at-op.ensures l.invariant.5 c.in_ok-reply.ensures.does.ok (sym c.is_miss.ensures ∙ c.if-is_miss.false))
