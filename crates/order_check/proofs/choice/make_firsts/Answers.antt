use Rattle.std.proofs.Common.{◌+◌, ◌<◌, ◌≤◌, arith, get_or, length, not, sym, ap, ◌∙◌, subst}
use Rattle.std.specs.HashMap.{get as told_at}
use Rattle.std.specs.Option.{option_eq}
use Rattle.std.specs.Prelude.{nat_eq}
use Rattle.std.proofs.lemmas.Bool.{false≢true, not-false}
use Rattle.std.proofs.lemmas.List.{take_all}
use Rattle.txn_trace.proofs.Now.{same_option, same_is}
use Rattle.order_check.specs.Joined.{PlacedAt}
use Rattle.order_check.specs.Tables.{DoesWrite, Knows, version_eq}
use Rattle.order_check.proofs.Choosing.{IsFirstOf, firsts_more, firsts_same}
use Rattle.order_check.proofs.Noting.{no_access}
use Rattle.order_check.proofs.choice.make_firsts.Goals as goal
use Rattle.order_check.proofs.choice.make_firsts.Goals.{then-ne+in_ok-note_first, else-ne}

pub loop-index-preserved : goal.loop-index-preserved
loop-index-preserved c =
    let below : c.loop-index.index < length c.args.accesses.now = omega arith in
    let x = get_or c.args.accesses.now c.loop-index.index no_access in
    elim c.if-ne.branch [
      | then-ne+in_ok-note_first w ↦
          subst (λ m. IsFirstOf c.args.accesses.now (c.loop-index.index + 1) m) (sym w.firsts-is)
          (firsts_more c.args.accesses.now c.loop-index.index c.loop-index.firsts w.note_first.new.firsts below (λ same. false≢true (sym (ap not (same_is x.need x.left same)) ∙ sym c.ne.ensures ∙ w.if-ne.true)) w.in_ok-note_first.ensures c.loop-index.invariant)
      | else-ne w ↦
          subst (λ m. IsFirstOf c.args.accesses.now (c.loop-index.index + 1) m) (sym w.firsts-is)
          (firsts_same c.args.accesses.now c.loop-index.index c.loop-index.firsts below (same_option x.need x.left (not-false (option_eq nat_eq x.need x.left) (sym c.ne.ensures ∙ w.if-ne.false))) c.loop-index.invariant)
    ]

pub returns : goal.returns
returns c q =
    let end : length c.args.accesses.now ≤ c.loop-index.index = omega arith in
    subst (λ xs. Knows (PlacedAt (DoesWrite q) c.args.accesses.now) (DoesWrite q) xs (told_at version_eq c.loop-index.firsts q)) (take_all c.loop-index.index c.args.accesses.now end) (c.loop-index.invariant q)
