use Rattle.std.proofs.Common.{◌≡◌, map, rules, refl, sym, ap, ◌∙◌, Some, None, IsSome, is_some}
use Rattle.std.specs.Map.Iter.{deref_pair}
use Rattle.std.proofs.lemmas.Map.Iter.{iter_end}
use Rattle.std.proofs.lemmas.Bool.{false≢true}
use Rattle.serial_check.specs.Footprints.{value_seen}
use Rattle.serial_check.specs.Kept.{cell_of}
use Rattle.serial_check.proofs.Loops.{done_push, done_same, done_all, item_found, still_there, not_rewritten}
use Rattle.serial_check.proofs.footprint.Footprint.rewrite.Goals as goal

pub loop-key-preserved-in-Some-get_mut : goal.loop-key-preserved-in-Some-get_mut
loop-key-preserved-in-Some-get_mut c =
    let there : cell_of c.args.self.now c.in-Some.key.now ≡ Some c.in-Some.cell.now =
    item_found c.args.self.now c.loop-key.yielded c.into_iter-key-iterator.result c.loop-key.key-iterator c.next.new.self c.next.result c.in-Some.key c.in-Some.cell c.into_iter-key-iterator.ensures.into_iter_gives.0 c.into_iter-key-iterator.ensures.into_iter_gives.6 c.loop-key.yielded_by c.in-Some.is c.next.ensures.steps in
    done_push value_seen c.args.values.now c.args.self.now c.loop-key.yielded c.in-Some.key c.in-Some.cell there c.loop-key.values (c.get_mut.follows.lender c.in-Some-now.now) c.loop-key.invariant (Some c.in-Some-now.now)
    (((c.get_mut.follows.holds c.in-Some-now.now).3 (search rules)).0) (sym c.in-Some-now.is)

pub loop-key-preserved-in_default : goal.loop-key-preserved-in_default
loop-key-preserved-in_default c =
    let there : cell_of c.args.self.now c.in-Some.key.now ≡ Some c.in-Some.cell.now =
    item_found c.args.self.now c.loop-key.yielded c.into_iter-key-iterator.result c.loop-key.key-iterator c.next.new.self c.next.result c.in-Some.key c.in-Some.cell c.into_iter-key-iterator.ensures.into_iter_gives.0 c.into_iter-key-iterator.ensures.into_iter_gives.6 c.loop-key.yielded_by c.in-Some.is c.next.ensures.steps in
    let some : IsSome c.in-Some.cell.now.now = ap is_some c.in-Some-now.is in
    let still = still_there c.args.values.now c.args.self.now c.loop-key.yielded c.loop-key.values c.in-Some.key.now c.in-Some.cell.now there (sym c.is_rewritten.ensures ∙ c.if-is_rewritten.true) some c.requires c.loop-key.invariant in
    absurd (false≢true (ap is_some c.in_default.ensures.value ∙ still))

pub loop-key-preserved-in-None-now : goal.loop-key-preserved-in-None-now
loop-key-preserved-in-None-now c =
    let there : cell_of c.args.self.now c.in-Some.key.now ≡ Some c.in-Some.cell.now =
    item_found c.args.self.now c.loop-key.yielded c.into_iter-key-iterator.result c.loop-key.key-iterator c.next.new.self c.next.result c.in-Some.key c.in-Some.cell c.into_iter-key-iterator.ensures.into_iter_gives.0 c.into_iter-key-iterator.ensures.into_iter_gives.6 c.loop-key.yielded_by c.in-Some.is c.next.ensures.steps in
    done_push value_seen c.args.values.now c.args.self.now c.loop-key.yielded c.in-Some.key c.in-Some.cell there c.loop-key.values c.remove.new.self c.loop-key.invariant None c.remove.ensures.updates.0
    (search rules)

pub loop-key-preserved : goal.loop-key-preserved
loop-key-preserved c =
    let there : cell_of c.args.self.now c.in-Some.key.now ≡ Some c.in-Some.cell.now =
    item_found c.args.self.now c.loop-key.yielded c.into_iter-key-iterator.result c.loop-key.key-iterator c.next.new.self c.next.result c.in-Some.key c.in-Some.cell c.into_iter-key-iterator.ensures.into_iter_gives.0 c.into_iter-key-iterator.ensures.into_iter_gives.6 c.loop-key.yielded_by c.in-Some.is c.next.ensures.steps in
    done_same value_seen c.args.values.now c.args.self.now c.loop-key.yielded c.in-Some.key c.in-Some.cell there c.loop-key.values c.loop-key.values c.loop-key.invariant (λ q. refl)
    (not_rewritten c.in-Some.cell.now (sym c.is_rewritten.ensures ∙ c.if-is_rewritten.false) ∙ sym (c.requires c.in-Some.key.now c.in-Some.cell.now there))

pub returns : goal.returns
returns c =
    let all : map deref_pair c.loop-key.yielded ≡ c.args.self.now.cells.entries = search (rules, iter_end) in
    done_all value_seen c.args.values.now c.args.self.now c.loop-key.yielded c.loop-key.values c.loop-key.invariant all (λ v. refl)
