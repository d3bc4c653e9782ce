use Rattle.std.proofs.Common.{◌≡◌, map, rules, refl, sym, Some, None}
use Rattle.std.specs.Ordering.{nat_cmp}
use Rattle.std.specs.BTreeMap.{get as value_at}
use Rattle.std.specs.Map.Iter.{deref_pair}
use Rattle.std.proofs.lemmas.Map.Iter.{iter_end}
use Rattle.serial_check.specs.Kept.{cell_of, cleared}
use Rattle.serial_check.proofs.Loops.{done_push, done_same, done_all, item_found, cleared-none, cleared-some}
use Rattle.serial_check.proofs.footprint.Footprint.remove_new.Goals as goal

pub loop-key-preserved-then-is_none : goal.loop-key-preserved-then-is_none
loop-key-preserved-then-is_none c =
    let there : cell_of c.args.self.now c.in-Some.key.now ≡ Some c.in-Some.cell.now =
    item_found c.args.self.now c.loop-key.yielded c.into_iter-key-iterator.result c.loop-key.key-iterator c.next.new.self c.next.result c.in-Some.key c.in-Some.cell c.into_iter-key-iterator.ensures.into_iter_gives.0 c.into_iter-key-iterator.ensures.into_iter_gives.6 c.loop-key.yielded_by c.in-Some.is c.next.ensures.steps in
    done_push cleared c.args.values.now c.args.self.now c.loop-key.yielded c.in-Some.key c.in-Some.cell there c.loop-key.values c.remove.new.self c.loop-key.invariant None c.remove.ensures.updates.0
    (sym (cleared-none (value_at nat_cmp c.args.values.now c.in-Some.key.now) c.in-Some.cell.now (search rules)))

pub loop-key-preserved : goal.loop-key-preserved
loop-key-preserved c =
    let there : cell_of c.args.self.now c.in-Some.key.now ≡ Some c.in-Some.cell.now =
    item_found c.args.self.now c.loop-key.yielded c.into_iter-key-iterator.result c.loop-key.key-iterator c.next.new.self c.next.result c.in-Some.key c.in-Some.cell c.into_iter-key-iterator.ensures.into_iter_gives.0 c.into_iter-key-iterator.ensures.into_iter_gives.6 c.loop-key.yielded_by c.in-Some.is c.next.ensures.steps in
    done_same cleared c.args.values.now c.args.self.now c.loop-key.yielded c.in-Some.key c.in-Some.cell there c.loop-key.values c.loop-key.values c.loop-key.invariant (λ q. refl)
    (cleared-some (value_at nat_cmp c.args.values.now c.in-Some.key.now) c.in-Some.cell.now (λ none. search (rules, none)))

pub returns : goal.returns
returns c =
    let all : map deref_pair c.loop-key.yielded ≡ c.args.self.now.cells.entries = search (rules, iter_end) in
    done_all cleared c.args.values.now c.args.self.now c.loop-key.yielded c.loop-key.values c.loop-key.invariant all (λ v. refl)
