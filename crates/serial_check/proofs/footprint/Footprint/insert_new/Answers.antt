use Rattle.std.proofs.Common.{◌≡◌, map, rules, refl, Some, None}
use Rattle.std.specs.Ordering.{nat_cmp}
use Rattle.std.specs.BTreeMap.{get as value_at}
use Rattle.std.specs.Map.Iter.{deref_pair}
use Rattle.std.proofs.lemmas.Map.Iter.{iter_end}
use Rattle.serial_check.specs.Kept.{cell_of}
use Rattle.serial_check.proofs.Loops.{done_push, done_same, has_room, roomy, item_found, filled-put, filled-none, filled-some, filled}
use Rattle.serial_check.proofs.footprint.Footprint.insert_new.Goals as goal

pub loop-key-preserved-in_ok-insert : goal.loop-key-preserved-in_ok-insert
loop-key-preserved-in_ok-insert c =
    let there : cell_of c.args.self.now c.in-Some.key.now ≡ Some c.in-Some.cell.now =
    item_found c.args.self.now c.loop-key.yielded c.into_iter-key-iterator.result c.loop-key.key-iterator c.next.new.self c.next.result c.in-Some.key c.in-Some.cell c.into_iter-key-iterator.ensures.into_iter_gives.0 c.into_iter-key-iterator.ensures.into_iter_gives.6 c.loop-key.yielded_by c.in-Some.is c.next.ensures.steps in
    let none : c.in-Some.cell.now.need ≡ None = search rules in
    done_push filled c.args.values.now c.args.self.now c.loop-key.yielded c.in-Some.key c.in-Some.cell there c.loop-key.values c.insert.new.self c.loop-key.invariant (Some c.in-Some-now.value) c.in_ok-insert.ensures.updates.0
    (filled-put (value_at nat_cmp c.args.values.now c.in-Some.key.now) c.in-Some.cell.now c.in-Some-now.value none c.in-Some-now.is)

pub loop-key-preserved-in_default : goal.loop-key-preserved-in_default
loop-key-preserved-in_default c =
    let there : cell_of c.args.self.now c.in-Some.key.now ≡ Some c.in-Some.cell.now =
    item_found c.args.self.now c.loop-key.yielded c.into_iter-key-iterator.result c.loop-key.key-iterator c.next.new.self c.next.result c.in-Some.key c.in-Some.cell c.into_iter-key-iterator.ensures.into_iter_gives.0 c.into_iter-key-iterator.ensures.into_iter_gives.6 c.loop-key.yielded_by c.in-Some.is c.next.ensures.steps in
    let none : c.in-Some.cell.now.need ≡ None = search rules in
    done_same filled c.args.values.now c.args.self.now c.loop-key.yielded c.in-Some.key c.in-Some.cell there c.loop-key.values c.loop-key.values c.loop-key.invariant (λ q. refl)
    (filled-none (value_at nat_cmp c.args.values.now c.in-Some.key.now) c.in-Some.cell.now none c.in_default.is)

pub loop-key-preserved : goal.loop-key-preserved
loop-key-preserved c =
    let there : cell_of c.args.self.now c.in-Some.key.now ≡ Some c.in-Some.cell.now =
    item_found c.args.self.now c.loop-key.yielded c.into_iter-key-iterator.result c.loop-key.key-iterator c.next.new.self c.next.result c.in-Some.key c.in-Some.cell c.into_iter-key-iterator.ensures.into_iter_gives.0 c.into_iter-key-iterator.ensures.into_iter_gives.6 c.loop-key.yielded_by c.in-Some.is c.next.ensures.steps in
    done_same filled c.args.values.now c.args.self.now c.loop-key.yielded c.in-Some.key c.in-Some.cell there c.loop-key.values c.loop-key.values c.loop-key.invariant (λ q. refl)
    (filled-some (value_at nat_cmp c.args.values.now c.in-Some.key.now) c.in-Some.cell.now (λ none. search (rules, none)))

pub returns-clause-ok : goal.returns-clause-ok
returns-clause-ok c =
    let all : map deref_pair c.loop-key.yielded ≡ c.args.self.now.cells.entries = search (rules, iter_end) in
    has_room c.args.values.now c.args.self.now c.loop-key.yielded c.loop-key.values c.requires c.loop-key.invariant all

pub returns-clause-same : goal.returns-clause-same
returns-clause-same c = roomy c.args.values.now c.args.self.now c.loop-key.yielded c.loop-key.values c.loop-key.invariant
