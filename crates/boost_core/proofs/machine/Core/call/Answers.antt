use Rattle.std.proofs.Common.{◌≡◌, ◌<◌, ◌++◌, inr, List, refl, sym, ap, subst, ◌∙◌, arith, vec_len, vec_capacity, sum_by, option_to_list}
use Rattle.boost_core.proofs.Vocabulary.{Entry, claim_in, step_by, owed_of, Goes, reach, reserved_by, world_of, state_of, World, reserved, NoMemory}
use Rattle.boost_core.proofs.Numbers.{noted_then, began_bound, committed_bound, when_ok, when_err}
use Rattle.boost_core.proofs.SideRefusals.{free_at}
use Rattle.boost_core.proofs.Moves.{none_of}
use Rattle.boost_core.proofs.Starting.{some_stripe, few_callers}
use Rattle.boost_core.proofs.OneCaller.{world_after, stance_as}
use Rattle.boost_core.proofs.NodeSteps.{lists_by_of, refused_lists, does}
use Rattle.boost_core.proofs.GapSteps.{cursors_of, does_cursors}
use Rattle.boost_core.proofs.Called.{called, takes, placed_cursor, changes_there}
use Rattle.boost_core.proofs.Outcomes.{CalledBy, claims_of, goes_of, goes_lacking, goes_refused, fresh_or_lock, reserved_least, reserved_few, no_memory, can_add, called_caller, called_tells, called_owes, called_room, called_move}
use Rattle.txn_words.specs.declared.answer.Answer.TheVariants as answers
use Rattle.boost_core.proofs.machine.Core.call.Goals as goal

pub overflow_add-self-inside : goal.overflow_add-self-inside
overflow_add-self-inside c = omega (arith, reserved_least c.claim.result c.by-whole.result, reserved_few c.by-whole.result, c.entry_room-room.ensures, c.self.invariant.owes, c.self.invariant.room, c.self.inside.history.ok, c.self.inside.history.small)

pub answer-answer-requires : goal.answer-answer-requires
answer-answer-requires c =
    let free = free_at _ _ c.self.invariant.tells c.self.view_is c.args.caller c.args.step _ c.refusal.ensures c.in_default.is c.index_mut-session.result.now c.index_mut-session.ensures.value in
    rw (c.from-stripes.ensures ∙ c.stripes.ensures.value)
    (takes _ c.self.invariant.tells c.args.caller c.index_mut-session.result.now free.1 c.args.step free.0 (few_callers c.self.inside.limits.callers c.self.inside.limits.stripes c.self.inside.limits.buckets c.stripes.ensures.limits) (some_stripe c.self.inside.limits.callers c.self.inside.limits.stripes c.self.inside.limits.buckets c.stripes.ensures.limits)
    (omega (arith, began_bound _ c.self.invariant.tells, c.self.inside.history.ok, c.self.inside.history.small)) (omega (arith, committed_bound _ c.self.invariant.tells, c.self.inside.history.ok, c.self.inside.history.small)))

pub add-self-inside-requires : goal.add-self-inside-requires
add-self-inside-requires c =
    let free = free_at _ _ c.self.invariant.tells c.self.view_is c.args.caller c.args.step _ c.refusal.ensures c.in_default.is c.index_mut-session.result.now c.index_mut-session.ensures.value in
    let whole = step_by c.args.caller c.args.step in
    let is : CalledBy (claim_in c.args.step) (world_of c.self.inside.limits c.self.inside.history c.self.inside.counts c.self.inside.table c.self.inside.sessions c.self.inside.locks c.self.inside.placed c.self.inside.words) c.args.caller c.index_mut-session.result.now whole c.answer-answer.result c.answer-answer.new.self c.answer-answer.new.table c.answer-answer.new.locks =
    called _ c.self.invariant.tells c.index_mut-session.result.now (reach c.answer-answer.new.self c.answer-answer.new.table c.answer-answer.new.locks) c.answer-answer.ensures.placed c.args.caller c.args.step free.1 free.0 (some_stripe c.self.inside.limits.callers c.self.inside.limits.stripes c.self.inside.limits.buckets c.stripes.ensures.limits) (claims_of (claim_in c.args.step) _ _ whole c.self.view_is c.requires) c.answer-answer.result (rw (c.from-stripes.ensures ∙ c.stripes.ensures.value) at c.answer-answer.ensures.does) in
    let entry = rw c.by-whole.ensures at c.entry_of-entry.ensures in
    let asked = rw (c.claim.ensures, c.by-whole.ensures) at c.entry_room-room.ensures in
    let room = when_ok c.reserve.result c.if-is_err.ensures.value c.reserve.ensures.ok in
    can_add _ c.self.invariant.tells c.args.caller c.index_mut-session.result.now c.answer-answer.new.self free.1 whole c.answer-answer.result c.answer-answer.new.table c.answer-answer.new.locks is c.entry_of-entry.result entry (vec_len c.reserve.new.self) (vec_capacity c.reserve.new.self) c.self.inside.owed c.self.invariant.owes (omega (arith, room, asked)) (omega (arith, c.reserve.new.self.ok, c.reserve.new.self.small)) (few_callers c.self.inside.limits.callers c.self.inside.limits.stripes c.self.inside.limits.buckets c.stripes.ensures.limits)

pub invariant_of-self-2 : goal.invariant_of-self-2
invariant_of-self-2 c =
    let free = free_at _ _ c.self.invariant.tells c.self.view_is c.args.caller c.args.step _ c.refusal.ensures c.in_default.is c.index_mut-session.result.now c.index_mut-session.ensures.value in
    let whole = step_by c.args.caller c.args.step in
    let is : CalledBy (claim_in c.args.step) (world_of c.self.inside.limits c.self.inside.history c.self.inside.counts c.self.inside.table c.self.inside.sessions c.self.inside.locks c.self.inside.placed c.self.inside.words) c.args.caller c.index_mut-session.result.now whole c.answer-answer.result c.answer-answer.new.self c.answer-answer.new.table c.answer-answer.new.locks =
    called _ c.self.invariant.tells c.index_mut-session.result.now (reach c.answer-answer.new.self c.answer-answer.new.table c.answer-answer.new.locks) c.answer-answer.ensures.placed c.args.caller c.args.step free.1 free.0 (some_stripe c.self.inside.limits.callers c.self.inside.limits.stripes c.self.inside.limits.buckets c.stripes.ensures.limits) (claims_of (claim_in c.args.step) _ _ whole c.self.view_is c.requires) c.answer-answer.result (rw (c.from-stripes.ensures ∙ c.stripes.ensures.value) at c.answer-answer.ensures.does) in
    let entry = rw c.by-whole.ensures at c.entry_of-entry.ensures in
    let asked = rw (c.claim.ensures, c.by-whole.ensures) at c.entry_room-room.ensures in
    let room = when_ok c.reserve.result c.if-is_err.ensures.value c.reserve.ensures.ok in
    let owes : sum_by owed_of c.self.inside.sessions.items ≡ c.self.inside.owed = sym c.self.invariant.owes in
    let fits = called_room _ c.self.invariant.tells c.args.caller c.index_mut-session.result.now c.answer-answer.new.self free.1 whole c.answer-answer.result c.answer-answer.new.table c.answer-answer.new.locks is c.add-self-inside.new.stance c.entry_of-entry.result entry c.add-self-inside.ensures.stance (vec_len c.reserve.new.self) (vec_capacity c.reserve.new.self) (omega (arith, room, asked)) in
    let pushed = c.add-self-inside.ensures.items ∙ ap (λ (es : List Entry). es ++ option_to_list c.entry_of-entry.result) c.reserve.ensures.items in
    record {
      tells = rw (c.after-self-inside.ensures, c.placed_after-self-inside.ensures, c.by-whole.ensures)
          (called_tells _ c.self.invariant.tells c.args.caller c.index_mut-session.result.now c.answer-answer.new.self free.1 whole c.answer-answer.result c.answer-answer.new.table c.answer-answer.new.locks is c.add-self-inside.new.stance c.entry_of-entry.result entry c.add-self-inside.ensures.stance c.add-self-inside.new.history.items (c.add-self-inside.ensures.items ∙ ap (λ (es : List Entry). es ++ option_to_list c.entry_of-entry.result) c.reserve.ensures.items));
      owes = called_owes _ c.self.invariant.tells c.args.caller c.index_mut-session.result.now c.answer-answer.new.self free.1 whole c.answer-answer.result c.answer-answer.new.table c.answer-answer.new.locks is c.add-self-inside.new.stance c.entry_of-entry.result entry c.self.inside.owed c.add-self-inside.result c.self.invariant.owes c.add-self-inside.ensures.owed;
      room = omega (arith, fits, c.add-self-inside.ensures.len, c.add-self-inside.ensures.capacity);
      noted = noted_then c.self.inside.limits.callers c.self.inside.history.items c.add-self-inside.new.history.items c.self.inside.begun.items c.note_begun.new.begun.items c.entry_of-entry.result c.self.invariant.noted pushed c.note_begun.ensures
          (called_caller _ c.self.invariant.tells c.args.caller c.index_mut-session.result.now c.answer-answer.new.self free.1 whole c.answer-answer.result c.answer-answer.new.table c.answer-answer.new.locks is c.entry_of-entry.result entry);
    }

pub returns-clause-moves : goal.returns-clause-moves
returns-clause-moves c =
    let free = free_at _ _ c.self.invariant.tells c.self.view_is c.args.caller c.args.step _ c.refusal.ensures c.in_default.is c.index_mut-session.result.now c.index_mut-session.ensures.value in
    let whole = step_by c.args.caller c.args.step in
    let is : CalledBy (claim_in c.args.step) (world_of c.self.inside.limits c.self.inside.history c.self.inside.counts c.self.inside.table c.self.inside.sessions c.self.inside.locks c.self.inside.placed c.self.inside.words) c.args.caller c.index_mut-session.result.now whole c.answer-answer.result c.answer-answer.new.self c.answer-answer.new.table c.answer-answer.new.locks =
    called _ c.self.invariant.tells c.index_mut-session.result.now (reach c.answer-answer.new.self c.answer-answer.new.table c.answer-answer.new.locks) c.answer-answer.ensures.placed c.args.caller c.args.step free.1 free.0 (some_stripe c.self.inside.limits.callers c.self.inside.limits.stripes c.self.inside.limits.buckets c.stripes.ensures.limits) (claims_of (claim_in c.args.step) _ _ whole c.self.view_is c.requires) c.answer-answer.result (rw (c.from-stripes.ensures ∙ c.stripes.ensures.value) at c.answer-answer.ensures.does) in
    let entry = rw c.by-whole.ensures at c.entry_of-entry.ensures in
    rw (c.placed_after-self-inside.ensures, c.by-whole.ensures)
    (goes_of (claim_in c.args.step) _ _ _ _ _ c.self.view_is (called_move _ c.self.invariant.tells c.args.caller c.index_mut-session.result.now c.answer-answer.new.self free.1 whole c.answer-answer.result c.answer-answer.new.table c.answer-answer.new.locks is c.add-self-inside.new.stance c.entry_of-entry.result entry c.add-self-inside.new.history.items (c.add-self-inside.ensures.items ∙ ap (λ (es : List Entry). es ++ option_to_list c.entry_of-entry.result) c.reserve.ensures.items)))

pub returns-clause-lists : goal.returns-clause-lists
returns-clause-lists c =
    let free = free_at _ _ c.self.invariant.tells c.self.view_is c.args.caller c.args.step _ c.refusal.ensures c.in_default.is c.index_mut-session.result.now c.index_mut-session.ensures.value in
    let w : World = world_of c.self.inside.limits c.self.inside.history c.self.inside.counts c.self.inside.table c.self.inside.sessions c.self.inside.locks c.self.inside.placed c.self.inside.words in
    let now : World = world_after w c.args.caller (stance_as c.answer-answer.new.self c.add-self-inside.new.stance) c.add-self-inside.new.history.items c.after-self-inside.result c.answer-answer.new.table c.answer-answer.new.locks c.placed_after-self-inside.result in
    lists_by_of (claim_in c.args.step) _ _ _ _ _ c.self.view_is
    (does w c.self.invariant.tells c.index_mut-session.result.now now c.answer-answer.new.self c.answer-answer.new.locks
    c.answer-answer.ensures.rises c.size-size.ensures.stored c.from-stripes.result c.args.caller free.1 c.args.step c.answer-answer.result c.answer-answer.ensures.does)

pub returns-clause-cursors : goal.returns-clause-cursors
returns-clause-cursors c =
    let free = free_at _ _ c.self.invariant.tells c.self.view_is c.args.caller c.args.step _ c.refusal.ensures c.in_default.is c.index_mut-session.result.now c.index_mut-session.ensures.value in
    let w : World = world_of c.self.inside.limits c.self.inside.history c.self.inside.counts c.self.inside.table c.self.inside.sessions c.self.inside.locks c.self.inside.placed c.self.inside.words in
    let now : World = world_after w c.args.caller (stance_as c.answer-answer.new.self c.add-self-inside.new.stance) c.add-self-inside.new.history.items c.after-self-inside.result c.answer-answer.new.table c.answer-answer.new.locks c.placed_after-self-inside.result in
    cursors_of _ _ _ _ _ c.self.view_is (does_cursors w c.self.invariant.tells c.args.caller c.index_mut-session.result.now free.1 now c.answer-answer.new.self (stance_as c.answer-answer.new.self c.add-self-inside.new.stance) refl refl (c.answer-answer.ensures.placed.sound c.self.invariant.tells.sound) c.answer-answer.new.locks c.args.step c.from-stripes.result c.answer-answer.result c.answer-answer.ensures.does)

pub returns-clause-cursor : goal.returns-clause-cursor
returns-clause-cursor c = λ is_placed.
    let free = free_at _ _ c.self.invariant.tells c.self.view_is c.args.caller c.args.step _ c.refusal.ensures c.in_default.is c.index_mut-session.result.now c.index_mut-session.ensures.value in
    changes_there c.self.inside.sessions.items c.args.caller c.index_mut-session.result.now (stance_as c.answer-answer.new.self c.add-self-inside.new.stance) free.1
    (placed_cursor c.from-stripes.result c.self.inside.counts c.args.caller c.args.step _ c.answer-answer.result _ c.answer-answer.ensures.does is_placed)

pub returns-then-is_err-clause-moves : goal.returns-then-is_err-clause-moves
returns-then-is_err-clause-moves c =
    let whole = step_by c.args.caller c.args.step in
    let none = none_of _ _ whole _ c.self.view_is c.refusal.ensures c.in_default.is in
    let w : World = world_of c.self.inside.limits c.self.inside.history c.self.inside.counts c.self.inside.table c.self.inside.sessions c.self.inside.locks c.self.inside.placed c.self.inside.words in
    let full = when_err c.reserve.result c.if-is_err.ensures.value c.reserve.ensures.full in
    let asked = rw (c.claim.ensures, c.by-whole.ensures) at c.entry_room-room.ensures in
    let some : 0 < reserved_by (claim_in c.args.step) whole = omega (arith, full, asked, c.self.invariant.owes, c.self.invariant.room) in
    let some_more : 0 < reserved whole = omega (arith, reserved_least (claim_in c.args.step) whole, some) in
    goes_of (claim_in c.args.step) _ _ _ _ _ c.self.view_is (subst (λ (h : List Entry). Goes (claim_in c.args.step) (state_of w) whole (answers.Refused NoMemory) (state_of (record w { history = h }))) (sym c.reserve.ensures.items) (goes_lacking (claim_in c.args.step) (state_of w) whole some (no_memory (state_of w) whole none some_more)))

pub returns-then-is_err-clause-lists : goal.returns-then-is_err-clause-lists
returns-then-is_err-clause-lists c =
    let w : World = world_of c.self.inside.limits c.self.inside.history c.self.inside.counts c.self.inside.table c.self.inside.sessions c.self.inside.locks c.self.inside.placed c.self.inside.words in
    lists_by_of (claim_in c.args.step) _ _ _ _ _ c.self.view_is (refused_lists (claim_in c.args.step) (state_of w) (state_of (record w { history = c.reserve.new.self.items })) (step_by c.args.caller c.args.step) NoMemory (inr refl) (record { nodes = refl; changes = refl }) refl)

pub returns-in-Some-clause-moves : goal.returns-in-Some-clause-moves
returns-in-Some-clause-moves c = goes_refused (claim_in c.args.step) c.args.self.now (step_by c.args.caller c.args.step) c.in-Some.refusal c.requires (sym c.refusal.ensures ∙ c.in-Some.is)

pub returns-in-Some-clause-lists : goal.returns-in-Some-clause-lists
returns-in-Some-clause-lists c = refused_lists (claim_in c.args.step) c.args.self.now c.args.self.now (step_by c.args.caller c.args.step) c.in-Some.refusal (fresh_or_lock (claim_in c.args.step) c.args.self.now (step_by c.args.caller c.args.step) c.in-Some.refusal c.requires (sym c.refusal.ensures ∙ c.in-Some.is)) (record { nodes = refl; changes = refl }) refl
