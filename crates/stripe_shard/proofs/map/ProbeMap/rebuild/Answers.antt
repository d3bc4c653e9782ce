use Rattle.std.proofs.Common.{◌≡◌, length, arith, ap}
use Rattle.stripe_shard.specs.MapAt.{MapAt}
use Rattle.stripe_shard.specs.Slots.{pairs_of}
use Rattle.stripe_shard.proofs.Lookups.{length-pairs_of}
use Rattle.stripe_shard.proofs.map.ProbeMap.rebuild.Goals as goal

pub put_all-requires-clause-room : goal.put_all-requires-clause-room
put_all-requires-clause-room c =
    let all : length (pairs_of c.deref.result.now) ≡ length (pairs_of c.self.inside.slots.items) = ap (λ l. length (pairs_of l)) c.deref.ensures.value in
    let count = length-pairs_of c.self.inside.slots.items in
    let len = c.self.invariant.len_is in
    let keys = c.in-Some.ensures in
    let room = c.in_ok-later.ensures.room in
    omega arith

pub returns-clause-room : goal.returns-clause-room
returns-clause-room c =
    let all : length (pairs_of c.deref.result.now) ≡ length (pairs_of c.self.inside.slots.items) = ap (λ l. length (pairs_of l)) c.deref.ensures.value in
    let count = length-pairs_of c.self.inside.slots.items in
    let len = c.self.invariant.len_is in
    let keys = c.in-Some.ensures in
    let room = c.in_ok-later.ensures.room in
    let left = c.put_all.ensures.room in
    let spare : c.drop.inside.room ≡ c.put_all.new.map.spare = ap (λ (p : MapAt). p.spare) c.drop.view_is in
    omega arith
