use Rattle.std.proofs.Common.{◌≡◌, sym, subst, ◌∙◌, arith}
use Rattle.striped_map.specs.declared.keep.Keep.TheVariants.{Entries}
use Rattle.striped_map.specs.Hosts.{MergesAtMost}
use Rattle.striped_map.specs.Seats.{keep_of, known}
use Rattle.striped_map.proofs.Collecting.{one_more, steady}
use Rattle.striped_map.proofs.host.Host.collect.Goals as goal

pub loop-number-preserved : goal.loop-number-preserved
loop-number-preserved c = let a = c.args.self.now in let inv = c.loop-number.invariant in let me = c.loop-number.self in let next = c.collect_one.new.self in let number = c.loop-number.number in
    let keep : keep_of a.map.value ≡ Entries = sym a.alike ∙ a.hand.seat.moded ∙ c.in-Entries.is in
    let merges : MergesAtMost a.map.value number (known me.hand.seat) (known next.hand.seat) = subst (λ m. MergesAtMost m.value number (known me.hand.seat) (known next.hand.seat)) inv.map c.collect_one.ensures.merges in
    let same = steady a.map.value number (known me.hand.seat) (known next.hand.seat) merges in
    let low = c.loop-number-test.true in let end = c.requires in let some = inv.some in record {
      map = c.collect_one.ensures.map ∙ inv.map;
      collects = one_more a.map.value (known a.hand.seat) (known me.hand.seat) (known next.hand.seat) number keep some (omega (arith, low, end)) inv.collects merges;
      numbers = same.0 ∙ inv.numbers;
      seen = same.1 ∙ inv.seen;
      some = omega (arith, some);
    }
