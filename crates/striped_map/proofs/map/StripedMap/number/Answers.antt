use Rattle.std.proofs.Common.{◌≡◌, ◌+◌, ◌<◌, ◌≤◌, ℕ, ◌∙◌, sym, ap, subst, eqb, arith}
use mathlib.Core.Option.{none}
use prog.Atomic.{either}
use Rattle.atomic_table.specs.Table.{Allows, step}
use Rattle.striped_map.specs.Rule.{IsKept, most}
use Rattle.striped_map.specs.Seats.{keep_of}
use Rattle.striped_map.specs.Steps.{Sat, counting, granted, looked, took_number}
use Rattle.txn_words.specs.Shape.{own}
use Rattle.striped_map.proofs.MergedSeats.{looks, takes_number}
use Rattle.striped_map.proofs.map.StripedMap.number.Goals as goal

pub load-next-requires : goal.load-next-requires
load-next-requires c = let map = c.args.self.now in let s = map.sized in let is = c.callers-word.ensures in let n = map.table.shared.table_id.slots in let seat = c.args.seat.now in (
  c.requires.table,
  omega arith,
  subst (λ (i : ℕ). Allows IsKept n seat.id seat.me i (λ y. y) (looked (step n i 0 0 none) seat.me)) (omega arith) (looks n _ _ c.requires.acts),
)

pub compare_exchange-found-requires : goal.compare_exchange-found-requires
compare_exchange-found-requires c = let map = c.args.self.now in let s = map.sized in let is = c.callers-word.ensures in let n = map.table.shared.table_id.slots in
    let inv = c.loop-next.invariant in let seat = c.loop-next.seat in let next = c.loop-next.next in
    let same : seat.me.0.keep ≡ map.keep = ap (λ (m : Sat). m.0.keep) inv.looks ∙ c.requires.keep ∙ sym map.kept in
    let room : next < most seat.me.0.keep = subst (λ (k : ℕ). next < k) (c.most-most.ensures ∙ ap most (sym same)) c.loop-next-test.true in (
      inv.of,
      omega arith,
      subst (λ (i : ℕ). Allows IsKept n seat.id seat.me i (λ y. either (eqb y next) (next + 1) y) (took_number (step n i next (next + 1) none) seat.me)) (omega arith)
          (takes_number n _ seat.me next (ap (λ (m : Sat). m.0.acts) inv.looks ∙ c.requires.acts) room),
    )

pub loop-next-init : goal.loop-next-init
loop-next-init c = let map = c.args.self.now in let is = c.callers-word.ensures in let e = c.load-next.ensures in let l = e.2 (omega arith) in record {
  of = e.0 ∙ c.requires.table;
  looks = l.0;
  more = l.1;
  few = subst (λ k. c.load-next.result ≤ most k) c.requires.keep l.2;
}

pub loop-next-preserved : goal.loop-next-preserved
loop-next-preserved c = let map = c.args.self.now in let is = c.callers-word.ensures in let inv = c.loop-next.invariant in let e = c.compare_exchange-found.ensures in let l = e.2 (omega arith) in
    let miss = l.2 c.if-found-next.false in
    let was : c.loop-next.seat.me.0.made ≡ c.loop-next.next = ap (λ (m : Sat). m.0.made) inv.looks in
    let more = l.0 in let before = inv.more in
    let same : c.loop-next.seat.me.0.keep ≡ c.args.seat.now.me.0.keep = ap (λ (m : Sat). m.0.keep) inv.looks in record {
      of = e.0 ∙ inv.of;
      looks = miss.0 ∙ ap (λ (m : Sat). let p : Sat = (counting m.0 c.compare_exchange-found.result, m.1) in p) inv.looks;
      more = omega arith;
      few = subst (λ k. c.compare_exchange-found.result ≤ most k) (same ∙ c.requires.keep) miss.1;
    }

pub returns-then-found-next-clause-some : goal.returns-then-found-next-clause-some
returns-then-found-next-clause-some c = let map = c.args.self.now in let is = c.callers-word.ensures in let inv = c.loop-next.invariant in let e = c.compare_exchange-found.ensures in let l = e.2 (omega arith) in
    let found = c.compare_exchange-found.result in let hit = l.1 c.if-found-next.true in
    let before = inv.more in let equal = c.if-found-next.true in
    let room : c.loop-next.next < most (keep_of map) = subst (λ (k : ℕ). c.loop-next.next < k) (c.most-most.ensures ∙ ap most map.kept) c.loop-next-test.true in (
      omega arith,
      omega arith,
      record {
        granted_is = hit.granted_is ∙ ap (λ (m : Sat). let p : Sat = (granted m.0 found, m.1) in p) inv.looks;
        some = hit.some;
        other = λ z. hit.other (z ∙ sym (ap (λ (m : Sat). m.0.number) inv.looks));
        unused = ap (λ (m : Sat). own found m.0.seen) (sym inv.looks) ∙ hit.unused;
      },
    )

pub returns-clause-none : goal.returns-clause-none
returns-clause-none c _ = let map = c.args.self.now in let inv = c.loop-next.invariant in let few = inv.few in let over = c.loop-next-test.false in
    let most_is : c.most-most.result ≡ most (keep_of map) = c.most-most.ensures ∙ ap most map.kept in
    inv.looks ∙ ap (λ (k : ℕ). let p : Sat = (counting c.args.seat.now.me.0 k, c.args.seat.now.me.1) in p) (omega arith)
