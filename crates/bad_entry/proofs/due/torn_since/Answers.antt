use Rattle.std.proofs.Common.{◌+◌, take, subst, sym, arith}
use Rattle.serial_check.specs.Fed.{IsFed}
use Rattle.bad_entry.proofs.Fronts.{serial_take}
use Rattle.bad_entry.proofs.Steps.{next_take}
use Rattle.bad_entry.proofs.Torn.{IsTornBefore, at_end, none_yet, turn}
use Rattle.bad_entry.proofs.due.torn_since.Goals as goal

pub loop-index-init : goal.loop-index-init
loop-index-init c = record { few = omega arith; fed = c.in_ok-checker.ensures; since = λ serial. none_yet c.args.entries.now c.args.caller }

pub loop-index-preserved : goal.loop-index-preserved
loop-index-preserved c =
    let i = c.loop-index.index in
    let h = c.args.entries.now in
    let e = c.entry-entry.result in
    let item = c.index-entries-index.result in
    let longer = next_take i h e item c.loop-index-test.true c.entry-entry.ensures c.index-entries-index.is in
    let fed = subst (λ es. IsFed es c.feed.new.self) (sym longer) (c.in_ok-feed.ensures.ok (take i h) c.loop-index.invariant.fed) in
    record {
      few = omega arith;
      fed = fed;
      since = λ serial.
          subst (IsTornBefore h c.args.caller (i + 1)) (sym c.since_after-since.ensures)
          (turn h c.args.caller i c.is_torn.result c.loop-index.since (c.loop-index.invariant.since serial)
          (λ torn t in_t going. c.is_torn.ensures.torn torn (take (i + 1) h) t fed (serial_take (i + 1) h serial) in_t going)
          (λ whole t in_t going. c.is_torn.ensures.whole whole (take (i + 1) h) t fed (serial_take (i + 1) h serial) in_t going));
    }

pub returns : goal.returns
returns c serial =
    at_end c.args.entries.now c.args.caller c.loop-index.index c.loop-index.since c.loop-index.invariant.few c.loop-index-test.false (c.loop-index.invariant.since serial)
