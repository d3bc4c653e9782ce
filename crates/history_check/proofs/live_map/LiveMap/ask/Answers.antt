use Rattle.std.proofs.Common.{refl}
use Rattle.std.proofs.lemmas.Bool.{false≢true}
use Rattle.txn_words.specs.declared.entry.Entry.TheVariants.{Asked}
use Rattle.history_check.proofs.EntryKinds.{next-asked}
use Rattle.history_check.proofs.Holding.{asked-granted, asked-refused, granted}
use Rattle.history_check.proofs.CallerTable.{stance_there}
use Rattle.history_check.proofs.Showing.{fine, followed}
use Rattle.history_check.proofs.live_map.LiveMap.ask.Goals as goal

pub returns-in-Granted : goal.returns-in-Granted
returns-in-Granted c callers holder stripes h legal entered shows shaped answered =
    let live = c.args.self.now in
    let e = Asked c.args.caller c.args.op in
    let stance = stance_there h e shaped in
    let locked = asked-granted stripes h legal live shows c.args.caller c.args.op c.key.result c.key.ensures c.lock.new.self c.in-Granted.ensures in
    followed stripes h legal live shows e shaped answered _ _ _ _ _ _ locked
    (next-asked stripes h legal c.args.caller stance.0 stance.1 c.args.op (fine stripes h legal live shows e shaped answered locked)) refl refl shows.values
    (granted stripes h legal live shows c.args.caller c.args.op c.key.result c.key.ensures c.lock.new.self c.in-Granted.ensures)

pub returns-in-Busy : goal.returns-in-Busy
returns-in-Busy c callers holder stripes h legal entered shows shaped answered = record {
  locked = asked-refused stripes h legal c.args.self.now shows c.args.caller c.args.op c.key.result c.key.ensures c.in-Busy.field-0 c.lock.new.self c.in-Busy.ensures;
  shows = λ r. absurd (false≢true r);
}
