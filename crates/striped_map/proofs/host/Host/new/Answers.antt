use Rattle.std.proofs.Common.{◌≡◌, length, Option, None, [], ◌∙◌, sym, ap, subst, arith}
use Rattle.std.proofs.lemmas.List.{length-replicate}
use Rattle.striped_map.specs.Apart.{Listed}
use Rattle.striped_map.specs.declared.record.Record.{Record}
use Rattle.striped_map.specs.declared.seat.MapSeat.{MapSeat}
use Rattle.striped_map.specs.declared.view.View.{View}
use Rattle.txn_words.specs.declared.holder.Holder.TheVariants.{Begun}
use Rattle.txn_words.specs.Shape.{own}
use Rattle.txn_trace.specs.Legal.{IsLegal}
use Rattle.txn_trace.proofs.BadEntries.{legal_none}
use Rattle.striped_map.specs.Gathered.{HasRecords}
use Rattle.striped_map.specs.Rule.{view}
use Rattle.striped_map.specs.Seats.{keep_of, known}
use Rattle.striped_map.specs.Steps.{Sat}
use Rattle.striped_map.proofs.Hosting.{none_merged}
use Rattle.striped_map.proofs.HandSoundness.{at_new}
use Rattle.striped_map.proofs.host.Host.new.Goals as goal

pub invariant_of-result : goal.invariant_of-result
invariant_of-result c = let seat = c.new.result.seat in
    let same : seat.seat ≡ c.args.first = ap (λ (s : MapSeat). s.seat) c.new.ensures ∙ c.fresh.ensures in
    let first = c.requires.first in let theirs = c.requires.theirs in
    let is : known seat ≡ view (keep_of c.args.map.value) 0 first.0 [] [] = ap (λ z. z.me.0) same ∙ ap (λ (m : Sat). m.0) first.1 in
    record {
      of = ap (λ z. z.table_id) same ∙ c.requires.table;
      alike = ap (λ (v : View). v.keep) is;
      first = ap (λ (v : View). v.number) is;
      closed = at_new (known seat) (ap (λ (v : View). own v.number v.seen) is);
      idle = ap (λ (v : View). v.held) is;
      sized = λ all. (let count = theirs.2 (sym (ap (λ (v : View). v.keep) is) ∙ all) in let long = ap length theirs.1 ∙ length-replicate theirs.0 (let p : Option (Listed Record) = None in p) in let o = c.args.theirs.ok.0 in omega arith);
      recorded = λ all. subst (λ (v : View). HasRecords v.retired c.args.theirs.items) (sym is) (none_merged theirs.0 c.args.theirs.items theirs.1);
    }

pub new-requires-clause-legal : goal.new-requires-clause-legal
new-requires-clause-legal c = let first = c.requires.first in
    subst (IsLegal Begun _) (sym (ap (λ z. z.me.0.seen) c.fresh.ensures ∙ ap (λ (m : Sat). m.0.seen) first.1)) (legal_none _)
