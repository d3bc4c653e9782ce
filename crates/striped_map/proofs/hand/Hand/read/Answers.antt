use Rattle.std.proofs.Common.{inl, inr, refl, ◌≡◌, ℕ, List, Some, slice_get, sym, ap, subst, ◌∙◌, mod-lt}
use Rattle.txn_words.specs.declared.entry.Entry.{Entry}
use Rattle.txn_trace.specs.Locks.{stripe_of}
use Rattle.txn_words.specs.Map.{Map}
use Rattle.txn_trace.specs.Now.{now}
use Rattle.txn_words.proofs.Maps.{same_map}
use Rattle.txn_words.specs.declared.stop.Stop.TheVariants.{Refused}
use Rattle.striped_map.specs.Hands.{IsCut}
use Rattle.striped_map.specs.Rule.{HasEnded}
use Rattle.striped_map.specs.Seats.{known}
use Rattle.striped_map.proofs.Ends.{due_gathered, due_kept, moved_back}
use Rattle.striped_map.proofs.hand.Hand.read.Goals as goal

pub returns-in-Ok-pairs-clause-ok : goal.returns-in-Ok-pairs-clause-ok
returns-in-Ok-pairs-clause-ok c = let map = c.args.map.now in let n = map.table.shared.table_id.slots in
    let begun = c.in-Ok.ensures.begun in let done = c.in-Ok-pairs.ensures.ok in let gathers = c.gather.ensures.gathers in let sees = gathers.sees in let ended = c.leave.ensures.moves in
    let a = known c.args.self.now.seat in let v = known c.pairs.new.self.seat in let w = known c.gather.new.self.seat in
    let same : now w.seen ≡ now v.seen = same_map (now w.seen) (now v.seen) (λ key. sees.still key (c.in-Ok-pairs.ensures.all (stripe_of n key) (mod-lt key map.some))) in
    let retired : v.retired ≡ a.retired = done.1.retired_is ∙ begun.1.retired_is in
    let unchanged = due_gathered n v w c.gather.result gathers ∙ due_kept map c.begin.new.self c.pairs.new.self done.1 in
    record {
      txn = begun.0;
      during = c.begin.new.self;
      begun = begun.1;
      read = c.pairs.new.self;
      reads = done.1;
      found = c.gather.result;
      left = c.gather.new.self;
      gathers = gathers;
      all = subst (λ (rs : List (ℕ × List Entry)). (j : ℕ) (r : ℕ × List Entry) → slice_get rs j ≡ Some r → HasEnded r.0 r.1 w.seen) retired gathers.all;
      pairs_are = done.2 ∙ ap (λ (m : Map). m.rows) (sym same);
      ended = moved_back map c.gather.new.self c.leave.new.self (unchanged ∙ c.in-Ok.ensures.fresh) ended;
    }

pub returns-in-Err-Busy-clause-err : goal.returns-in-Err-Busy-clause-err
returns-in-Err-Busy-clause-err c = let begun = c.in-Ok.ensures.begun in
    (begun.0, c.begin.new.self, begun.1, subst (λ stop. IsCut c.args.map.now c.begin.new.self c.pairs.new.self stop) c.in-Err-Busy.field-0-is c.in-Err-Busy.ensures.err)

pub returns-in-Err-Refused-clause-err : goal.returns-in-Err-Refused-clause-err
returns-in-Err-Refused-clause-err c = let map = c.args.map.now in let begun = c.in-Ok.ensures.begun in
    let cut : IsCut map c.begin.new.self c.pairs.new.self (Refused c.in-Err-Refused.refusal) = subst (λ stop. IsCut map c.begin.new.self c.pairs.new.self stop) c.in-Err-Refused.field-0-is c.in-Err-Refused.ensures.err in
    let left = cut.1 in (
      left.0,
      inr (
        begun.0,
        c.begin.new.self,
        begun.1,
        c.pairs.new.self,
        left.2,
        moved_back map c.pairs.new.self c.leave-in-Err-Refused.new.self (due_kept map c.begin.new.self c.pairs.new.self left.2 ∙ c.in-Ok.ensures.fresh) c.leave-in-Err-Refused.ensures.moves,
      ),
    )

pub returns-in_default-clause-err : goal.returns-in_default-clause-err
returns-in_default-clause-err c = let e = c.in_default.ensures in (refl, inl (e.err, ap (λ z. z.me.0) e.unchanged))
