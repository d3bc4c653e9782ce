use Rattle.std.proofs.Common.{◌≡◌, ℕ, ◌+◌, ◌%◌, ◌<◌, ◌≤◌, List, Some, refl, sym, ap, subst, ◌∙◌, inl, inr, arith, get_or}
use Rattle.std.specs.Prelude.{slice_get}
use Rattle.std.proofs.Math.Nat.{add-mod_right}
use Rattle.std.proofs.lemmas.Bool.{cases_order}
use Rattle.std.proofs.lemmas.Option.{get_or_from_slice_get, slice_get_past}
use Rattle.txn_words.specs.declared.action.Action.{Action}
use Rattle.txn_words.specs.declared.entry.Entry.{Entry}
use Rattle.txn_trace.specs.Plays.{IsPlayed}
use Rattle.script_worker.proofs.Strides.{stride}
use Rattle.script_worker.proofs.Searching.{not_played, past_all}
use Rattle.script_worker.proofs.way.Way.first_played.Goals as goal

pub loop-number-preserved : goal.loop-number-preserved
loop-number-preserved c =
    let inv = c.loop-number.invariant in
    let low = inv.0 in (
      omega arith,
      add-mod_right c.loop-number.number c.args.work.now.workers ∙ inv.1,
      not_played c.args.work.now.workers c.args.work.now.scripts.now c.args.self.now.part.items c.args.self.now.next c.loop-number.number c.actions.result.now c.index-work-number.result c.deref.result.now
          c.actions.ensures c.deref.ensures.value inv.1 (c.plays.ensures.no c.if-plays.false) inv.2,
    )

pub returns : goal.returns
returns c =
    let inv = c.loop-number.invariant in
    record {
      from = inv.0;
      mine = inv.1;
      passed = inv.2;
      plays = λ script there. absurd (past_all c.args.work.now.scripts.now c.loop-number.number script c.loop-number-test.false there);
    }
