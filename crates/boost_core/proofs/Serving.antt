-- The outcome of each step that no caller owns.
use Rattle.std.proofs.Common.{◌≡◌, ℕ, ◌*◌, ◌==◌, ◌&&◌, Bool, true, false, cond, Some, None, Result, Ok, Err, refl, sym, ap, ◌∙◌, nat_le, nat_lt, not, lt-ltb, le-leb, length-set, inl, inr, le-ltb, slice_get}
use Rattle.boost_core.proofs.Vocabulary.{lt-leb, cases_lt, Step, HelperStep, step_from, Answer, now, InitSeek, InitLink, Refusal, SweepOutcome, TableAt, Follows, size_of, stored_of, helps_of, count_of, Double, HasParents, KeepsList, linked_of, regular, Doubles, SeekChanges, LinkChanges, StoreChanges, seek_answer, Helper, IsAnswer, placed_then, Move, Serves, Sweeping, Linking, Storing, World, Tells, state_of}
use Rattle.boost_core.proofs.Tables.{doubled_becomes, held_becomes, idle_becomes, linked_becomes, seeker_fits, seeker_there, sought_becomes, stored_becomes}
use Rattle.boost_core.proofs.TableMoves.{served, sweep_tells, swept_move, becomes_tells, becomes_move, seek_refusal, refusal_in_result, seek_ready_move, seek_placed_move, helper_refused, store_refused_move, stored_move}
use Rattle.boost_core.proofs.LinkAnswers.{link_refused_move, link_again_move, link_present_move, link_linked_move}
use Rattle.txn_words.specs.declared.step.Step.TheVariants as steps
use Rattle.map_ops.specs.Double.TheVariants as doubles
use Rattle.map_ops.specs.InitSeek.TheVariants as seeks
use Rattle.map_ops.specs.InitLink.TheVariants as links
use Rattle.map_ops.specs.SweepOutcome.TheVariants as sweeps
use Rattle.boost_core.specs.Serves as said

-- The invariants of the core hold after the step, and the step is a move.
pub record Served (w : World) (step : Step) (answer : Answer) (t' : TableAt) : Type 0 where
  pub tells : Tells (served w t' (placed_then w.placed step answer))
  pub move : Move (state_of w) step answer (state_of (served w t' (placed_then w.placed step answer)))

lt_not_le : (a b : ℕ) → nat_lt a b ≡ not (nat_le b a)
lt_not_le a b = elim (cases_lt a b) [
  | inl less ↦ lt-ltb a b less ∙ sym (ap not (lt-leb b a less))
  | inr most ↦ le-ltb a b most ∙ sym (ap not (le-leb b a most))
]

module _ (w : World) (tells : Tells w) (parents : HasParents w.table)
    (t' : TableAt) (follows : Follows w.table t') where
  -- If the table is unchanged, the invariants still hold.
  same_tells : t' ≡ w.table → Tells (served w t' w.placed)
  same_tells same = rw same tells

  swept_by : (answer : Answer) (is : Sweeping w.table t' answer) (outcome : SweepOutcome) → Served w steps.Sweep (said.swept outcome) t'
  swept_by answer is sweeps.Swept = record { tells = sweep_tells w tells t' is.keeps is.spares follows; move = swept_move w t' is.keeps _ (refl, tt) refl }
  swept_by answer is sweeps.Clean = record { tells = sweep_tells w tells t' is.keeps is.spares follows; move = swept_move w t' is.keeps _ (refl, tt) refl }

  sought_by : (h b : ℕ) (outcome : Result InitSeek Refusal) → outcome ≡ seek_answer (size_of w.table) (stored_of w.table) (slice_get (helps_of w.table) h) b
      → SeekChanges w.table t' h b outcome → regular t' ≡ regular w.table → linked_of t' ≡ linked_of w.table
      → Served w (steps.InitSeek h b) (said.answer_to_seek outcome) t'
  sought_by h b (Ok seeks.Ready) says changes same dummies = record {
    tells = becomes_tells w tells t' None _ _ _ _ (idle_becomes w.table t' h changes.0 changes.1) (length-set _ _ _) follows tt;
    move = seek_ready_move w t' h b tells.helpers (sym says) changes.0 changes.1;
  }
  sought_by h b (Ok seeks.Placed) says changes same dummies = record {
    tells = becomes_tells w tells t' (Some (Helper h)) _ _ _ _ (sought_becomes w.table t' h b changes same dummies) (length-set _ _ _) follows
        (seeker_fits w.table t' h b changes (seeker_there w.table h b (sym says)));
    move = seek_placed_move w t' h b tells.helpers (sym says) changes same dummies;
  }
  sought_by h b (Err refusal) says changes same dummies = record {
    tells = same_tells changes;
    move = helper_refused w t' (steps.InitSeek h b) refusal changes (seek_refusal w h b tells.helpers ∙ ap refusal_in_result (sym says));
  }

  linked_by : (h : ℕ) (answer : Answer) (is : Linking w.table t' h answer) (outcome : Result InitLink Refusal) → is.outcome ≡ outcome → LinkChanges w.table t' h outcome → Served w (steps.InitLink h) (said.linked outcome) t'
  linked_by h answer is (Ok links.Again) says changes = record {
    tells = becomes_tells w tells t' None _ _ _ _ (idle_becomes w.table t' h changes.0 changes.1) (length-set _ _ _) follows tt;
    move = link_again_move w h tells.helpers (sym (is.says (λ e. cc (says, e))) ∙ says) tells.fresh (λ bucket had below. is.unmoved bucket had below says) t' changes.0 changes.1;
  }
  linked_by h answer is (Ok links.Present) says changes = record {
    tells = becomes_tells w tells t' None _ _ _ _ (held_becomes w.table t' h changes.0 changes.1) (length-set _ _ _) follows tt;
    move = link_present_move w h tells.helpers (sym (is.says (λ e. cc (says, e))) ∙ says) t' changes.0 changes.1;
  }
  linked_by h answer is (Ok links.Linked) says changes = record {
    tells = becomes_tells w tells t' None _ _ _ _ (linked_becomes w.table t' h parents changes is.regular) (length-set _ _ _) follows tt;
    move = link_linked_move w h tells.helpers (sym (is.says (λ e. cc (says, e))) ∙ says) parents t' changes is.regular;
  }
  linked_by h answer is (Err refusal) says changes = record {
    tells = same_tells changes;
    move = link_refused_move w h tells.helpers is.outcome is.says is.no_memory refusal says t' changes;
  }

  stored_by : (h : ℕ) (answer : Answer) (is : Storing w.table t' h answer) (outcome : Result Unit Refusal) → is.outcome ≡ outcome → StoreChanges w.table t' h outcome → Served w (steps.InitStore h) (said.stored outcome) t'
  stored_by h answer is (Ok done) says changes = record {
    tells = becomes_tells w tells t' None _ _ _ _ (stored_becomes w.table t' h changes is.list) (length-set _ _ _) follows tt;
    move = stored_move w t' h tells.helpers (sym (is.says (λ e. cc (says, e))) ∙ says) changes is.list;
  }
  stored_by h answer is (Err refusal) says changes = record {
    tells = same_tells changes;
    move = store_refused_move w t' h tells.helpers is.outcome is.says is.no_memory is.lacks refusal says changes;
  }

  -- The outcome of a doubling is an answer that the state allows.
  doubling : (seen : ℕ) (outcome : Double) (one two three : Bool) → (size_of w.table == seen) ≡ one → (size_of w.table == w.limits.buckets) ≡ two → nat_le (count_of (now w.history)) (2 * size_of w.table) ≡ three
      → outcome ≡ cond (not one) (doubles.Moved (size_of w.table)) (cond two doubles.AtLimit (cond three doubles.Light (doubles.Doubled (2 * size_of w.table)))) → IsAnswer (state_of w) (steps.Double seen) (said.doubled outcome)
  doubling seen outcome false two three at top few is = rw is (refl, ap not at)
  doubling seen outcome true true three at top few is = rw is (λ i. at i && top i)
  doubling seen outcome true false true at top few is =
      rw is ((λ i. (at i && not (top i)) && not (lt_not_le (2 * size_of w.table) (count_of (now w.history)) i)) ∙ ap (λ b. not (not b)) few)
  doubling seen outcome true false false at top few is =
      rw is (refl, (λ i. (at i && not (top i)) && lt_not_le (2 * size_of w.table) (count_of (now w.history)) i) ∙ ap not few)

  doubled_by : (seen : ℕ) (outcome : Double) → Doubles w.table t' outcome → KeepsList w.table t' → IsAnswer (state_of w) (steps.Double seen) (said.doubled outcome)
      → Served w (steps.Double seen) (said.doubled outcome) t'
  doubled_by seen (doubles.Moved n) changes list answer = record {
    tells = becomes_tells w tells t' None _ _ _ _ (doubled_becomes w.table t' (doubles.Moved n) changes list) refl follows tt;
    move = becomes_move w t' None _ _ _ _ (steps.Double seen) _ (doubled_becomes w.table t' (doubles.Moved n) changes list) (refl, answer) refl;
  }
  doubled_by seen outcome changes list answer = record {
    tells = becomes_tells w tells t' None _ _ _ _ (doubled_becomes w.table t' outcome changes list) refl follows tt;
    move = becomes_move w t' None _ _ _ _ (steps.Double seen) _ (doubled_becomes w.table t' outcome changes list) (refl, answer) refl;
  }

  -- After each step that no caller owns, the invariants of the core hold, and the step is a move.
  pub serves : (step : HelperStep) (answer : Answer) → Serves step w.table answer t' → Served w (step_from step) answer t'
  serves HelperStep.Sweep answer is = rw is.answer_is (swept_by answer is is.outcome)
  serves (HelperStep.InitSeek h b) answer is = rw is.answer_is (sought_by h b is.outcome is.says is.changes is.regular is.linked)
  serves (HelperStep.InitLink h) answer is = rw is.answer_is (linked_by h answer is is.outcome refl is.changes)
  serves (HelperStep.InitStore h) answer is = rw is.answer_is (stored_by h answer is is.outcome refl is.changes)
  serves (HelperStep.Double seen) answer is =
      rw is.answer_is (doubled_by seen is.outcome is.changes is.list (doubling seen is.outcome _ _ _ refl refl refl (rw (tells.largest, tells.content) at is.says)))
