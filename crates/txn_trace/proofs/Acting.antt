-- Lemmas on `Did` entries. After a legal history, the reply of a `Did` is right exactly if it is
-- the one that the map `now` gives. The entry then applies the operation to the map `now`.
use Rattle.std.proofs.Common.{◌≡◌, ℕ, true, false, cond, List, [], ◌∷◌, ◌++◌, refl, ap, sym, subst, ◌∙◌, Some, None, Option, is_some}
use Rattle.std.specs.Option.{option_and_then}
use Rattle.std.proofs.lemmas.Bool.{false≢true}
use Rattle.std.proofs.lemmas.List.{append-nil}
use mathlib.Core.Logic.{inl, inr}
use Rattle.txn_words.specs.declared.op.Op.{Op}
use Rattle.txn_words.specs.declared.entry.Entry.{Entry}
use Rattle.txn_words.specs.declared.holder.Holder.{Holder}
use Rattle.txn_words.specs.declared.entry.Entry.TheVariants.{Did}
use Rattle.txn_words.specs.Map.{Map, get, after, reply_of, key_of, is_change}
use Rattle.txn_trace.specs.History.{of}
use Rattle.txn_trace.specs.Alone.{AloneRun, with_op, act_did, act, alone, last_map, map_after}
use Rattle.txn_trace.specs.Serial.{serial}
use Rattle.txn_trace.specs.Now.{now}
use Rattle.txn_words.specs.declared.stance.Phase.TheVariants.{Waiting}
use Rattle.txn_words.specs.Shape.{Stance, stance_after, own, is_shaped}
use Rattle.txn_trace.specs.Legal.{IsLegal}
use Rattle.txn_words.proofs.Effects.{after_unchanged, get-after_other, get-after_same}
use Rattle.txn_words.proofs.Maps.{same_map}
use Rattle.txn_trace.proofs.Pushes.{txn_in, alone-push}
use Rattle.txn_trace.proofs.Callers.{ended}
use Rattle.txn_trace.proofs.Local.{RunsAlike, alone_alike, WaitsFor}
use Rattle.txn_trace.proofs.Stripes.{keys_in, asks_own, are_apart}
use Rattle.txn_trace.proofs.Now.{same_is, running_of, now_at-holder, open_going}
use Rattle.txn_trace.proofs.Table.{get-now}
use Rattle.txn_trace.proofs.Fits.{Fits, PhaseFits}
use Rattle.txn_trace.proofs.StanceRuns.{have_stances, the_some}
use Rattle.txn_trace.proofs.BadEntries.{legal_push, shape_push, locks_push}
use Rattle.txn_trace.proofs.Others.{replies-push_other, now_at-push}

added : (r : AloneRun) (op : Op) → (with_op r op).last ≡ after r.last op
added r op = (elim (is_change r.last op) as (λ b. is_change r.last op ≡ b → (cond b (record r { last = after r.last op; earlier = r.last ∷ r.earlier }) r).last ≡ after r.last op) [
  | true ↦ λ is. refl
  | false ↦ λ is. sym (after_unchanged r.last op is)
]) refl

-- If an operation waits for its reply after the entries of a run, these entries ask for a key of
-- the operation's stripe.
waits_in : (stripes : ℕ) (es : List Entry) (m : Map) (r : AloneRun) (op : Op) → alone m es ≡ Some r → r.pending ≡ Some op → keys_in stripes es (key_of op) ≡ true
waits_in stripes es m r op run waits =
    let alike : RunsAlike (keys_in stripes es) m m (alone m es) (alone m es) = alone_alike (keys_in stripes es) m m es (asks_own stripes es) (λ k is. refl) in
    let alike' : RunsAlike (keys_in stripes es) m m (Some r) (Some r) = subst (λ o. RunsAlike (keys_in stripes es) m m o o) run alike in
    subst (WaitsFor (keys_in stripes es)) waits alike'.waits

-- Lemmas on a caller that waits and receives the reply that the map `now` gives to its operation.
module _ {holder : Holder} (stripes : ℕ) (g : List Entry) (legal : IsLegal holder stripes g) (c t : ℕ) (op : Op) (x : Option ℕ) (stance : Stance)
    (in_t : txn_in g c ≡ Some t) (going : ended t g ≡ false) (stance_is : stance_after (own c g) ≡ Some stance) (waiting : stance.phase ≡ Waiting op)
    (right : x ≡ reply_of (now g) op) (shaped : is_shaped g (Did c x) ≡ true) where
  the_run : (r : AloneRun) × (alone (serial g) (of t g) ≡ Some r)
  the_run = the_some (alone (serial g) (of t g)) (legal.replies g ([], append-nil g) t (open_going t g going))

  run : AloneRun
  run = the_run.0

  run_is : alone (serial g) (of t g) ≡ Some run
  unfolding run
  run_is = the_run.1

  waits : run.pending ≡ Some op
  waits =
      let there = have_stances g legal.shape c t in_t going in
      let fits : Fits there.stance run = there.fits (serial g) run run_is in
      let same : there.stance ≡ stance = cc (sym there.is ∙ stance_is) in
      subst (λ q. PhaseFits q stance run) waiting (subst (λ (s : Stance). PhaseFits s.phase s run) same fits.phase)

  held : keys_in stripes (of t g) (key_of op) ≡ true
  held = waits_in stripes (of t g) (serial g) run op run_is waits

  last_is : map_after (serial g) (of t g) ≡ run.last
  last_is = ap (last_map (serial g)) run_is

  now_there : get (now g) (key_of op) ≡ get run.last (key_of op)
  now_there = get-now g (key_of op) ∙ now_at-holder stripes g (key_of op) (are_apart holder stripes g legal.shape legal.locks) t (running_of g c t in_t going) held ∙ ap (λ m. get m (key_of op)) last_is

  goes : alone (serial g) (of t g ++ Did c x ∷ []) ≡ Some (record (with_op run op) { pending = None })
  goes = alone-push (serial g) (of t g) (Did c x) ∙ ap (option_and_then (λ r. act r (Did c x))) run_is ∙ ap (λ p. act_did run p x) waits
      ∙ ap (λ b. cond b (Some (record (with_op run op) { pending = None })) None) (same_is x (reply_of run.last op) (right ∙ now_there))

  pub did_legal : IsLegal holder stripes (g ++ Did c x ∷ [])
  did_legal = legal_push stripes g (Did c x) legal shaped refl
      (replies-push_other g (Did c x) t legal.shape (shape_push g (Did c x) legal.shape shaped) shaped refl in_t
      (legal.replies g ([], append-nil g)) (ap is_some goes))

  changed : map_after (serial g) (of t g ++ Did c x ∷ []) ≡ after run.last op
  changed = ap (last_map (serial g)) goes ∙ added run op

  pub now-did : now (g ++ Did c x ∷ []) ≡ after (now g) op
  now-did = same_map (now (g ++ Did c x ∷ [])) (after (now g) op) (λ q.
      get-now (g ++ Did c x ∷ []) q
      ∙ elim (now_at-push holder stripes g (Did c x) t legal.shape legal.locks (shape_push g (Did c x) legal.shape shaped) (locks_push holder stripes g (Did c x) legal.locks refl) shaped refl in_t q refl (running_of g c t in_t going)) [
        | inl w ↦ w.0 ∙ sym (get-now g q) ∙ sym (get-after_other (now g) op q (λ same. false≢true (sym w.1 ∙ ap (keys_in stripes (of t g)) same ∙ held)))
        | inr w ↦ w.0 ∙ ap (λ m. get m q) changed
            ∙ sym (get-after_same (now g) run.last op q (get-now g q ∙ w.1 ∙ ap (λ m. get m q) last_is) now_there)
      ])
