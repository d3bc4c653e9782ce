-- Shows which rule an entry breaks after a legal history, because the shape decides first, then for
-- a `Did` the map `now`, and then the holder of the stripe.
use Rattle.std.proofs.Common.{◌≡◌, ℕ, Bool, true, false, cond, not, List, [], ◌∷◌, ◌++◌, refl, ap, sym, subst, ◌∙◌, Some, None, Option, IsSome, is_some}
use Rattle.std.specs.Option.{option_eq, option_and_then}
use Rattle.std.specs.Prelude.{nat_eq}
use Rattle.std.proofs.lemmas.Bool.{false≢true, cases_Bool, eqb-true, false_from_ne_true}
use Rattle.std.proofs.lemmas.List.{append-nil}
use mathlib.Core.Logic.{inl, inr}
use Rattle.txn_words.specs.declared.op.Op.{Op}
use Rattle.txn_words.specs.declared.entry.Entry.{Entry}
use Rattle.txn_words.specs.declared.holder.Holder.{Holder}
use Rattle.txn_words.specs.declared.entry.Entry.TheVariants.{Began, Asked, Did, Saved, Leave, Undone, Returned, Committed, Busy, Aborted}
use Rattle.txn_words.specs.Map.{get, key_of, reply_of}
use Rattle.txn_trace.specs.History.{of}
use Rattle.txn_words.specs.Kinds.{caller_of, is_began, is_commit}
use Rattle.txn_trace.specs.Alone.{AloneRun, with_op, act, act_did, alone}
use Rattle.txn_trace.specs.Serial.{serial}
use Rattle.txn_trace.specs.Now.{now}
use Rattle.txn_trace.specs.Replies.{RepliesHoldAt}
use Rattle.txn_trace.specs.Locks.{is_locked}
use Rattle.txn_words.specs.declared.stance.Phase.{Phase}
use Rattle.txn_words.specs.declared.stance.Phase.TheVariants.{Closed, Waiting}
use Rattle.txn_words.specs.Shape.{Stance, row, stance_after, own, is_numbered, is_shaped, IsShaped}
use Rattle.txn_trace.specs.Legal.{IsLegal, replies_hold, broken, runs}
use Rattle.txn_trace.proofs.Pushes.{txn_at, of-push_in, alone-push}
use Rattle.txn_trace.proofs.Callers.{is_end, ended, shaped_stance, shaped_number}
use Rattle.txn_trace.proofs.Shaped.{callers_of, ended_in}
use Rattle.txn_trace.proofs.Stripes.{keys_in, are_apart}
use Rattle.txn_trace.proofs.Local.{WaitsFor}
use Rattle.txn_trace.proofs.Now.{running_of, now_at-holder, open_going, same_option, replies-push_commit}
use Rattle.txn_trace.proofs.Table.{get-now}
use Rattle.txn_trace.proofs.BadEntries.{replies_hold_from, RepliesHoldAt-from, shape_push}
use Rattle.txn_trace.proofs.Others.{replies-push_other, serial_is}
use Rattle.txn_trace.proofs.Fits.{Fits, FitsAfter, IsReply, PhaseFits, fits_act}
use Rattle.txn_trace.proofs.StanceRuns.{the_some}
use Rattle.txn_trace.proofs.Running.{has_stance}
use Rattle.txn_trace.proofs.EntrySteps.{txn, going, at_txn, run, run_is, run_fits, run_logs, last_is}
use Rattle.txn_trace.proofs.Entries.{began, did}

-- If `row` allows an entry that is not a `Began`, the caller's phase is not `Closed`.
pub row_active : (s : Stance) (q : Phase) (e : Entry) → is_began e ≡ false → is_some (row s q e) ≡ true → runs q ≡ true
row_active s Closed (Began c t) b h = absurd (false≢true (sym b))
row_active s Closed _ b h = absurd (false≢true h)
row_active s _ e b h = refl

-- Whether an entry has the right reply. The reply of a `Did` must be the one that the map `now`
-- gives to the waiting operation. An entry of another kind always has the right reply.
abbrev pub is_right_in : List Entry → Phase → Option ℕ → Bool
is_right_in g (Waiting op) x = option_eq nat_eq x (reply_of (now g) op)
is_right_in g _ x = true

abbrev pub is_right : List Entry → Entry → Bool
is_right g (Did c x) = elim (stance_after (own c g)) [ None ↦ true | Some s ↦ is_right_in g s.phase x ]
is_right g _ = true

-- The stances of the caller before and after an entry of the right shape. The entry's number is
-- right.
record Shaped (g : List Entry) (e : Entry) : Type 0 where
  before : Stance
  is : stance_after (own (caller_of e) g) ≡ Some before
  next : Stance
  goes : row before before.phase e ≡ Some next
  numbered : is_numbered g e ≡ true

shaped_by : (g : List Entry) (e : Entry) → IsShaped g → is_shaped g e ≡ true → Shaped g e
shaped_by g e shape shaped =
    let before = the_some (stance_after (own (caller_of e) g)) (has_stance g shape (caller_of e)) in
    let some : is_some (row before.0 before.0.phase e) ≡ true = subst (λ o. is_some (option_and_then (λ (s : Stance). row s s.phase e) o) ≡ true) before.1 (shaped_stance g e shaped) in
    let next = the_some (row before.0 before.0.phase e) some in
    record { before = before.0; is = before.1; next = next.0; goes = next.1; numbered = shaped_number g e shaped }

abbrev is_did : Entry → Bool
is_did (Did c x) = true
is_did _ = false

no_reply : (r : AloneRun) (e : Entry) → is_did e ≡ false → IsReply r e
no_reply r (Did c x) d = absurd (false≢true (sym d))
no_reply r _ d = tt

module _ {holder : Holder} (stripes : ℕ) (g : List Entry) (legal : IsLegal holder stripes g) (e : Entry) (shaped : is_shaped g e ≡ true) where
  abbrev parts : Shaped g e
  parts = shaped_by g e legal.shape shaped

  shape_after : IsShaped (g ++ e ∷ [])
  shape_after = shape_push g e legal.shape shaped

  hold_now : RepliesHoldAt g
  hold_now = legal.replies g ([], append-nil g)

  -- Lemmas for an entry that begins no transaction. They give the transaction `t` that the entry
  -- belongs to, and the run of `t` before and after the entry.
  module _ (not_began : is_began e ≡ false) where
    active : runs parts.before.phase ≡ true
    active = row_active parts.before parts.before.phase e not_began (ap is_some parts.goes)

    abbrev t : ℕ
    t = txn stripes g legal e parts.before parts.next parts.is parts.goes parts.numbered active

    at : txn_at g e ≡ Some t
    at = at_txn stripes g legal e parts.before parts.next parts.is parts.goes parts.numbered active not_began

    not_ended : ended t g ≡ false
    not_ended = going stripes g legal e parts.before parts.next parts.is parts.goes parts.numbered active

    abbrev the_run : AloneRun
    the_run = run stripes g legal e parts.before parts.next parts.is parts.goes parts.numbered active

    fits : Fits parts.before the_run
    fits = run_fits stripes g legal e parts.before parts.next parts.is parts.goes parts.numbered active

    run_after : (o : Option AloneRun) → act the_run e ≡ o → alone (serial g) (of t g ++ e ∷ []) ≡ o
    run_after o acts = alone-push (serial g) (of t g) e ∙ ap (option_and_then (λ q. act q e)) (run_is stripes g legal e parts.before parts.next parts.is parts.goes parts.numbered active) ∙ acts

    holds_if : is_commit e ≡ false → is_some (act the_run e) ≡ true → RepliesHoldAt (g ++ e ∷ [])
    holds_if commit acts = replies-push_other g e t legal.shape shape_after shaped commit at hold_now (ap is_some (run_after (act the_run e) refl) ∙ acts)

    acts_if : is_did e ≡ false → is_end e ≡ false → is_some (act the_run e) ≡ true
    acts_if other goes_on =
        let after : FitsAfter (Some parts.next) (act the_run e) = subst (λ o. FitsAfter o (act the_run e)) parts.goes
        (fits_act parts.before the_run e parts.before.phase refl not_began goes_on fits (no_reply the_run e other) (ap is_some parts.goes)) in
        some (act the_run e) after
      where
        some : (o : Option AloneRun) → FitsAfter (Some parts.next) o → is_some o ≡ true
        some None is = absurd is
        some (Some r) is = refl

holds_after : {holder : Holder} (stripes : ℕ) (g : List Entry) (legal : IsLegal holder stripes g) (e : Entry) → is_shaped g e ≡ true → is_did e ≡ false → RepliesHoldAt (g ++ e ∷ [])
holds_after stripes g legal (Began c t) shaped d =
    let p = shaped_by g (Began c t) legal.shape shaped in
    let closed : p.before.phase ≡ Closed = only_closed p.before.phase (ap is_some p.goes) in
    (began stripes g legal c t p.before p.is closed (eqb-true t _ p.numbered)).legal.replies (g ++ Began c t ∷ []) ([], append-nil (g ++ Began c t ∷ []))
  where
    only_closed : (q : Phase) → is_some (row (shaped_by g (Began c t) legal.shape shaped).before q (Began c t)) ≡ true → q ≡ Closed
    only_closed Closed h = refl
    only_closed _ h = absurd (false≢true h)
holds_after {holder} stripes g legal (Committed c p) shaped d =
    replies-push_commit holder stripes g (Committed c p) (t stripes g legal (Committed c p) shaped refl) legal.shape legal.locks (shape_push g (Committed c p) legal.shape shaped) shaped refl
    (at stripes g legal (Committed c p) shaped refl) (not_ended stripes g legal (Committed c p) shaped refl) (legal.replies g ([], append-nil g))
holds_after stripes g legal (Aborted c) shaped d = holds_if stripes g legal (Aborted c) shaped refl refl refl
holds_after stripes g legal (Did c x) shaped d = absurd (false≢true (sym d))
holds_after stripes g legal (Asked c op) shaped d = holds_if stripes g legal (Asked c op) shaped refl refl (acts_if stripes g legal (Asked c op) shaped refl refl refl)
holds_after stripes g legal (Saved c) shaped d = holds_if stripes g legal (Saved c) shaped refl refl (acts_if stripes g legal (Saved c) shaped refl refl refl)
holds_after stripes g legal (Leave c n) shaped d = holds_if stripes g legal (Leave c n) shaped refl refl (acts_if stripes g legal (Leave c n) shaped refl refl refl)
holds_after stripes g legal (Undone c) shaped d = holds_if stripes g legal (Undone c) shaped refl refl (acts_if stripes g legal (Undone c) shaped refl refl refl)
holds_after stripes g legal (Returned c n) shaped d = holds_if stripes g legal (Returned c n) shaped refl refl (acts_if stripes g legal (Returned c n) shaped refl refl refl)
holds_after stripes g legal (Busy c op x) shaped d = holds_if stripes g legal (Busy c op x) shaped refl refl (acts_if stripes g legal (Busy c op x) shaped refl refl refl)

waits_for : (s : Stance) (q : Phase) (c : ℕ) (x : Option ℕ) → is_some (row s q (Did c x)) ≡ true → (op : Op) × (q ≡ Waiting op)
waits_for s (Waiting op) c x h = (op, refl)
waits_for s _ c x h = absurd (false≢true h)

-- A caller that waits may receive only the reply that the map `now` gives to its operation.
did_holds : {holder : Holder} (stripes : ℕ) (g : List Entry) (legal : IsLegal holder stripes g) (c : ℕ) (x : Option ℕ) (shaped : is_shaped g (Did c x) ≡ true) (op : Op)
    → (shaped_by g (Did c x) legal.shape shaped).before.phase ≡ Waiting op → replies_hold (g ++ Did c x ∷ []) ≡ option_eq nat_eq x (reply_of (now g) op)
did_holds {holder} stripes g legal c x shaped op waits = elim (cases_Bool (option_eq nat_eq x (reply_of (now g) op))) [
  | inl right ↦
      replies_hold_from (g ++ e ∷ []) ((did stripes g legal c op x p.before p.is waits (same_option x (reply_of (now g) op) right)).legal.replies (g ++ e ∷ []) ([], append-nil (g ++ e ∷ []))) ∙ sym right
  | inr wrong ↦ false_from_ne_true _ (λ holds. refuted wrong (RepliesHoldAt-from (g ++ e ∷ []) (shape_push g e legal.shape shaped) holds)) ∙ sym wrong
]
  where
    e : Entry
    e = Did c x

    p : Shaped g e
    p = shaped_by g e legal.shape shaped

    txn_t : ℕ
    txn_t = t stripes g legal e shaped refl

    at_t : txn_at g e ≡ Some txn_t
    at_t = at stripes g legal e shaped refl

    last : AloneRun
    last = the_run stripes g legal e shaped refl

    pending : last.pending ≡ Some op
    pending = subst (λ q. PhaseFits q p.before last) waits (fits stripes g legal e shaped refl).phase

    held : keys_in stripes (of txn_t g) (key_of op) ≡ true
    held = subst (WaitsFor (keys_in stripes (of txn_t g))) pending (run_logs stripes g legal e p.before p.next p.is p.goes p.numbered (active stripes g legal e shaped refl)).waits

    same_reply : reply_of (now g) op ≡ reply_of last.last op
    same_reply =
        get-now g (key_of op) ∙ now_at-holder stripes g (key_of op) (are_apart holder stripes g legal.shape legal.locks) txn_t (running_of g c txn_t at_t (not_ended stripes g legal e shaped refl)) held
        ∙ ap (λ m. get m (key_of op)) (last_is stripes g legal e p.before p.next p.is p.goes p.numbered (active stripes g legal e shaped refl))

    acts_none : option_eq nat_eq x (reply_of (now g) op) ≡ false → act last e ≡ None
    acts_none wrong = ap (λ q. act_did last q x) pending ∙ ap (λ b. cond b (Some (record (with_op last op) { pending = None })) None) (ap (option_eq nat_eq x) (sym same_reply) ∙ wrong)

    refuted : option_eq nat_eq x (reply_of (now g) op) ≡ false → RepliesHoldAt (g ++ e ∷ []) → ⊥
    refuted wrong hold =
        let open_t = open_going txn_t (g ++ e ∷ []) (ended_in g e (callers_of g legal.shape) shaped txn_t at_t) in
        let runs_on : IsSome (alone (serial (g ++ e ∷ [])) (of txn_t (g ++ e ∷ []))) = hold txn_t open_t in
        let none : alone (serial (g ++ e ∷ [])) (of txn_t (g ++ e ∷ [])) ≡ None =
        ap (λ m. alone m (of txn_t (g ++ e ∷ []))) (serial_is g e txn_t legal.shape (shape_push g e legal.shape shaped) shaped refl at_t) ∙ ap (alone (serial g)) (of-push_in txn_t g e at_t)
        ∙ run_after stripes g legal e shaped refl None (acts_none wrong) in
        false≢true (sym (ap is_some none) ∙ runs_on)

-- If an entry of the right shape follows a legal history, the entry breaks the rule of replies
-- exactly if it is a `Did` with a wrong reply.
pub replies_hold-push : {holder : Holder} (stripes : ℕ) (g : List Entry) → IsLegal holder stripes g → (e : Entry) → is_shaped g e ≡ true → replies_hold (g ++ e ∷ []) ≡ is_right g e
replies_hold-push stripes g legal (Did c x) shaped =
    let p = shaped_by g (Did c x) legal.shape shaped in
    let w = waits_for p.before p.before.phase c x (ap is_some p.goes) in
    did_holds stripes g legal c x shaped w.0 w.1
    ∙ sym (ap (λ o. elim o as (λ o. Bool) [ None ↦ true | Some s ↦ is_right_in g s.phase x ]) p.is ∙ ap (λ q. is_right_in g q x) w.1)
replies_hold-push stripes g legal (Began c t) shaped = replies_hold_from (g ++ Began c t ∷ []) (holds_after stripes g legal (Began c t) shaped refl)
replies_hold-push stripes g legal (Asked c op) shaped = replies_hold_from (g ++ Asked c op ∷ []) (holds_after stripes g legal (Asked c op) shaped refl)
replies_hold-push stripes g legal (Saved c) shaped = replies_hold_from (g ++ Saved c ∷ []) (holds_after stripes g legal (Saved c) shaped refl)
replies_hold-push stripes g legal (Leave c n) shaped = replies_hold_from (g ++ Leave c n ∷ []) (holds_after stripes g legal (Leave c n) shaped refl)
replies_hold-push stripes g legal (Undone c) shaped = replies_hold_from (g ++ Undone c ∷ []) (holds_after stripes g legal (Undone c) shaped refl)
replies_hold-push stripes g legal (Returned c n) shaped = replies_hold_from (g ++ Returned c n ∷ []) (holds_after stripes g legal (Returned c n) shaped refl)
replies_hold-push stripes g legal (Committed c p) shaped = replies_hold_from (g ++ Committed c p ∷ []) (holds_after stripes g legal (Committed c p) shaped refl)
replies_hold-push stripes g legal (Busy c op x) shaped = replies_hold_from (g ++ Busy c op x ∷ []) (holds_after stripes g legal (Busy c op x) shaped refl)
replies_hold-push stripes g legal (Aborted c) shaped = replies_hold_from (g ++ Aborted c ∷ []) (holds_after stripes g legal (Aborted c) shaped refl)

-- The rule that an entry breaks after a legal history follows from the entry's shape, the map `now`
-- and the holders of the stripes.
pub broken_is : {holder : Holder} (stripes : ℕ) (g : List Entry) → IsLegal holder stripes g → (e : Entry)
    → broken holder stripes g e ≡ cond {A = Option ℕ} (not (is_shaped g e)) (Some 3) (cond {A = Option ℕ} (not (is_right g e)) (Some 1) (cond {A = Option ℕ} (not (is_locked holder stripes g e)) (Some 2) None))
broken_is {holder} stripes g legal e = elim (cases_Bool (is_shaped g e)) [
  | inl shaped ↦ ap (λ b. cond {A = Option ℕ} (not (is_shaped g e)) (Some 3) (cond {A = Option ℕ} (not b) (Some 1) (cond {A = Option ℕ} (not (is_locked holder stripes g e)) (Some 2) None))) (replies_hold-push stripes g legal e shaped)
  | inr unshaped ↦
      ap (λ b. cond {A = Option ℕ} (not b) (Some 3) (cond {A = Option ℕ} (not (replies_hold (g ++ e ∷ []))) (Some 1) (cond {A = Option ℕ} (not (is_locked holder stripes g e)) (Some 2) None))) unshaped
      ∙ sym (ap (λ b. cond {A = Option ℕ} (not b) (Some 3) (cond {A = Option ℕ} (not (is_right g e)) (Some 1) (cond {A = Option ℕ} (not (is_locked holder stripes g e)) (Some 2) None))) unshaped)
]
