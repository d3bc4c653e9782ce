-- Shows what one more entry of any kind leaves unchanged, because it changes the stance, the log and
-- the run of its own caller only, unless it commits.
use Rattle.std.proofs.Common.{◌&&◌, ◌≡◌, ◌≢◌, ℕ, ◌+◌, Bool, true, false, cond, List, [], ◌∷◌, ◌++◌, take, slice_get, refl, ap, sym, subst, ◌∙◌, Some, None, Option, is_some}
use Rattle.std.specs.Option.{option_eq, option_and_then}
use Rattle.std.specs.Prelude.{nat_eq}
use Rattle.std.proofs.lemmas.Bool.{false≢true, and_from}
use Rattle.std.proofs.lemmas.List.{append-nil}
use Rattle.txn_words.specs.declared.entry.Entry.{Entry}
use Rattle.txn_words.specs.declared.holder.Holder.{Holder}
use Rattle.txn_words.specs.declared.entry.Entry.TheVariants.{Began, Asked, Did, Saved, Leave, Returned, Busy}
use Rattle.txn_words.specs.Map.{Map}
use Rattle.txn_trace.specs.History.{of}
use Rattle.txn_words.specs.Kinds.{caller_of, is_began, is_commit}
use Rattle.txn_trace.specs.Alone.{AloneRun, number_of_maps, act, alone, last_map, map_after}
use Rattle.txn_trace.specs.Serial.{serial}
use Rattle.txn_trace.specs.Now.{now}
use Rattle.txn_trace.specs.Locks.{holder_of, asks_in, is_locked}
use Rattle.txn_words.specs.Shape.{Stance, row, stance_after, own, is_numbered, is_shaped, IsShaped}
use Rattle.txn_trace.specs.Log.{Log, log_after, log_of, log_step}
use Rattle.txn_trace.specs.Legal.{IsLegal, runs, is_running}
use Rattle.txn_trace.proofs.Pushes.{of-push_in, of-push_out, txn_in, txn_at, alone-push, own-push_in, own-push_out, stance_after-push}
use Rattle.txn_trace.proofs.Callers.{Callers, is_end, ended, not_equal}
use Rattle.txn_trace.proofs.Shaped.{callers_of}
use Rattle.txn_trace.proofs.Running.{Running, running_txn}
use Rattle.txn_trace.proofs.Stripes.{keys_in}
use Rattle.txn_trace.proofs.Now.{IsRunning, running_of, open_going}
use Rattle.txn_trace.proofs.BadEntries.{legal_push, shape_push, locks_push}
use Rattle.txn_trace.proofs.Others.{replies-push_other, now-push_same, serial_is}
use Rattle.txn_trace.proofs.Fits.{Fits, FitsAfter, IsReply, fits_act}
use Rattle.txn_trace.proofs.StanceRuns.{have_stances, the_some}
use Rattle.txn_trace.proofs.Logs.{Logs, are_logged, log_after-own, log_after-other}
use Rattle.txn_trace.proofs.Holders.{holder_of-other}

-- The state after the entry `e` is added to the history `g`. The history is legal. The entry's
-- caller has the stance `stance` and the log `log`. The stances and logs of all other callers are
-- unchanged. The committed map is `committed`, the map `now` is `current`, and `held` gives the
-- holder of each stripe.
pub record Next (holder : Holder) (stripes : ℕ) (g : List Entry) (e : Entry) (stance : Stance) (log : List (ℕ × Option ℕ)) (committed current : Map) (held : ℕ → Option ℕ) : Type 0 where
  pub legal : IsLegal holder stripes (g ++ e ∷ [])
  pub stance_is : stance_after (own (caller_of e) (g ++ e ∷ [])) ≡ Some stance
  pub other_stances : (d : ℕ) → d ≢ caller_of e → stance_after (own d (g ++ e ∷ [])) ≡ stance_after (own d g)
  pub log_is : log_of (caller_of e) (g ++ e ∷ []) ≡ log
  pub other_logs : (d : ℕ) → d ≢ caller_of e → log_of d (g ++ e ∷ []) ≡ log_of d g
  pub serial_is : serial (g ++ e ∷ []) ≡ committed
  pub now_is : now (g ++ e ∷ []) ≡ current
  pub holder_is : (s : ℕ) → holder_of stripes s (g ++ e ∷ []) ≡ held s

-- The own entries, the stance and the log of a caller are unchanged by an entry of another caller.
pub own-other : (d : ℕ) (g : List Entry) (e : Entry) → d ≢ caller_of e → own d (g ++ e ∷ []) ≡ own d g
own-other d g e other = own-push_out d g e (not_equal d (caller_of e) other)

pub stance-other : (d : ℕ) (g : List Entry) (e : Entry) → d ≢ caller_of e → stance_after (own d (g ++ e ∷ [])) ≡ stance_after (own d g)
stance-other d g e other = ap stance_after (own-other d g e other)

pub log_of-other : (d : ℕ) (g : List Entry) (e : Entry) → d ≢ caller_of e → log_of d (g ++ e ∷ []) ≡ log_of d g
log_of-other d g e other = ap (λ (l : Log). l.standing) (log_after-other d g e other)

-- After an entry, its caller has the stance that `row` gives, and the log that `log_step` gives.
pub stance-own : (g : List Entry) (e : Entry) → stance_after (own (caller_of e) (g ++ e ∷ [])) ≡ option_and_then (λ s. row s s.phase e) (stance_after (own (caller_of e) g))
stance-own g e = ap stance_after (own-push_in (caller_of e) g e refl) ∙ stance_after-push (own (caller_of e) g) e

pub log_of-own : (g : List Entry) (e : Entry) → log_of (caller_of e) (g ++ e ∷ []) ≡ (log_step (log_after (own (caller_of e) g)) e).standing
log_of-own g e = ap (λ (l : Log). l.standing) (log_after-own g e)

txn_at-not_began : (g : List Entry) (e : Entry) → is_began e ≡ false → txn_at g e ≡ txn_in g (caller_of e)
txn_at-not_began g (Began c t) b = absurd (false≢true (sym b))
txn_at-not_began g _ b = refl

-- Whether an entry changes no map of the run, and neither begins nor ends a transaction.
abbrev pub is_quiet : Entry → Bool
is_quiet (Asked c op) = true
is_quiet (Saved c) = true
is_quiet (Leave c n) = true
is_quiet (Returned c n) = true
is_quiet (Busy c op x) = true
is_quiet _ = false

pub quiet_reply : (r : AloneRun) (e : Entry) → is_quiet e ≡ true → IsReply r e
quiet_reply r (Did c x) quiet = absurd (false≢true quiet)
quiet_reply r _ quiet = tt

pub quiet_last : (r r' : AloneRun) (e : Entry) → is_quiet e ≡ true → act r e ≡ Some r' → r'.last ≡ r.last
quiet_last r r' (Asked c op) quiet goes = let same : record r { pending = Some op } ≡ r' = cc (goes) in ap (λ (q : AloneRun). q.last) (sym same)
quiet_last r r' (Saved c) quiet goes = let same : record r { notes = r.notes ++ number_of_maps r ∷ [] } ≡ r' = cc (goes) in ap (λ (q : AloneRun). q.last) (sym same)
quiet_last r r' (Leave c n) quiet goes = let same : r ≡ r' = cc (goes) in ap (λ (q : AloneRun). q.last) (sym same)
quiet_last r r' (Busy c op x) quiet goes = let same : r ≡ r' = cc (goes) in ap (λ (q : AloneRun). q.last) (sym same)
quiet_last r r' (Returned c k) quiet goes =
    (elim (option_eq nat_eq (slice_get r.notes k) (Some (number_of_maps r))) as (λ b. cond b (Some (record r { notes = take (k + 1) r.notes })) None ≡ Some r' → r'.last ≡ r.last) [
      | false ↦ λ h. absurd (cc (h))
      | true ↦ λ h. let same : record r { notes = take (k + 1) r.notes } ≡ r' = cc (h) in ap (λ (q : AloneRun). q.last) (sym same)
    ]) goes
quiet_last r r' _ quiet goes = absurd (false≢true quiet)

quiet_log : (log : Log) (e : Entry) → is_quiet e ≡ true → (log_step log e).standing ≡ log.standing
quiet_log log (Asked c op) quiet = refl
quiet_log log (Saved c) quiet = refl
quiet_log log (Leave c n) quiet = refl
quiet_log log (Returned c n) quiet = refl
quiet_log log (Busy c op x) quiet = refl
quiet_log log _ quiet = absurd (false≢true quiet)

quiet_goes : (e : Entry) → is_quiet e ≡ true → is_began e ≡ false × is_end e ≡ false × is_commit e ≡ false
quiet_goes (Asked c op) quiet = (refl, refl, refl)
quiet_goes (Saved c) quiet = (refl, refl, refl)
quiet_goes (Leave c n) quiet = (refl, refl, refl)
quiet_goes (Returned c n) quiet = (refl, refl, refl)
quiet_goes (Busy c op x) quiet = (refl, refl, refl)
quiet_goes _ quiet = absurd (false≢true quiet)

pub some_fits : (s : Stance) (o : Option AloneRun) → FitsAfter (Some s) o → is_some o ≡ true
some_fits s None fits = absurd fits
some_fits s (Some r) fits = refl

module _ {holder : Holder} (stripes : ℕ) (g : List Entry) (legal : IsLegal holder stripes g) (e : Entry) (stance next : Stance) (stance_is : stance_after (own (caller_of e) g) ≡ Some stance) (goes : row stance stance.phase e ≡ Some next) (numbered : is_numbered g e ≡ true) where
  pub callers : Callers g
  callers = callers_of g legal.shape

  pub next_stance : stance_after (own (caller_of e) (g ++ e ∷ [])) ≡ Some next
  next_stance = stance-own g e ∙ ap (option_and_then (λ (s : Stance). row s s.phase e)) stance_is ∙ goes

  -- If `row` allows the entry and the entry's number is right, the entry has the right shape.
  pub shaped_by_row : is_shaped g e ≡ true
  shaped_by_row = and_from (is_some (stance_after (own (caller_of e) (g ++ e ∷ [])))) (is_numbered g e) (ap is_some next_stance) numbered

  pub shape_next : IsShaped (g ++ e ∷ [])
  shape_next = shape_push g e legal.shape shaped_by_row

  pub next_log : (log_of (caller_of e) (g ++ e ∷ [])) ≡ (log_step (log_after (own (caller_of e) g)) e).standing
  next_log = log_of-own g e

  -- Lemmas for a caller that is in a transaction.
  module _ (active : runs stance.phase ≡ true) where
    pub there : Running g (caller_of e)
    there = running_txn g legal.shape (caller_of e) (ap is_running stance_is ∙ active)

    pub txn : ℕ
    txn = there.txn

    pub in_txn : txn_in g (caller_of e) ≡ Some txn
    unfolding txn
    in_txn = there.in_it

    pub going : ended txn g ≡ false
    unfolding txn
    going = there.going

    pub is_running_txn : IsRunning g txn
    is_running_txn = running_of g (caller_of e) txn in_txn going

    pub at_txn : is_began e ≡ false → txn_at g e ≡ Some txn
    at_txn began = txn_at-not_began g e began ∙ in_txn

    the_run : (r : AloneRun) × (alone (serial g) (of txn g) ≡ Some r)
    the_run = the_some (alone (serial g) (of txn g)) (legal.replies g ([], append-nil g) txn (open_going txn g going))

    pub run : AloneRun
    run = the_run.0

    pub run_is : alone (serial g) (of txn g) ≡ Some run
    unfolding run
    run_is = the_run.1

    pub run_fits : Fits stance run
    run_fits =
        let its_stance = have_stances g legal.shape (caller_of e) txn in_txn going in
        let same : its_stance.stance ≡ stance = cc (sym its_stance.is ∙ stance_is) in
        subst (λ (s : Stance). Fits s run) same (its_stance.fits (serial g) run run_is)

    pub run_logs : Logs (keys_in stripes (of txn g)) (log_after (own (caller_of e) g)) run
    run_logs = are_logged stripes g legal.shape (caller_of e) txn in_txn going (serial g) run run_is

    pub run_next : (r : AloneRun) → act run e ≡ Some r → alone (serial g) (of txn g ++ e ∷ []) ≡ Some r
    run_next r acts = alone-push (serial g) (of txn g) e ∙ ap (option_and_then (λ q. act q e)) run_is ∙ acts

    pub last_is : map_after (serial g) (of txn g) ≡ run.last
    last_is = ap (last_map (serial g)) run_is

    -- If an entry neither begins nor commits a transaction, and both the run and the rule of locks
    -- allow it, then the history with this entry is legal.
    pub legal_next : (r : AloneRun) → act run e ≡ Some r → is_began e ≡ false → is_commit e ≡ false → is_locked holder stripes g e ≡ true → IsLegal holder stripes (g ++ e ∷ [])
    legal_next r acts began commit locked = legal_push stripes g e legal shaped_by_row locked
        (replies-push_other g e txn legal.shape shape_next shaped_by_row commit (at_txn began)
        (legal.replies g ([], append-nil g)) (ap is_some (run_next r acts)))

    -- If an entry neither begins nor commits a transaction, it leaves the committed map unchanged.
    pub serial_next : is_began e ≡ false → is_commit e ≡ false → is_locked holder stripes g e ≡ true → serial (g ++ e ∷ []) ≡ serial g
    serial_next began commit locked = serial_is g e txn legal.shape shape_next shaped_by_row commit (at_txn began)

    -- If `is_quiet` is true for an entry, the entry leaves the committed map, the map `now` and the
    -- log unchanged.
    pub quiet_next : (held : ℕ → Option ℕ) → is_quiet e ≡ true → is_locked holder stripes g e ≡ true → ((s : ℕ) → holder_of stripes s (g ++ e ∷ []) ≡ held s)
        → Next holder stripes g e next (log_of (caller_of e) g) (serial g) (now g) held
    quiet_next held quiet locked holds =
        let kind = quiet_goes e quiet in
        let fits : FitsAfter (Some next) (act run e) = subst (λ o. FitsAfter o (act run e)) goes (fits_act stance run e stance.phase refl kind.0 kind.1 run_fits (quiet_reply run e quiet) (ap is_some goes)) in
        let after = the_some (act run e) (some_fits next (act run e) fits) in
        let same_last : map_after (serial g) (of txn g ++ e ∷ []) ≡ map_after (serial g) (of txn g) =
        ap (last_map (serial g)) (run_next after.0 after.1) ∙ quiet_last run after.0 e quiet after.1 ∙ sym last_is in
        record {
          legal = legal_next after.0 after.1 kind.0 kind.2 locked;
          stance_is = next_stance;
          other_stances = λ d other. stance-other d g e other;
          log_is = next_log ∙ quiet_log (log_after (own (caller_of e) g)) e quiet;
          other_logs = λ d other. log_of-other d g e other;
          serial_is = serial_next kind.0 kind.2 locked;
          now_is = now-push_same holder stripes g e txn legal.shape legal.locks shape_next (locks_push holder stripes g e legal.locks locked) shaped_by_row kind.2 (at_txn kind.0) kind.1 is_running_txn same_last;
          holder_is = holds;
        }

    -- If `is_quiet` is true for an entry and the entry asks for no key, it also leaves the holders
    -- of all stripes unchanged.
    pub still_next : is_quiet e ≡ true → is_locked holder stripes g e ≡ true → ((s : ℕ) → asks_in stripes s e ≡ false) → Next holder stripes g e next (log_of (caller_of e) g) (serial g) (now g) (λ s. holder_of stripes s g)
    still_next quiet locked asks = quiet_next (λ s. holder_of stripes s g) quiet locked (λ s. holder_of-other holder stripes g e callers shaped_by_row legal.shape legal.locks s (quiet_goes e quiet).1 (asks s))

-- If an entry commits nothing, it leaves the runs of other transactions unchanged. The run of its
-- own transaction changes as `act` says.
pub run-other : {holder : Holder} (stripes : ℕ) (g : List Entry) → IsLegal holder stripes g → (e : Entry) (t u : ℕ) → is_shaped g e ≡ true → is_commit e ≡ false → txn_at g e ≡ Some t → u ≢ t
    → alone (serial (g ++ e ∷ [])) (of u (g ++ e ∷ [])) ≡ alone (serial g) (of u g)
run-other stripes g legal e t u shaped commit at away =
    ap (λ m. alone m (of u (g ++ e ∷ []))) (serial_is g e t legal.shape (shape_push g e legal.shape shaped) shaped commit at)
    ∙ ap (alone (serial g)) (of-push_out u g e (λ in_u. away (same (sym in_u ∙ at))))
  where
    same : Some u ≡ Some t → u ≡ t
    same is = cc (is)

pub run-own : {holder : Holder} (stripes : ℕ) (g : List Entry) → IsLegal holder stripes g → (e : Entry) (t : ℕ) → is_shaped g e ≡ true → is_commit e ≡ false → txn_at g e ≡ Some t
    → alone (serial (g ++ e ∷ [])) (of t (g ++ e ∷ [])) ≡ option_and_then (λ r. act r e) (alone (serial g) (of t g))
run-own stripes g legal e t shaped commit at =
    ap (λ m. alone m (of t (g ++ e ∷ []))) (serial_is g e t legal.shape (shape_push g e legal.shape shaped) shaped commit at)
    ∙ ap (alone (serial g)) (of-push_in t g e at) ∙ alone-push (serial g) (of t g) e

-- An entry has the right shape exactly if `row` allows it and its number is right.
pub is_shaped_is : (g : List Entry) (e : Entry) (stance : Stance) → stance_after (own (caller_of e) g) ≡ Some stance → is_shaped g e ≡ (is_some (row stance stance.phase e) && is_numbered g e)
is_shaped_is g e stance stance_is =
    ap (λ o. is_some o && is_numbered g e) (stance-own g e ∙ ap (option_and_then (λ (s : Stance). row s s.phase e)) stance_is)
