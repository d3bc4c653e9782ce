-- Shows for each kind of entry when it is legal, and the stances, logs, holders and maps after it,
-- because `Next` has what all kinds have in common, and its caller's stance, log and stripes decide
-- the rest.
use Rattle.std.proofs.Common.{[], drop, ◌≡◌, ℕ, ◌+◌, ◌-◌, ◌<◌, ◌==◌, Bool, true, cond, List, ◌∷◌, ◌++◌, take, length, slice_index, refl, ap, sym, subst, ◌∙◌, Some, None, Option, is_some, arith}
use Rattle.std.specs.Option.{option_eq}
use Rattle.std.specs.Prelude.{nat_eq}
use Rattle.std.specs.List.{list_any}
use Rattle.std.proofs.lemmas.Bool.{cases_Bool, lt-ltb, and_from, eq-eqb, cases_eq, ne_eqb}
use Rattle.std.proofs.lemmas.List.{append-nil}
use mathlib.Core.Logic.{inl, inr}
use Rattle.txn_words.specs.declared.op.Op.{Op}
use Rattle.txn_words.specs.declared.entry.Entry.{Entry}
use Rattle.txn_words.specs.declared.holder.Holder.{Holder}
use Rattle.txn_words.specs.declared.entry.Entry.TheVariants.{Began, Asked, Did, Saved, Leave, Undone, Returned, Committed, Busy, Aborted}
use Rattle.txn_words.specs.Map.{Map, get, key_of, reply_of, after, set_at}
use Rattle.txn_trace.specs.History.{of}
use Rattle.txn_words.specs.Kinds.{is_began, is_commit}
use Rattle.txn_trace.specs.Alone.{alone}
use Rattle.txn_trace.specs.Serial.{serial}
use Rattle.txn_trace.specs.Now.{now}
use Rattle.txn_trace.specs.Locks.{stripe_of, holder_of, is_locked}
use Rattle.txn_words.specs.declared.stance.Phase.TheVariants.{Closed, Opened, Waiting, LeavingTo, LeavingToEnd}
use Rattle.txn_words.specs.Shape.{Stance, closed_stance, changes, row, stance_after, own, how_many}
use Rattle.txn_trace.specs.Log.{Log, log_after, log_of, log_did}
use Rattle.txn_trace.specs.Legal.{IsLegal, runs}
use Rattle.txn_words.proofs.Maps.{same_map, get-set_at}
use Rattle.txn_trace.proofs.Pushes.{txn_in, txn_at}
use Rattle.txn_trace.proofs.Shaped.{callers_of}
use Rattle.txn_trace.proofs.Stripes.{keys_in, are_apart}
use Rattle.txn_trace.proofs.Now.{running_of, now_at-holder, serial-commit, replies-push_commit, now_at-push_commit}
use Rattle.txn_trace.proofs.Table.{get-now}
use Rattle.txn_trace.proofs.BadEntries.{legal_push, shape_push, locks_push}
use Rattle.txn_trace.proofs.Others.{replies-push_other, serial_is}
use Rattle.txn_trace.proofs.StanceRuns.{none_before, have_stances}
use Rattle.txn_trace.proofs.Acting.{did_legal, now-did}
use Rattle.txn_trace.proofs.Undoing.{IsLogged, undone_legal, get-now_undone, get-now_undone_other}
use Rattle.txn_trace.proofs.Bounds.{now-began, now-aborted, unchanged_run, first_map, StartsAt, alone_starts}
use Rattle.txn_trace.proofs.Logs.{PhaseLogged, stance_logged}
use Rattle.txn_trace.proofs.Holders.{holder_of-other, holder_of-end, holder_of-asked}
use Rattle.txn_trace.proofs.EntrySteps.{Next, stance-other, log_of-other, txn, in_txn, going, at_txn, run, run_is, run_fits, run_logs, last_is, shaped_by_row, next_stance, next_log, legal_next, serial_next, quiet_next, still_next}
use Rattle.txn_trace.proofs.Settled.{settled, settled_out, settled_in, same_as_first, named_passes}

abbrev is_active : Stance → Type 0
is_active stance = runs stance.phase ≡ true

-- The entry `Asked` is allowed if the caller is open and no other caller holds the stripe of the
-- key. After the entry, the caller holds this stripe.
pub asked : {holder : Holder} (stripes : ℕ) (g : List Entry) → IsLegal holder stripes g → (c : ℕ) (op : Op) (stance : Stance) → stance_after (own c g) ≡ Some stance → stance.phase ≡ Opened → is_locked holder stripes g (Asked c op) ≡ true
    → Next holder stripes g (Asked c op) (record stance { phase = Waiting op }) (log_of c g) (serial g) (now g) (λ s. cond (stripe_of stripes (key_of op) == s) (Some c) (holder_of stripes s g))
asked {holder} stripes g legal c op stance stance_is opened locked =
    let next : Stance = record stance { phase = Waiting op } in
    let goes : row stance stance.phase (Asked c op) ≡ Some next = ap (λ q. row stance q (Asked c op)) opened in
    let active : is_active stance = ap runs opened in
    quiet_next stripes g legal (Asked c op) stance next stance_is goes refl active (λ s. cond (stripe_of stripes (key_of op) == s) (Some c) (holder_of stripes s g)) refl locked
    (holder_of-asked holder stripes g c (txn stripes g legal (Asked c op) stance next stance_is goes refl active) op (callers_of g legal.shape) (shaped_by_row stripes g legal (Asked c op) stance next stance_is goes refl) locked
    (at_txn stripes g legal (Asked c op) stance next stance_is goes refl active refl))

-- The entry `Saved` is allowed if the caller is open. The stance then notes the number of the
-- caller's standing changes.
pub saved : {holder : Holder} (stripes : ℕ) (g : List Entry) → IsLegal holder stripes g → (c : ℕ) (stance : Stance) → stance_after (own c g) ≡ Some stance → stance.phase ≡ Opened
    → Next holder stripes g (Saved c) (record stance { kept = stance.kept ++ stance.standing ∷ [] }) (log_of c g) (serial g) (now g) (λ s. holder_of stripes s g)
saved stripes g legal c stance stance_is opened =
    still_next stripes g legal (Saved c) stance (record stance { kept = stance.kept ++ stance.standing ∷ [] }) stance_is (ap (λ q. row stance q (Saved c)) opened) refl (ap runs opened) refl refl (λ s. refl)

-- The entry `Leave` without a level is allowed if the caller is open. It starts an abort.
pub left_to_end : {holder : Holder} (stripes : ℕ) (g : List Entry) → IsLegal holder stripes g → (c : ℕ) (stance : Stance) → stance_after (own c g) ≡ Some stance → stance.phase ≡ Opened
    → Next holder stripes g (Leave c None) (record stance { phase = LeavingToEnd }) (log_of c g) (serial g) (now g) (λ s. holder_of stripes s g)
left_to_end stripes g legal c stance stance_is opened =
    still_next stripes g legal (Leave c None) stance (record stance { phase = LeavingToEnd }) stance_is (ap (λ q. row stance q (Leave c None)) opened) refl (ap runs opened) refl refl (λ s. refl)

-- The entry `Leave` without a level is allowed if the caller waits for the reply to an operation.
-- It withdraws the operation and starts an abort.
pub withdrawn : {holder : Holder} (stripes : ℕ) (g : List Entry) → IsLegal holder stripes g → (c : ℕ) (op : Op) (stance : Stance) → stance_after (own c g) ≡ Some stance → stance.phase ≡ Waiting op
    → Next holder stripes g (Leave c None) (record stance { phase = LeavingToEnd }) (log_of c g) (serial g) (now g) (λ s. holder_of stripes s g)
withdrawn stripes g legal c op stance stance_is waits =
    still_next stripes g legal (Leave c None) stance (record stance { phase = LeavingToEnd }) stance_is (ap (λ q. row stance q (Leave c None)) waits) refl (ap runs waits) refl refl (λ s. refl)

-- The entry `Leave` with a level is allowed if the caller is open and has this level. It starts the
-- return to the level.
pub left_to : {holder : Holder} (stripes : ℕ) (g : List Entry) → IsLegal holder stripes g → (c n : ℕ) (stance : Stance) → stance_after (own c g) ≡ Some stance → stance.phase ≡ Opened → n < length stance.kept
    → Next holder stripes g (Leave c (Some n)) (record stance { phase = LeavingTo n }) (log_of c g) (serial g) (now g) (λ s. holder_of stripes s g)
left_to stripes g legal c n stance stance_is opened within =
    still_next stripes g legal (Leave c (Some n)) stance (record stance { phase = LeavingTo n }) stance_is
    (ap (λ q. row stance q (Leave c (Some n))) opened ∙ ap (λ b. cond b (Some (record stance { phase = LeavingTo n })) None) (lt-ltb n (length stance.kept) within)) refl (ap runs opened) refl refl (λ s. refl)

-- The entry `Returned` is allowed when the caller has taken back every change above the level that
-- it is returning to. Later savepoints are dropped.
pub returned : {holder : Holder} (stripes : ℕ) (g : List Entry) → IsLegal holder stripes g → (c n : ℕ) (stance : Stance) → stance_after (own c g) ≡ Some stance → stance.phase ≡ LeavingTo n → slice_index stance.kept n ≡ stance.standing
    → Next holder stripes g (Returned c n) (record stance { phase = Opened; kept = take (n + 1) stance.kept }) (log_of c g) (serial g) (now g) (λ s. holder_of stripes s g)
returned stripes g legal c n stance stance_is leaving reached =
    let next : Stance = record stance { phase = Opened; kept = take (n + 1) stance.kept } in
    still_next stripes g legal (Returned c n) stance next stance_is
    (ap (λ q. row stance q (Returned c n)) leaving ∙ ap (λ b. cond b (Some next) None) (and_from (n == n) _ (eq-eqb n n refl) (eq-eqb _ _ reached))) refl (ap runs leaving) refl refl (λ s. refl)

-- The entry `Busy` is allowed if the caller is open and the rule of locks allows the entry. It
-- starts an abort.
pub busy : {holder : Holder} (stripes : ℕ) (g : List Entry) → IsLegal holder stripes g → (c : ℕ) (op : Op) (x : ℕ) (stance : Stance) → stance_after (own c g) ≡ Some stance → stance.phase ≡ Opened → is_locked holder stripes g (Busy c op x) ≡ true
    → Next holder stripes g (Busy c op x) (record stance { phase = LeavingToEnd }) (log_of c g) (serial g) (now g) (λ s. holder_of stripes s g)
busy stripes g legal c op x stance stance_is opened locked =
    still_next stripes g legal (Busy c op x) stance (record stance { phase = LeavingToEnd }) stance_is (ap (λ q. row stance q (Busy c op x)) opened) refl (ap runs opened) refl locked (λ s. refl)

-- The entry `Began` is allowed if the caller is closed and the entry has the next transaction
-- number.
pub began : {holder : Holder} (stripes : ℕ) (g : List Entry) → IsLegal holder stripes g → (c t : ℕ) (stance : Stance) → stance_after (own c g) ≡ Some stance → stance.phase ≡ Closed → t ≡ how_many is_began g + 1
    → Next holder stripes g (Began c t) (record closed_stance { phase = Opened }) [] (serial g) (now g) (λ s. holder_of stripes s g)
began {holder} stripes g legal c t stance stance_is closed numbered =
    let e : Entry = Began c t in
    let next : Stance = record closed_stance { phase = Opened } in
    let goes : row stance stance.phase e ≡ Some next = ap (λ q. row stance q e) closed in
    let callers = callers_of g legal.shape in
    let number : (t == how_many is_began g + 1) ≡ true = eq-eqb t _ numbered in
    let shaped = shaped_by_row stripes g legal e stance next stance_is goes number in
    let at : txn_at g e ≡ Some t = ap (λ b. cond b (Some t) (txn_in g c)) (eq-eqb c c refl) in
    let none : of t g ≡ [] = none_before g e callers shaped (have_stances g legal.shape) t refl at in
    let shape_after = shape_push g e legal.shape shaped in
    let locks_after = locks_push holder stripes g e legal.locks refl in
    record {
      legal = legal_push stripes g e legal shaped refl
          (replies-push_other g e t legal.shape shape_after shaped refl at (legal.replies g ([], append-nil g))
          (ap (λ es. is_some (alone (serial g) (es ++ e ∷ []))) none));
      stance_is = next_stance stripes g legal e stance next stance_is goes number;
      other_stances = λ d other. stance-other d g e other;
      log_is = next_log stripes g legal e stance next stance_is goes number;
      other_logs = λ d other. log_of-other d g e other;
      serial_is = serial_is g e t legal.shape shape_after shaped refl at;
      now_is = now-began stripes g legal c t shaped at;
      holder_is = λ s. holder_of-other holder stripes g e callers shaped legal.shape legal.locks s refl refl;
    }

-- The entry `Aborted` is allowed if the caller is aborting and has no standing changes. It closes
-- the caller and frees its stripes.
pub aborted : {holder : Holder} (stripes : ℕ) (g : List Entry) → IsLegal holder stripes g → (c : ℕ) (stance : Stance) → stance_after (own c g) ≡ Some stance → stance.phase ≡ LeavingToEnd → stance.standing ≡ 0
    → Next holder stripes g (Aborted c) closed_stance [] (serial g) (now g) (λ s. cond (option_eq nat_eq (holder_of stripes s g) (Some c)) None (holder_of stripes s g))
aborted {holder} stripes g legal c stance stance_is leaving none =
    let e : Entry = Aborted c in
    let goes : row stance stance.phase e ≡ Some closed_stance = ap (λ q. row stance q e) leaving ∙ ap (λ b. cond b (Some closed_stance) None) (eq-eqb stance.standing 0 none) in
    let active : is_active stance = ap runs leaving in
    let shaped = shaped_by_row stripes g legal e stance closed_stance stance_is goes refl in
    let at = at_txn stripes g legal e stance closed_stance stance_is goes refl active refl in
    let the_run = run stripes g legal e stance closed_stance stance_is goes refl active in
    let run_is = run_is stripes g legal e stance closed_stance stance_is goes refl active in
    let unchanged : the_run.last ≡ serial g = unchanged_run (serial g) (of (txn stripes g legal e stance closed_stance stance_is goes refl active) g) the_run run_is (no_elements the_run.earlier (sym (run_fits stripes g legal e stance closed_stance stance_is goes refl active).standing ∙ none)) in
    record {
      legal = legal_next stripes g legal e stance closed_stance stance_is goes refl active the_run refl refl refl refl;
      stance_is = next_stance stripes g legal e stance closed_stance stance_is goes refl;
      other_stances = λ d other. stance-other d g e other;
      log_is = next_log stripes g legal e stance closed_stance stance_is goes refl;
      other_logs = λ d other. log_of-other d g e other;
      serial_is = serial_next stripes g legal e stance closed_stance stance_is goes refl active refl refl refl;
      now_is = now-aborted stripes g legal c _ shaped at (last_is stripes g legal e stance closed_stance stance_is goes refl active ∙ unchanged);
      holder_is = λ s. holder_of-end holder stripes g e (callers_of g legal.shape) shaped legal.shape legal.locks s _ refl at;
    }
  where
    no_elements : {A : Type 0} (xs : List A) → length xs ≡ 0 → xs ≡ []
    no_elements [] is = refl
    no_elements (x ∷ xs) is = absurd (omega arith)

-- The entry `Did` is allowed if the caller waits, and the reply is the one that the map `now` gives
-- to the caller's operation. The operation is applied to the map `now`. If it makes a change, the
-- change is added to the caller's log.
pub did : {holder : Holder} (stripes : ℕ) (g : List Entry) → IsLegal holder stripes g → (c : ℕ) (op : Op) (x : Option ℕ) (stance : Stance) → stance_after (own c g) ≡ Some stance → stance.phase ≡ Waiting op → x ≡ reply_of (now g) op
    → Next holder stripes g (Did c x) (record stance { phase = Opened; standing = cond (changes op x) (stance.standing + 1) stance.standing })
    (cond (changes op x) ((key_of op, x) ∷ log_of c g) (log_of c g)) (serial g) (after (now g) op) (λ s. holder_of stripes s g)
did {holder} stripes g legal c op x stance stance_is waits right =
    let e : Entry = Did c x in
    let next : Stance = record stance { phase = Opened; standing = cond (changes op x) (stance.standing + 1) stance.standing } in
    let goes : row stance stance.phase e ≡ Some next = ap (λ q. row stance q e) waits in
    let active : is_active stance = ap runs waits in
    let shaped = shaped_by_row stripes g legal e stance next stance_is goes refl in
    let in_txn = in_txn stripes g legal e stance next stance_is goes refl active in
    let going = going stripes g legal e stance next stance_is goes refl active in
    let log : Log = log_after (own c g) in
    let pending : log.pending ≡ Some op = subst (λ q. PhaseLogged q log) waits (stance_logged (own c g) stance stance_is).phase in
    record {
      legal = did_legal stripes g legal c _ op x stance in_txn going stance_is waits right shaped;
      stance_is = next_stance stripes g legal e stance next stance_is goes refl;
      other_stances = λ d other. stance-other d g e other;
      log_is = next_log stripes g legal e stance next stance_is goes refl ∙ ap (λ p. (log_did log p x).standing) pending;
      other_logs = λ d other. log_of-other d g e other;
      serial_is = serial_next stripes g legal e stance next stance_is goes refl active refl refl refl;
      now_is = now-did stripes g legal c _ op x stance in_txn going stance_is waits right shaped;
      holder_is = λ s. holder_of-other holder stripes g e (callers_of g legal.shape) shaped legal.shape legal.locks s refl refl;
    }

-- The length of a caller's log is the number of standing changes in the caller's stance.
pub length-log_of : (g : List Entry) (c : ℕ) (stance : Stance) → stance_after (own c g) ≡ Some stance → length (log_of c g) ≡ stance.standing
length-log_of g c stance stance_is = (stance_logged (own c g) stance stance_is).count

earlier_map : (keys : ℕ → Bool) (job : ℕ × Option ℕ) (jobs : List (ℕ × Option ℕ)) (last : Map) (ms : List Map) → IsLogged keys (job ∷ jobs) last ms → (m : Map) × (rest : List Map) × (ms ≡ m ∷ rest)
earlier_map keys job jobs last [] is = absurd is
earlier_map keys job jobs last (m ∷ ms) is = (m, ms, refl)

undone_by : {holder : Holder} (stripes : ℕ) (g : List Entry) (legal : IsLegal holder stripes g) (c : ℕ) (stance : Stance) (stance_is : stance_after (own c g) ≡ Some stance) (active : is_active stance)
    → row stance stance.phase (Undone c) ≡ Some (record stance { standing = stance.standing - 1 }) → (job : ℕ × Option ℕ) (jobs : List (ℕ × Option ℕ)) → log_of c g ≡ job ∷ jobs
    → Next holder stripes g (Undone c) (record stance { standing = stance.standing - 1 }) jobs (serial g) (set_at (now g) job.0 job.1) (λ s. holder_of stripes s g)
undone_by {holder} stripes g legal c stance stance_is active goes job jobs log_is =
    let e : Entry = Undone c in
    let next : Stance = record stance { standing = stance.standing - 1 } in
    let shaped = shaped_by_row stripes g legal e stance next stance_is goes refl in
    let t : ℕ = txn stripes g legal e stance next stance_is goes refl active in
    let in_txn = in_txn stripes g legal e stance next stance_is goes refl active in
    let going = going stripes g legal e stance next stance_is goes refl active in
    let the_run = run stripes g legal e stance next stance_is goes refl active in
    let run_is = run_is stripes g legal e stance next stance_is goes refl active in
    let logs = run_logs stripes g legal e stance next stance_is goes refl active in
    let logged : IsLogged (keys_in stripes (of t g)) (job ∷ jobs) the_run.last the_run.earlier = subst (λ js. IsLogged (keys_in stripes (of t g)) js the_run.last the_run.earlier) log_is logs.standing in
    let before = earlier_map (keys_in stripes (of t g)) job jobs the_run.last the_run.earlier logged in
    let logged' : IsLogged (keys_in stripes (of t g)) (job ∷ jobs) the_run.last (before.0 ∷ before.1) = subst (IsLogged (keys_in stripes (of t g)) (job ∷ jobs) the_run.last) before.2 logged in
    record {
      legal = undone_legal stripes g legal c t the_run job jobs before.0 before.1 in_txn going run_is before.2 logged' shaped;
      stance_is = next_stance stripes g legal e stance next stance_is goes refl;
      other_stances = λ d other. stance-other d g e other;
      log_is = next_log stripes g legal e stance next stance_is goes refl ∙ ap (drop 1) log_is;
      other_logs = λ d other. log_of-other d g e other;
      serial_is = serial_next stripes g legal e stance next stance_is goes refl active refl refl refl;
      now_is = same_map (now (g ++ e ∷ [])) (set_at (now g) job.0 job.1) (λ q. elim (cases_eq q job.0) [
        | inl same ↦ ap (get (now (g ++ e ∷ []))) same ∙ get-now_undone stripes g legal c t the_run job jobs before.0 before.1 in_txn going run_is before.2 logged' shaped
            ∙ sym (get-set_at (now g) job.0 job.1 q ∙ ap (λ b. cond b job.1 (get (now g) q)) (eq-eqb q job.0 same))
        | inr other ↦ get-now_undone_other stripes g legal c t the_run job jobs before.0 before.1 in_txn going run_is before.2 logged' shaped q other
            ∙ sym (get-set_at (now g) job.0 job.1 q ∙ ap (λ b. cond b job.1 (get (now g) q)) (ne_eqb q job.0 other))
      ]);
      holder_is = λ s. holder_of-other holder stripes g e (callers_of g legal.shape) shaped legal.shape legal.locks s refl refl;
    }

-- The entry `Undone` is allowed if the caller is returning to a level and has standing changes
-- above this level. It takes the newest change back: the change's key gets the value from before
-- the change, and every other key is unchanged.
pub undone_to : {holder : Holder} (stripes : ℕ) (g : List Entry) → IsLegal holder stripes g → (c n : ℕ) (stance : Stance) → stance_after (own c g) ≡ Some stance → stance.phase ≡ LeavingTo n → slice_index stance.kept n < stance.standing
    → (job : ℕ × Option ℕ) (jobs : List (ℕ × Option ℕ)) → log_of c g ≡ job ∷ jobs
    → Next holder stripes g (Undone c) (record stance { standing = stance.standing - 1 }) jobs (serial g) (set_at (now g) job.0 job.1) (λ s. holder_of stripes s g)
undone_to stripes g legal c n stance stance_is leaving more job jobs log_is =
    undone_by stripes g legal c stance stance_is (ap runs leaving)
    (ap (λ q. row stance q (Undone c)) leaving ∙ ap (λ b. cond b (Some (record stance { standing = stance.standing - 1 })) None) (lt-ltb (slice_index stance.kept n) stance.standing more)) job jobs log_is

-- The entry `Undone` is allowed if the caller is aborting and has standing changes. It takes the
-- newest change back: the change's key gets the value from before the change, and every other key
-- is unchanged.
pub undone_to_end : {holder : Holder} (stripes : ℕ) (g : List Entry) → IsLegal holder stripes g → (c : ℕ) (stance : Stance) → stance_after (own c g) ≡ Some stance → stance.phase ≡ LeavingToEnd → 0 < stance.standing
    → (job : ℕ × Option ℕ) (jobs : List (ℕ × Option ℕ)) → log_of c g ≡ job ∷ jobs
    → Next holder stripes g (Undone c) (record stance { standing = stance.standing - 1 }) jobs (serial g) (set_at (now g) job.0 job.1) (λ s. holder_of stripes s g)
undone_to_end stripes g legal c stance stance_is leaving some job jobs log_is =
    undone_by stripes g legal c stance stance_is (ap runs leaving)
    (ap (λ q. row stance q (Undone c)) leaving ∙ ap (λ b. cond b (Some (record stance { standing = stance.standing - 1 })) None) (lt-ltb 0 stance.standing some)) job jobs log_is

-- If a caller's stance counts at least one standing change, the caller's log is not empty.
pub newest : (g : List Entry) (c : ℕ) (stance : Stance) → stance_after (own c g) ≡ Some stance → 0 < stance.standing → (job : ℕ × Option ℕ) × (jobs : List (ℕ × Option ℕ)) × (log_of c g ≡ job ∷ jobs)
newest g c stance stance_is some = at (log_of c g) refl
  where
    at : (xs : List (ℕ × Option ℕ)) → log_of c g ≡ xs → (job : ℕ × Option ℕ) × (jobs : List (ℕ × Option ℕ)) × (log_of c g ≡ job ∷ jobs)
    at [] is = let none : stance.standing ≡ 0 = sym (length-log_of g c stance stance_is) ∙ ap length is in absurd (omega arith)
    at (job ∷ jobs) is = (job, jobs, is)

-- The entry `Committed` is allowed if the caller is open and the entry has the next commit number.
-- The map `now` is unchanged, and the caller's standing changes are added to the committed map. The
-- caller's stripes become free.
pub committed : {holder : Holder} (stripes : ℕ) (g : List Entry) → IsLegal holder stripes g → (c p : ℕ) (stance : Stance) → stance_after (own c g) ≡ Some stance → stance.phase ≡ Opened → p ≡ how_many is_commit g + 1
    → Next holder stripes g (Committed c p) closed_stance [] (settled (serial g) (now g) (log_of c g)) (now g) (λ s. cond (option_eq nat_eq (holder_of stripes s g) (Some c)) None (holder_of stripes s g))
committed {holder} stripes g legal c p stance stance_is opened numbered =
    let e : Entry = Committed c p in
    let goes : row stance stance.phase e ≡ Some closed_stance = ap (λ q. row stance q e) opened in
    let active : is_active stance = ap runs opened in
    let number : (p == how_many is_commit g + 1) ≡ true = eq-eqb p _ numbered in
    let shaped = shaped_by_row stripes g legal e stance closed_stance stance_is goes number in
    let t : ℕ = txn stripes g legal e stance closed_stance stance_is goes number active in
    let in_t = in_txn stripes g legal e stance closed_stance stance_is goes number active in
    let not_ended = going stripes g legal e stance closed_stance stance_is goes number active in
    let at : txn_at g e ≡ Some t = in_t in
    let the_run = run stripes g legal e stance closed_stance stance_is goes number active in
    let runs_so = run_is stripes g legal e stance closed_stance stance_is goes number active in
    let logs = run_logs stripes g legal e stance closed_stance stance_is goes number active in
    let last_so = last_is stripes g legal e stance closed_stance stance_is goes number active in
    let shape_after = shape_push g e legal.shape shaped in
    let keys : ℕ → Bool = keys_in stripes (of t g) in
    let first_is : first_map the_run.last the_run.earlier ≡ serial g = subst (StartsAt (serial g)) runs_so (alone_starts (serial g) (of t g)) in
    let at_key : (k : ℕ) → get the_run.last k ≡ get (settled (serial g) (now g) (log_of c g)) k = λ k. elim (cases_Bool (list_any (λ (job : ℕ × Option ℕ). k == job.0) (log_of c g))) [
      | inl there ↦
          let held = named_passes keys k (log_of c g) the_run.last the_run.earlier logs.standing there in
          sym (settled_in (now g) k (log_of c g) (serial g) there ∙ get-now g k
          ∙ now_at-holder stripes g k (are_apart holder stripes g legal.shape legal.locks) t (running_of g c t in_t not_ended) held ∙ ap (λ m. get m k) last_so)
      | inr out ↦ same_as_first keys k (log_of c g) the_run.last the_run.earlier logs.standing out ∙ ap (λ m. get m k) first_is ∙ sym (settled_out (now g) k (log_of c g) (serial g) out)
    ] in
    record {
      legal = legal_push stripes g e legal shaped refl (replies-push_commit holder stripes g e t legal.shape legal.locks shape_after shaped refl at not_ended (legal.replies g ([], append-nil g)));
      stance_is = next_stance stripes g legal e stance closed_stance stance_is goes number;
      other_stances = λ d other. stance-other d g e other;
      log_is = next_log stripes g legal e stance closed_stance stance_is goes number;
      other_logs = λ d other. log_of-other d g e other;
      serial_is = serial-commit holder stripes g e t legal.shape legal.locks shape_after shaped refl at not_ended ∙ last_so ∙ same_map the_run.last (settled (serial g) (now g) (log_of c g)) at_key;
      now_is = same_map (now (g ++ e ∷ [])) (now g) (λ k. get-now (g ++ e ∷ []) k ∙ now_at-push_commit holder stripes g e t legal.shape legal.locks shape_after shaped refl at not_ended k ∙ sym (get-now g k));
      holder_is = λ s. holder_of-end holder stripes g e (callers_of g legal.shape) shaped legal.shape legal.locks s t refl at;
    }
