-- Shows which stripes an open transaction holds, because it holds the stripe of each key that it
-- asked for, and that no other caller's entry changes the value of a key of these stripes.
use Rattle.std.proofs.Common.{None, Option, ◌++◌, append_assoc, ◌≡◌, ◌≢◌, ℕ, ◌==◌, Bool, true, false, cond, ◌&&◌, List, [], ◌∷◌, map, slice_get, refl, ap, sym, subst, ◌∙◌, Some}
use Rattle.std.specs.Option.{option_eq}
use Rattle.std.specs.Prelude.{nat_eq}
use Rattle.std.specs.List.{filter, list_any, AllByRecursion}
use Rattle.std.proofs.lemmas.Bool.{cases_Bool, and_parts, false≢true, eq-eqb, or_left, or_right, or_cases}
use Rattle.std.proofs.lemmas.List.{append-nil}
use mathlib.Core.Logic.{inl, inr}
use Rattle.txn_words.specs.declared.op.Op.{Op}
use Rattle.txn_words.specs.declared.entry.Entry.{Entry}
use Rattle.txn_words.specs.declared.holder.Holder.{Holder}
use Rattle.txn_words.specs.Map.{Map, get, key_of}
use Rattle.txn_trace.specs.Now.{now, now_at}
use Rattle.txn_trace.specs.History.{is_open, Line, lines_of, is_of, of}
use Rattle.txn_words.specs.Kinds.{is_commit, caller_of}
use Rattle.txn_trace.specs.Alone.{map_after, AloneRun, alone}
use Rattle.txn_trace.specs.Serial.{serial}
use Rattle.txn_trace.specs.Locks.{stripe_of, asks_in, is_in_open, holders, holder_of, LocksHold}
use Rattle.txn_words.specs.declared.stance.Phase.TheVariants.{Waiting}
use Rattle.txn_words.specs.Shape.{Stance, stance_after, own, IsShaped, is_shaped}
use Rattle.txn_trace.specs.Log.{log_after, log_of}
use Rattle.txn_trace.specs.Legal.{IsLegal, runs, is_running}
use Rattle.txn_trace.proofs.Pushes.{txn_in, txn_at, of_is}
use Rattle.txn_trace.proofs.Callers.{not_after_end, Callers, IsOwned, ended}
use Rattle.txn_trace.proofs.Shaped.{callers_of, same as same_caller}
use Rattle.txn_trace.proofs.Local.{WaitsFor}
use Rattle.txn_trace.proofs.Stripes.{are_apart, untouched, holds, keys_in}
use Rattle.txn_trace.proofs.Now.{open_going, going_open, running_of, now_at-push_commit}
use Rattle.txn_trace.proofs.Table.{get-now}
use Rattle.txn_trace.proofs.Others.{now_at-push_else}
use Rattle.txn_trace.proofs.Undoing.{IsLogged}
use Rattle.txn_trace.proofs.Logs.{Logs, are_logged, stance_logged, PhaseLogged}
use Rattle.txn_trace.proofs.StanceRuns.{the_some}
use Rattle.txn_trace.proofs.Running.{Running, running_txn, has_txn}
use Rattle.txn_trace.proofs.Holders.{AreSame, one_holder}

first_of_same : (c : ℕ) (xs : List ℕ) → AreSame xs → list_any (λ x. x == c) xs ≡ true → slice_get xs 0 ≡ Some c
first_of_same c [] same there = absurd (false≢true there)
first_of_same c (x ∷ xs) same there = ap Some (same x c (or_left _ _ (eq-eqb x x refl)) there)

module _ (stripes s : ℕ) (g : List Entry) (c t : ℕ) (callers : Callers g) (in_t : txn_in g c ≡ Some t) (going : ended t g ≡ false) where
  among_holders : (ls : List Line) → AllByRecursion (IsOwned g) ls → list_any (asks_in stripes s) (map (λ l. l.entry) (filter (is_of t) ls)) ≡ true
      → list_any (λ x. x == c) (map (λ l. caller_of l.entry) (filter (λ l. asks_in stripes s l.entry && is_in_open g l) ls)) ≡ true
  among_holders [] owned asks = absurd (false≢true asks)
  among_holders (l ∷ ls) owned asks =
      let later : list_any (λ x. x == c) (map (λ (k : Line). caller_of k.entry) (filter (λ k. asks_in stripes s k.entry && is_in_open g k) ls)) ≡ true
      → list_any (λ x. x == c) (map (λ (k : Line). caller_of k.entry) (filter (λ k. asks_in stripes s k.entry && is_in_open g k) (l ∷ ls))) ≡ true = λ there.
      elim (asks_in stripes s l.entry && is_in_open g l) as (λ b. list_any (λ x. x == c) (map (λ (k : Line). caller_of k.entry) (cond b (l ∷ filter (λ k. asks_in stripes s k.entry && is_in_open g k) ls) (filter (λ k. asks_in stripes s k.entry && is_in_open g k) ls))) ≡ true) [
        | true ↦ or_right (caller_of l.entry == c) _ there
        | false ↦ there
      ] in
      (elim (is_of t l) as (λ b. is_of t l ≡ b → list_any (asks_in stripes s) (map (λ (k : Line). k.entry) (cond b (l ∷ filter (is_of t) ls) (filter (is_of t) ls))) ≡ true
      → list_any (λ x. x == c) (map (λ (k : Line). caller_of k.entry) (filter (λ k. asks_in stripes s k.entry && is_in_open g k) (l ∷ ls))) ≡ true) [
        | false ↦ λ other h. later (among_holders ls owned.1 h)
        | true ↦ λ of_t h. elim (or_cases (asks_in stripes s l.entry) _ h) [
          | inr rest ↦ later (among_holders ls owned.1 rest)
          | inl here ↦
              let txn : l.txn ≡ Some t = of_is t l.txn of_t in
              let opened : is_in_open g l ≡ true = ap (λ o. is_in_open g (record { txn = o; entry = l.entry })) txn ∙ open_going t g going in
              let mine : caller_of l.entry ≡ c = callers.one (caller_of l.entry) c t (owned.0 t txn going) in_t in
              ap (λ b. list_any (λ x. x == c) (map (λ (k : Line). caller_of k.entry) (cond b (l ∷ filter (λ k. asks_in stripes s k.entry && is_in_open g k) ls) (filter (λ k. asks_in stripes s k.entry && is_in_open g k) ls)))) (ap (λ b. b && is_in_open g l) here ∙ opened)
              ∙ or_left (caller_of l.entry == c) _ (eq-eqb (caller_of l.entry) c mine)
        ]
      ]) refl asks

-- A caller holds each stripe that its open transaction has asked for.
pub held_by : (holder : Holder) (stripes : ℕ) (g : List Entry) → IsShaped g → LocksHold holder stripes g → (c t s : ℕ) → txn_in g c ≡ Some t → ended t g ≡ false → holds stripes s (of t g) ≡ true → holder_of stripes s g ≡ Some c
held_by holder stripes g shape locks c t s in_t going held =
    let callers = callers_of g shape in
    first_of_same c (holders stripes s g) (one_holder holder stripes g shape locks s) (among_holders stripes s g c t callers in_t going (lines_of g) callers.owned held)

abbrev pub AllHeldBy : ℕ → List Entry → ℕ → List (ℕ × Option ℕ) → Type 0
AllHeldBy stripes g c jobs = AllByRecursion (λ (job : ℕ × Option ℕ). holder_of stripes (stripe_of stripes job.0) g ≡ Some c) jobs

jobs_pass : (keys : ℕ → Bool) (P : ℕ → Type 0) → ((k : ℕ) → keys k ≡ true → P k) → (jobs : List (ℕ × Option ℕ)) (last : Map) (ms : List Map) → IsLogged keys jobs last ms → AllByRecursion (λ (job : ℕ × Option ℕ). P job.0) jobs
jobs_pass keys P to [] last ms is = tt
jobs_pass keys P to (job ∷ jobs) last [] is = absurd is
jobs_pass keys P to (job ∷ jobs) last (m ∷ ms) is = (to job.0 is.0, jobs_pass keys P to jobs m ms is.3)

module _ {holder : Holder} (stripes : ℕ) (g : List Entry) (legal : IsLegal holder stripes g) (c : ℕ) (active : is_running (stance_after (own c g)) ≡ true) where
  there : Running g c
  there = running_txn g legal.shape c active

  log_and_run : (r : AloneRun) × Logs (keys_in stripes (of there.txn g)) (log_after (own c g)) r
  log_and_run =
      let found = the_some (alone (serial g) (of there.txn g)) (legal.replies g ([], append-nil g) there.txn (open_going there.txn g there.going)) in
      (found.0, are_logged stripes g legal.shape c there.txn there.in_it there.going (serial g) found.0 found.1)

  key_held : (k : ℕ) → keys_in stripes (of there.txn g) k ≡ true → holder_of stripes (stripe_of stripes k) g ≡ Some c
  key_held k = held_by holder stripes g legal.shape legal.locks c there.txn (stripe_of stripes k) there.in_it there.going

  running_log_held : AllHeldBy stripes g c (log_of c g)
  running_log_held = jobs_pass (keys_in stripes (of there.txn g)) (λ k. holder_of stripes (stripe_of stripes k) g ≡ Some c) key_held (log_of c g) log_and_run.0.last log_and_run.0.earlier log_and_run.1.standing

  running_waits_held : (op : Op) → (log_after (own c g)).pending ≡ Some op → holder_of stripes (stripe_of stripes (key_of op)) g ≡ Some c
  running_waits_held op pending = key_held (key_of op) (subst (WaitsFor (keys_in stripes (of there.txn g))) (sym log_and_run.1.pending ∙ pending) log_and_run.1.waits)

-- In a legal history a caller that waits holds the stripe of its operation.
pub waiting_held : {holder : Holder} (stripes : ℕ) (g : List Entry) → IsLegal holder stripes g → (c : ℕ) (op : Op) (stance : Stance) → stance_after (own c g) ≡ Some stance → stance.phase ≡ Waiting op → holder_of stripes (stripe_of stripes (key_of op)) g ≡ Some c
waiting_held stripes g legal c op stance stance_is waits =
    running_waits_held stripes g legal c (ap is_running stance_is ∙ ap runs waits) op (subst (λ q. PhaseLogged q (log_after (own c g))) waits (stance_logged (own c g) stance stance_is).phase)

-- In a legal history a caller in a transaction holds the stripe of each of its standing changes.
pub log_held : {holder : Holder} (stripes : ℕ) (g : List Entry) → IsLegal holder stripes g → (c : ℕ) → is_running (stance_after (own c g)) ≡ true → AllHeldBy stripes g c (log_of c g)
log_held stripes g legal c active = running_log_held stripes g legal c active

-- If the stripes of two keys have different holders, the keys are different.
pub held_apart : (stripes : ℕ) (g : List Entry) (c d k j : ℕ) → holder_of stripes (stripe_of stripes k) g ≡ Some c → holder_of stripes (stripe_of stripes j) g ≡ Some d → c ≢ d → k ≢ j
held_apart stripes g c d k j of_c of_d apart same = apart (some_same c d (sym of_c ∙ ap (λ x. holder_of stripes (stripe_of stripes x) g) same ∙ of_d))
  where
    some_same : (a b : ℕ) → Some a ≡ Some b → a ≡ b
    some_same a b is = cc (is)

-- The open transaction through which a caller holds a stripe.
pub record HeldTxn (stripes s : ℕ) (g : List Entry) (c : ℕ) : Type 0 where
  pub txn : ℕ
  pub in_it : txn_in g c ≡ Some txn
  pub going : ended txn g ≡ false
  pub held : holds stripes s (of txn g) ≡ true

asks_among : (stripes s w : ℕ) (ls : List Line) (l : Line) (front : List Line) → l.txn ≡ Some w → asks_in stripes s l.entry ≡ true
    → list_any (asks_in stripes s) (map (λ (k : Line). k.entry) (filter (is_of w) (front ++ l ∷ ls))) ≡ true
asks_among stripes s w ls l [] of_w asks =
    ap (λ b. list_any (asks_in stripes s) (map (λ (k : Line). k.entry) (cond b (l ∷ filter (is_of w) ls) (filter (is_of w) ls)))) (ap (λ o. option_eq nat_eq o (Some w)) of_w ∙ eq-eqb w w refl)
    ∙ or_left (asks_in stripes s l.entry) _ asks
asks_among stripes s w ls l (f ∷ front) of_w asks =
    let rest = asks_among stripes s w ls l front of_w asks in
    elim (is_of w f) as (λ b. list_any (asks_in stripes s) (map (λ (k : Line). k.entry) (cond b (f ∷ filter (is_of w) (front ++ l ∷ ls)) (filter (is_of w) (front ++ l ∷ ls)))) ≡ true) [
      | true ↦ or_right (asks_in stripes s f.entry) _ rest
      | false ↦ rest
    ]

module _ (stripes s : ℕ) (g : List Entry) (c : ℕ) where
  first_line : (ls front : List Line) → front ++ ls ≡ lines_of g → AllByRecursion (IsOwned g) ls → slice_get (map (λ (l : Line). caller_of l.entry) (filter (λ l. asks_in stripes s l.entry && is_in_open g l) ls)) 0 ≡ Some c → HeldTxn stripes s g c
  first_line [] front whole owned first = absurd (cc (first))
  first_line (l ∷ ls) front whole owned first =
      (elim (asks_in stripes s l.entry && is_in_open g l) as (λ b. (asks_in stripes s l.entry && is_in_open g l) ≡ b
      → slice_get (map (λ (k : Line). caller_of k.entry) (cond b (l ∷ filter (λ k. asks_in stripes s k.entry && is_in_open g k) ls) (filter (λ k. asks_in stripes s k.entry && is_in_open g k) ls))) 0 ≡ Some c → HeldTxn stripes s g c) [
        | false ↦ λ other later. first_line ls (front ++ l ∷ []) (append_assoc front (l ∷ []) ls ∙ whole) owned.1 later
        | true ↦ λ here is.
            let parts = and_parts (asks_in stripes s l.entry) (is_in_open g l) here in
            from l.txn refl parts.0 parts.1 (same_caller (caller_of l.entry) is)
      ]) refl first
    where
      same_caller : (d : ℕ) → Some d ≡ Some c → d ≡ c
      same_caller d is = cc (is)

      from : (o : Option ℕ) → l.txn ≡ o → asks_in stripes s l.entry ≡ true → is_in_open g l ≡ true → caller_of l.entry ≡ c → HeldTxn stripes s g c
      from None none asks opened mine = absurd (false≢true (ap (λ o. is_in_open g (record { txn = o; entry = l.entry })) (sym none) ∙ opened))
      from (Some w) some asks opened mine =
          let going = going_open w g (ap (λ o. is_in_open g (record { txn = o; entry = l.entry })) (sym some) ∙ opened) in
          record {
            txn = w;
            in_it = ap (txn_in g) (sym mine) ∙ owned.0 w some going;
            going = going;
            held = subst (λ ks. list_any (asks_in stripes s) (map (λ (k : Line). k.entry) (filter (is_of w) ks)) ≡ true) whole (asks_among stripes s w ls l front some asks);
          }

-- The holder of a stripe has an open transaction that has asked for a key of the stripe.
pub holder_txn : (stripes : ℕ) (g : List Entry) → IsShaped g → (s c : ℕ) → holder_of stripes s g ≡ Some c → HeldTxn stripes s g c
holder_txn stripes g shape s c held = first_line stripes s g c (lines_of g) [] refl (callers_of g shape).owned held

-- The holder of a stripe is in a transaction. So a closed caller holds no stripe.
pub holder_running : (stripes : ℕ) (g : List Entry) → IsShaped g → (s c : ℕ) → holder_of stripes s g ≡ Some c → is_running (stance_after (own c g)) ≡ true
holder_running stripes g shape s c held = let there = holder_txn stripes g shape s c held in (callers_of g shape).running c there.txn there.in_it there.going

-- If a caller other than the entry's caller holds the stripe of a key, the entry does not change
-- the key's value in the map `now`.
pub get-now_held : {holder : Holder} (stripes : ℕ) (g : List Entry) (e : Entry) → IsLegal holder stripes g → IsLegal holder stripes (g ++ e ∷ []) → (k d : ℕ) → holder_of stripes (stripe_of stripes k) g ≡ Some d → d ≢ caller_of e
    → get (now (g ++ e ∷ [])) k ≡ get (now g) k
get-now_held {holder} stripes g e legal after k d held other = get-now (g ++ e ∷ []) k ∙ at_key ∙ sym (get-now g k)
  where
    shaped : is_shaped g e ≡ true
    shaped = after.shape g e ([], append-nil (g ++ e ∷ []))

    owner : HeldTxn stripes (stripe_of stripes k) g d
    owner = holder_txn stripes g legal.shape (stripe_of stripes k) d held

    mine : (t : ℕ) × (txn_at g e ≡ Some t)
    mine = has_txn g e legal.shape shaped

    apart : owner.txn ≢ mine.0
    apart same = other (sym (same_caller g e (callers_of g legal.shape) shaped d owner.txn (mine.1 ∙ ap Some (sym same)) owner.in_it))

    not_ended : ended mine.0 g ≡ false
    not_ended = elim (cases_Bool (ended mine.0 g)) [
      | inl done ↦ absurd (not_after_end g e mine.0 (callers_of g legal.shape) shaped done mine.1)
      | inr going ↦ going
    ]

    at_key : now_at (g ++ e ∷ []) k ≡ now_at g k
    at_key = elim (cases_Bool (is_commit e)) [
      | inr goes ↦ now_at-push_else holder stripes g e mine.0 legal.shape legal.locks after.shape after.locks shaped goes mine.1 k owner.txn (running_of g d owner.txn owner.in_it owner.going) apart owner.held
      | inl commits ↦ now_at-push_commit holder stripes g e mine.0 legal.shape legal.locks after.shape shaped commits mine.1 not_ended k
    ]

-- At each key, at most one open transaction has a last map that differs from the committed map.
pub one_differs : {holder : Holder} (stripes : ℕ) (g : List Entry) → IsLegal holder stripes g → (k t u : ℕ) → is_open t g ≡ true → is_open u g ≡ true
    → get (map_after (serial g) (of t g)) k ≢ get (serial g) k → get (map_after (serial g) (of u g)) k ≢ get (serial g) k → t ≡ u
one_differs {holder} stripes g legal k t u open_t open_u differs_t differs_u =
    are_apart holder stripes g legal.shape legal.locks t u (stripe_of stripes k) (going_open t g open_t) (going_open u g open_u) (asks_if t differs_t) (asks_if u differs_u)
  where
    asks_if : (v : ℕ) → get (map_after (serial g) (of v g)) k ≢ get (serial g) k → keys_in stripes (of v g) k ≡ true
    asks_if v differs = elim (cases_Bool (keys_in stripes (of v g) k)) [
      | inl asks ↦ asks
      | inr none ↦ absurd (differs (untouched stripes (of v g) (serial g) (serial g) k none))
    ]
