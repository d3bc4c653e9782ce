-- Shows that the log of a caller agrees with its stance and with the run of its transaction, because
-- each entry changes all three alike.
use Rattle.std.proofs.Common.{◌≡◌, ◌≢◌, ℕ, ◌+◌, ◌-◌, ◌==◌, ◌&&◌, Bool, true, false, cond, List, [], ◌∷◌, ◌++◌, length, take, drop, slice_get, slice_index, refl, ap, sym, subst, ◌∙◌, Some, None, Option, arith}
use Rattle.std.specs.Prelude.{nat_eq, nat_lt}
use Rattle.std.specs.Option.{option_eq, option_and_then}
use Rattle.std.specs.List.{fold}
use Rattle.std.proofs.lemmas.Bool.{false≢true, or_left, or_right, or_cases, eq-eqb}
use Rattle.std.proofs.lemmas.List.Sums.{fold-append}
use mathlib.Core.Logic.{inl, inr}
use Rattle.txn_words.specs.declared.op.Op.{Op}
use Rattle.txn_words.specs.declared.entry.Entry.{Entry}
use Rattle.txn_words.specs.declared.entry.Entry.TheVariants.{Began, Asked, Did, Saved, Leave, Undone, Returned, Committed, Busy, Aborted}
use Rattle.txn_words.specs.Map.{Map, key_of, reply_of, after, is_change}
use Rattle.txn_trace.specs.History.{of}
use Rattle.txn_words.specs.Kinds.{caller_of, is_began}
use Rattle.txn_trace.specs.Alone.{AloneRun, start, number_of_maps, with_op, act_did, act_undone, act, alone}
use Rattle.txn_trace.specs.Locks.{asks_in, stripe_of}
use Rattle.txn_words.specs.declared.stance.Phase.{Phase}
use Rattle.txn_words.specs.declared.stance.Phase.TheVariants.{Closed, Opened, Waiting, LeavingTo, LeavingToEnd}
use Rattle.txn_words.specs.Shape.{Stance, row, stance_after, closed_stance, changes, own, is_shaped, IsShaped}
use Rattle.txn_trace.specs.Log.{Log, no_log, log_did, log_step, log_after}
use Rattle.txn_trace.proofs.Pushes.{txn_in, txn_at, of-push_in, of-push_out, own-push_in, own-push_out, alone-push}
use Rattle.txn_trace.proofs.Callers.{Callers, is_end, ended, in_or_out, began_or_not, at_is, not_began_is, not_equal}
use Rattle.txn_trace.proofs.Shaped.{ended_in, not_ended_before, step, same}
use Rattle.txn_trace.proofs.Local.{WaitsFor, AsksFor}
use Rattle.txn_trace.proofs.Stripes.{keys_in}
use Rattle.txn_trace.proofs.Now.{same_option}
use Rattle.txn_words.proofs.Effects.{changes-reply}
use Rattle.txn_trace.proofs.StanceRuns.{none_before, HaveStances, stances_push, alone_began}
use Rattle.txn_trace.proofs.Undoing.{IsLogged, logged_add}
use Rattle.txn_trace.proofs.Inductions.{by_entries}

-- `log_step` gives the log of an entry's caller after the entry. The logs of all other callers are
-- unchanged.
pub log_after-push : (es : List Entry) (e : Entry) → log_after (es ++ e ∷ []) ≡ log_step (log_after es) e
log_after-push es e = fold-append log_step no_log es (e ∷ [])

pub log_after-own : (g : List Entry) (e : Entry) → log_after (own (caller_of e) (g ++ e ∷ [])) ≡ log_step (log_after (own (caller_of e) g)) e
log_after-own g e = ap log_after (own-push_in (caller_of e) g e refl) ∙ log_after-push (own (caller_of e) g) e

pub log_after-other : (c : ℕ) (g : List Entry) (e : Entry) → c ≢ caller_of e → log_after (own c (g ++ e ∷ [])) ≡ log_after (own c g)
log_after-other c g e other = ap log_after (own-push_out c g e (not_equal c (caller_of e) other))

-- If an operation waits in this phase, the same operation waits in the log.
abbrev pub PhaseLogged : Phase → Log → Type 0
PhaseLogged (Waiting op) log = log.pending ≡ Some op
PhaseLogged _ log = Unit {0}

-- The number of changes in the log is the stance's number of standing changes. If the stance waits for
-- the reply to an operation, this operation waits in the log too.
pub record StanceLogged (s : Stance) (log : Log) : Type 0 where
  pub count : length log.standing ≡ s.standing
  pub phase : PhaseLogged s.phase log

abbrev pub LoggedAfter : Option Stance → Log → Type 0
LoggedAfter None log = Unit {0}
LoggedAfter (Some s) log = StanceLogged s log

one_less : {A : Type 0} (xs : List A) → length (drop 1 xs) ≡ length xs - 1
one_less [] = refl
one_less (x ∷ xs) = omega arith

kept_if : (b : Bool) (s : Stance) (log : Log) → StanceLogged s log → LoggedAfter (cond b (Some s) None) log
kept_if true s log is = is
kept_if false s log is = tt

noted_if : (b : Bool) (s : Stance) (jobs : List (ℕ × Option ℕ)) (job : ℕ × Option ℕ) → length jobs ≡ s.standing
    → StanceLogged (record s { phase = Opened; standing = cond b (s.standing + 1) s.standing }) (record { pending = None; standing = cond b (job ∷ jobs) jobs })
noted_if true s jobs job is = record { count = omega arith; phase = tt }
noted_if false s jobs job is = record { count = is; phase = tt }

row_logged : (s : Stance) (log : Log) (e : Entry) (q : Phase) → s.phase ≡ q → StanceLogged s log → LoggedAfter (row s q e) (log_step log e)
row_logged s log (Began c t) Closed at is = record { count = refl; phase = tt }
row_logged s log (Asked c op) Opened at is = record { count = is.count; phase = refl }
row_logged s log (Busy c op x) Opened at is = record { count = is.count; phase = tt }
row_logged s log (Saved c) Opened at is = record { count = is.count; phase = subst (λ x. PhaseLogged x log) (sym at) tt }
row_logged s log (Leave c None) Opened at is = record { count = is.count; phase = tt }
row_logged s log (Leave c (Some n)) Opened at is = kept_if (nat_lt n (length s.kept)) (record s { phase = LeavingTo n }) log (record { count = is.count; phase = tt })
row_logged s log (Committed c p) Opened at is = record { count = refl; phase = tt }
row_logged s log (Did c r) (Waiting op) at is =
    let waits : log.pending ≡ Some op = subst (λ q. PhaseLogged q log) at is.phase in
    subst (λ p. StanceLogged (record s { phase = Opened; standing = cond (changes op r) (s.standing + 1) s.standing }) (log_did log p r)) (sym waits)
    (noted_if (changes op r) s log.standing (key_of op, r) is.count)
row_logged s log (Leave c None) (Waiting op) at is = record { count = is.count; phase = tt }
row_logged s log (Undone c) (LeavingTo n) at is =
    kept_if (nat_lt (slice_index s.kept n) s.standing) (record s { standing = s.standing - 1 }) (record log { standing = drop 1 log.standing })
    (record { count = one_less log.standing ∙ ap (λ n. n - 1) is.count; phase = subst (λ x. PhaseLogged x (record log { standing = drop 1 log.standing })) (sym at) tt })
row_logged s log (Returned c m) (LeavingTo n) at is = kept_if ((n == m) && (slice_index s.kept n == s.standing)) (record s { phase = Opened; kept = take (n + 1) s.kept }) log (record { count = is.count; phase = tt })
row_logged s log (Undone c) LeavingToEnd at is =
    kept_if (nat_lt 0 s.standing) (record s { standing = s.standing - 1 }) (record log { standing = drop 1 log.standing })
    (record { count = one_less log.standing ∙ ap (λ n. n - 1) is.count; phase = subst (λ x. PhaseLogged x (record log { standing = drop 1 log.standing })) (sym at) tt })
row_logged s log (Aborted c) LeavingToEnd at is = kept_if (s.standing == 0) closed_stance no_log (record { count = refl; phase = tt })
row_logged s log _ q at is = tt

fold_logged : (es : List Entry) (o : Option Stance) (log : Log) → LoggedAfter o log → LoggedAfter (fold (λ stance e. option_and_then (λ s. row s s.phase e) stance) o es) (fold log_step log es)
fold_logged [] o log is = is
fold_logged (e ∷ es) None log is = fold_logged es None (log_step log e) tt
fold_logged (e ∷ es) (Some s) log is = fold_logged es (row s s.phase e) (log_step log e) (row_logged s log e s.phase refl is)

-- A caller's own entries give it a stance and a log. The two agree.
pub stance_logged : (es : List Entry) (s : Stance) → stance_after es ≡ Some s → StanceLogged s (log_after es)
stance_logged es s is = subst (λ o. LoggedAfter o (log_after es)) is (fold_logged es (Some closed_stance) no_log (record { count = refl; phase = tt }))

-- The log agrees with the run. The same operation waits in both. For each map of the run except the
-- first, the log has the change that made this map. The keys of the waiting operation and of the
-- changes pass the test.
pub record Logs (keys : ℕ → Bool) (log : Log) (r : AloneRun) : Type 0 where
  pub pending : log.pending ≡ r.pending
  pub waits : WaitsFor keys r.pending
  pub standing : IsLogged keys log.standing r.last r.earlier

-- If the keys of a log pass a test, they pass each wider test.
wider_waits : (keys wide : ℕ → Bool) → ((k : ℕ) → keys k ≡ true → wide k ≡ true) → (p : Option Op) → WaitsFor keys p → WaitsFor wide p
wider_waits keys wide to None is = tt
wider_waits keys wide to (Some op) is = to (key_of op) is

wider_jobs : (keys wide : ℕ → Bool) → ((k : ℕ) → keys k ≡ true → wide k ≡ true) → (jobs : List (ℕ × Option ℕ)) (last : Map) (ms : List Map) → IsLogged keys jobs last ms → IsLogged wide jobs last ms
wider_jobs keys wide to [] last [] is = tt
wider_jobs keys wide to (job ∷ jobs) last (m ∷ ms) is = (to job.0 is.0, is.1, is.2, wider_jobs keys wide to jobs m ms is.3)
wider_jobs keys wide to [] last (m ∷ ms) is = is
wider_jobs keys wide to (job ∷ jobs) last [] is = is

wider : (keys wide : ℕ → Bool) → ((k : ℕ) → keys k ≡ true → wide k ≡ true) → (log : Log) (r : AloneRun) → Logs keys log r → Logs wide log r
wider keys wide to log r is = record { pending = is.pending; waits = wider_waits keys wide to r.pending is.waits; standing = wider_jobs keys wide to log.standing r.last r.earlier is.standing }

-- If the run allows a `Did` entry, the log and the run still agree after it.
did_logs : (keys : ℕ → Bool) (log : Log) (r r' : AloneRun) (x : Option ℕ) (p : Option Op) → log.pending ≡ p → WaitsFor keys p → IsLogged keys log.standing r.last r.earlier → act_did r p x ≡ Some r' → Logs keys (log_did log p x) r'
did_logs keys log r r' x None at waits is goes = absurd (cc (goes))
did_logs keys log r r' x (Some op) at waits is goes =
    (elim (option_eq nat_eq x (reply_of r.last op)) as (λ b. option_eq nat_eq x (reply_of r.last op) ≡ b → cond b (Some (record (with_op r op) { pending = None })) None ≡ Some r' → Logs keys (log_did log (Some op) x) r') [
      | false ↦ λ no h. absurd (cc (h))
      | true ↦ λ right h.
          let x_is : x ≡ reply_of r.last op = same_option x (reply_of r.last op) right in
          let same_change : changes op x ≡ is_change r.last op = ap (changes op) x_is ∙ changes-reply r.last op in
          let is_r' : record (with_op r op) { pending = None } ≡ r' = cc (h) in
          subst (Logs keys (log_did log (Some op) x)) is_r'
          (subst (λ b. Logs keys (record { pending = None; standing = cond b ((key_of op, x) ∷ log.standing) log.standing }) (record (with_op r op) { pending = None })) (sym same_change)
          (subst (λ y. Logs keys (record { pending = None; standing = cond (is_change r.last op) ((key_of op, y) ∷ log.standing) log.standing }) (record (with_op r op) { pending = None })) (sym x_is)
          ((elim (is_change r.last op) as (λ b. is_change r.last op ≡ b → Logs keys (record { pending = None; standing = cond b ((key_of op, reply_of r.last op) ∷ log.standing) log.standing })
          (record (cond b (record r { last = after r.last op; earlier = r.last ∷ r.earlier }) r) { pending = None })) [
            | true ↦ λ changed. record { pending = refl; waits = tt; standing = logged_add keys log.standing r op waits is changed }
            | false ↦ λ unchanged. record { pending = refl; waits = tt; standing = is }
          ]) refl)))
    ]) refl goes

undone_logs : (keys : ℕ → Bool) (log : Log) (r r' : AloneRun) (jobs : List (ℕ × Option ℕ)) (ms : List Map) → log.pending ≡ r.pending → WaitsFor keys r.pending → IsLogged keys jobs r.last ms → act_undone r ms ≡ Some r'
    → Logs keys (record log { standing = drop 1 jobs }) r'
undone_logs keys log r r' jobs [] at waits is goes = absurd (cc (goes))
undone_logs keys log r r' [] (m ∷ ms) at waits is goes = absurd is
undone_logs keys log r r' (job ∷ jobs) (m ∷ ms) at waits is goes =
    let is_r' : record r { last = m; earlier = ms } ≡ r' = cc (goes) in
    subst (Logs keys (record log { standing = jobs })) is_r' (record { pending = at; waits = waits; standing = is.3 })

act_logs : (keys : ℕ → Bool) (log : Log) (r r' : AloneRun) (e : Entry) → is_began e ≡ false → is_end e ≡ false → AsksFor keys e → Logs keys log r → act r e ≡ Some r' → Logs keys (log_step log e) r'
act_logs keys log r r' (Began c t) b n asks is goes = absurd (false≢true (sym b))
act_logs keys log r r' (Committed c p) b n asks is goes = absurd (false≢true (sym n))
act_logs keys log r r' (Aborted c) b n asks is goes = absurd (false≢true (sym n))
act_logs keys log r r' (Asked c op) b n asks is goes =
    let is_r' : record r { pending = Some op } ≡ r' = cc (goes) in
    subst (Logs keys (record log { pending = Some op })) is_r' (record { pending = refl; waits = asks; standing = is.standing })
act_logs keys log r r' (Did c x) b n asks is goes =
    subst (λ p. Logs keys (log_did log p x) r') (sym is.pending) (did_logs keys log r r' x r.pending is.pending is.waits is.standing goes)
act_logs keys log r r' (Undone c) b n asks is goes = undone_logs keys log r r' log.standing r.earlier is.pending is.waits is.standing goes
act_logs keys log r r' (Saved c) b n asks is goes =
    let is_r' : record r { notes = r.notes ++ number_of_maps r ∷ [] } ≡ r' = cc (goes) in
    subst (Logs keys log) is_r' (record { pending = is.pending; waits = is.waits; standing = is.standing })
act_logs keys log r r' (Returned c k) b n asks is goes =
    (elim (option_eq nat_eq (slice_get r.notes k) (Some (number_of_maps r))) as (λ b. cond b (Some (record r { notes = take (k + 1) r.notes })) None ≡ Some r' → Logs keys log r') [
      | false ↦ λ h. absurd (cc (h))
      | true ↦ λ h.
          let is_r' : record r { notes = take (k + 1) r.notes } ≡ r' = cc (h) in
          subst (Logs keys log) is_r' (record { pending = is.pending; waits = is.waits; standing = is.standing })
    ]) goes
act_logs keys log r r' (Leave c n) b m asks is goes = subst (Logs keys log) (cc (goes)) is
act_logs keys log r r' (Busy c op x) b n asks is goes = subst (Logs keys log) (cc (goes)) is

-- Each caller's log agrees with the run of the caller's open transaction, on whatever map this
-- transaction runs.
abbrev pub AreLogged : ℕ → List Entry → Type 0
AreLogged stripes g = (c t : ℕ) → txn_in g c ≡ Some t → ended t g ≡ false → (m : Map) (r : AloneRun) → alone m (of t g) ≡ Some r → Logs (keys_in stripes (of t g)) (log_after (own c g)) r

keys_in-more : (stripes : ℕ) (es : List Entry) (e : Entry) (k : ℕ) → keys_in stripes es k ≡ true → keys_in stripes (es ++ e ∷ []) k ≡ true
keys_in-more stripes [] e k is = absurd (false≢true is)
keys_in-more stripes (f ∷ es) e k is = elim (or_cases (asks_in stripes (stripe_of stripes k) f) _ is) [
  | inl here ↦ or_left _ _ here
  | inr later ↦ or_right (asks_in stripes (stripe_of stripes k) f) _ (keys_in-more stripes es e k later)
]

asks_last : (stripes : ℕ) (es : List Entry) (e : Entry) → AsksFor (keys_in stripes (es ++ e ∷ [])) e
asks_last stripes es (Asked c op) = at es
  where
    at : (es : List Entry) → keys_in stripes (es ++ Asked c op ∷ []) (key_of op) ≡ true
    at [] = or_left _ _ (eq-eqb (stripe_of stripes (key_of op)) _ refl)
    at (f ∷ es) = or_right (asks_in stripes (stripe_of stripes (key_of op)) f) _ (at es)
asks_last stripes es _ = tt

began_logs : (stripes : ℕ) (log : Log) (m : Map) (e : Entry) → is_began e ≡ true → Logs (keys_in stripes (e ∷ [])) (log_step log e) (start m)
began_logs stripes log m (Began c t) b = record { pending = refl; waits = tt; standing = tt }
began_logs stripes log m _ b = absurd (false≢true b)

some_before : (o : Option AloneRun) (e : Entry) (r : AloneRun) → option_and_then (λ q. act q e) o ≡ Some r → (q : AloneRun) × (o ≡ Some q) × (act q e ≡ Some r)
some_before None e r is = absurd (cc (is))
some_before (Some q) e r is = (q, refl, is)

module _ (stripes : ℕ) (g : List Entry) (e : Entry) (callers : Callers g) (shaped : is_shaped g e ≡ true) (its_stance : HaveStances g) (logged : AreLogged stripes g) where
  logged_began : (c t : ℕ) → c ≡ caller_of e → txn_at g e ≡ Some t → is_began e ≡ true → (m : Map) (r : AloneRun) → alone m (of t (g ++ e ∷ [])) ≡ Some r → Logs (keys_in stripes (of t (g ++ e ∷ []))) (log_after (own c (g ++ e ∷ []))) r
  logged_began c t mine at b m r run =
      let entries : of t (g ++ e ∷ []) ≡ e ∷ [] = of-push_in t g e at ∙ ap (λ xs. xs ++ e ∷ []) (none_before g e callers shaped its_stance t b at) in
      let same_run : start m ≡ r = cc (sym (alone_began m e b) ∙ ap (alone m) (sym entries) ∙ run) in
      let log : log_after (own c (g ++ e ∷ [])) ≡ log_step (log_after (own (caller_of e) g)) e = ap (λ d. log_after (own d (g ++ e ∷ []))) mine ∙ log_after-own g e in
      subst (λ es. Logs (keys_in stripes es) (log_after (own c (g ++ e ∷ []))) r) (sym entries)
      (subst (λ l. Logs (keys_in stripes (e ∷ [])) l r) (sym log)
      (subst (Logs (keys_in stripes (e ∷ [])) (log_step (log_after (own (caller_of e) g)) e)) same_run (began_logs stripes (log_after (own (caller_of e) g)) m e b)))

  logged_on : (c t : ℕ) → c ≡ caller_of e → txn_at g e ≡ Some t → is_began e ≡ false → ended t (g ++ e ∷ []) ≡ false → (m : Map) (r : AloneRun) → alone m (of t (g ++ e ∷ [])) ≡ Some r → Logs (keys_in stripes (of t (g ++ e ∷ []))) (log_after (own c (g ++ e ∷ []))) r
  logged_on c t mine at b going m r run =
      let goes : is_end e ≡ false = sym (ended_in g e callers shaped t at) ∙ going in
      let entries : of t (g ++ e ∷ []) ≡ of t g ++ e ∷ [] = of-push_in t g e at in
      let log : log_after (own c (g ++ e ∷ [])) ≡ log_step (log_after (own (caller_of e) g)) e = ap (λ d. log_after (own d (g ++ e ∷ []))) mine ∙ log_after-own g e in
      let before = some_before (alone m (of t g)) e r (sym (alone-push m (of t g) e) ∙ ap (alone m) (sym entries) ∙ run) in
      let was = logged (caller_of e) t (not_began_is g e t b (at_is g e t at)) (not_ended_before g e callers shaped t going) m before.0 before.1 in
      subst (λ es. Logs (keys_in stripes es) (log_after (own c (g ++ e ∷ []))) r) (sym entries)
      (subst (λ l. Logs (keys_in stripes (of t g ++ e ∷ [])) l r) (sym log)
      (act_logs (keys_in stripes (of t g ++ e ∷ [])) (log_after (own (caller_of e) g)) before.0 r e b goes (asks_last stripes (of t g) e)
      (wider (keys_in stripes (of t g)) (keys_in stripes (of t g ++ e ∷ [])) (keys_in-more stripes (of t g) e) (log_after (own (caller_of e) g)) before.0 was) before.2))

  pub logged_push : AreLogged stripes (g ++ e ∷ [])
  logged_push c t is going m r run = elim (in_or_out (txn_at g e) t) [
    | inl at ↦
        let mine : c ≡ caller_of e = elim (step g e callers shaped c t is) [ inl w ↦ w.0 | inr w ↦ sym (same g e callers shaped c t at w.1) ] in
        elim (began_or_not e) [
          | inl b ↦ logged_began c t mine at b m r run
          | inr b ↦ logged_on c t mine at b going m r run
        ]
    | inr out ↦ elim (step g e callers shaped c t is) [
      | inl w ↦ absurd (out w.1)
      | inr w ↦
          let entries = of-push_out t g e out in
          subst (λ es. Logs (keys_in stripes es) (log_after (own c (g ++ e ∷ []))) r) (sym entries)
          (subst (λ l. Logs (keys_in stripes (of t g)) l r) (sym (log_after-other c g e w.0))
          (logged c t w.1 (not_ended_before g e callers shaped t going) m r (ap (alone m) (sym entries) ∙ run)))
    ]
  ]

-- In a history of the right shape, the log of each caller agrees with the run of its open
-- transaction.
pub are_logged : (stripes : ℕ) (g : List Entry) → IsShaped g → AreLogged stripes g
are_logged stripes g shape = (by_entries (λ h. HaveStances h × AreLogged stripes h) push ((λ c t is going. absurd (cc (is))), λ c t is going. absurd (cc (is))) g shape).1
  where
    push : (g : List Entry) (e : Entry) → IsShaped g → Callers g → is_shaped g e ≡ true → (HaveStances g × AreLogged stripes g) → HaveStances (g ++ e ∷ []) × AreLogged stripes (g ++ e ∷ [])
    push g e shape callers shaped was = (stances_push g e callers shaped was.0, logged_push stripes g e callers shaped was.0 was.1)
