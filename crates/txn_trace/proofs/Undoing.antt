-- Compares a log of changes, newest first, with the maps of a run. Also says what the map `now` is
-- after the newest change is taken back.
use Rattle.std.proofs.Common.{◌≡◌, ℕ, ◌≢◌, Bool, true, false, ◌||◌, List, [], ◌∷◌, ◌++◌, refl, ap, sym, ◌∙◌, Some, Option, is_some}
use Rattle.std.specs.Option.{option_and_then}
use Rattle.std.specs.List.{list_any}
use Rattle.std.proofs.lemmas.Bool.{false≢true}
use Rattle.std.proofs.lemmas.List.{append-nil}
use mathlib.Core.Logic.{◌⊎◌, inl, inr}
use Rattle.txn_words.specs.declared.op.Op.{Op}
use Rattle.txn_words.specs.declared.entry.Entry.{Entry}
use Rattle.txn_words.specs.declared.holder.Holder.{Holder}
use Rattle.txn_words.specs.declared.entry.Entry.TheVariants.{Undone}
use Rattle.txn_words.specs.Map.{Map, get, after, reply_of, key_of, is_change, keys}
use Rattle.txn_trace.specs.History.{of}
use Rattle.txn_trace.specs.Alone.{AloneRun, act, act_undone, alone, last_map, map_after}
use Rattle.txn_trace.specs.Serial.{serial}
use Rattle.txn_trace.specs.Now.{now, now_at}
use Rattle.txn_words.specs.Shape.{is_shaped}
use Rattle.txn_trace.specs.Legal.{IsLegal}
use Rattle.txn_trace.proofs.Pushes.{txn_in, alone-push}
use Rattle.txn_trace.proofs.Callers.{ended}
use Rattle.txn_trace.proofs.Stripes.{keys_in}
use Rattle.txn_trace.proofs.Now.{running_of}
use Rattle.txn_trace.proofs.Table.{get-now}
use Rattle.txn_trace.proofs.BadEntries.{legal_push, shape_push, locks_push}
use Rattle.txn_trace.proofs.Others.{replies-push_other, now_at-push}
use Rattle.txn_words.proofs.Effects.{get-after_other}

-- There is one job for each change of the run, newest first. A job has the key of its change, which
-- passes the test, and the key's value before the change. The change left every other key
-- unchanged.
abbrev pub IsLogged : (ℕ → Bool) → List (ℕ × Option ℕ) → Map → List Map → Type 0
IsLogged keys [] last [] = Unit {0}
IsLogged keys (job ∷ jobs) last (m ∷ ms) = (keys job.0 ≡ true) × (get m job.0 ≡ job.1) × ((q : ℕ) → q ≢ job.0 → get m q ≡ get last q) × IsLogged keys jobs m ms
IsLogged keys [] last (m ∷ ms) = ⊥
IsLogged keys (job ∷ jobs) last [] = ⊥

-- A change adds its key and its reply to the log.
pub logged_add : (keys : ℕ → Bool) (jobs : List (ℕ × Option ℕ)) (r : AloneRun) (op : Op) → keys (key_of op) ≡ true → IsLogged keys jobs r.last r.earlier → is_change r.last op ≡ true
    → IsLogged keys ((key_of op, reply_of r.last op) ∷ jobs) (after r.last op) (r.last ∷ r.earlier)
logged_add keys jobs r op in_keys logged is = (in_keys, refl, λ q other. sym (get-after_other r.last op q other), logged)

any-push_same : (p : Entry → Bool) (es : List Entry) (e : Entry) → p e ≡ false → list_any p (es ++ e ∷ []) ≡ list_any p es
any-push_same p [] e is = ap (λ b. b || false) is
any-push_same p (x ∷ es) e is = ap (λ b. p x || b) (any-push_same p es e is)

-- Lemmas on a caller that takes back its newest change.
module _ {holder : Holder} (stripes : ℕ) (g : List Entry) (legal : IsLegal holder stripes g) (c t : ℕ) (run : AloneRun) (job : ℕ × Option ℕ) (jobs : List (ℕ × Option ℕ)) (m : Map) (ms : List Map)
    (in_t : txn_in g c ≡ Some t) (going : ended t g ≡ false) (run_is : alone (serial g) (of t g) ≡ Some run) (earlier : run.earlier ≡ m ∷ ms)
    (logged : IsLogged (keys_in stripes (of t g)) (job ∷ jobs) run.last (m ∷ ms)) (shaped : is_shaped g (Undone c) ≡ true) where
  goes : alone (serial g) (of t g ++ Undone c ∷ []) ≡ Some (record run { last = m; earlier = ms })
  goes = alone-push (serial g) (of t g) (Undone c) ∙ ap (option_and_then (λ r. act r (Undone c))) run_is ∙ ap (act_undone run) earlier

  pub undone_legal : IsLegal holder stripes (g ++ Undone c ∷ [])
  undone_legal = legal_push stripes g (Undone c) legal shaped refl
      (replies-push_other g (Undone c) t legal.shape (shape_push g (Undone c) legal.shape shaped) shaped refl in_t
      (legal.replies g ([], append-nil g)) (ap is_some goes))

  before : map_after (serial g) (of t g) ≡ run.last
  before = ap (last_map (serial g)) run_is

  afterwards : map_after (serial g) (of t g ++ Undone c ∷ []) ≡ m
  afterwards = ap (last_map (serial g)) goes

  each : (q : ℕ) → ((now_at (g ++ Undone c ∷ []) q ≡ now_at g q) × (keys_in stripes (of t g) q ≡ false))
      ⊎ ((now_at (g ++ Undone c ∷ []) q ≡ get (map_after (serial g) (of t g ++ Undone c ∷ [])) q) × (now_at g q ≡ get (map_after (serial g) (of t g)) q))
  each q = now_at-push holder stripes g (Undone c) t legal.shape legal.locks (shape_push g (Undone c) legal.shape shaped) (locks_push holder stripes g (Undone c) legal.locks refl) shaped refl in_t q refl (running_of g c t in_t going)

  -- After the entry `Undone`, the key of the newest job has the value that it had before the
  -- change.
  pub get-now_undone : get (now (g ++ Undone c ∷ [])) job.0 ≡ job.1
  get-now_undone = get-now (g ++ Undone c ∷ []) job.0 ∙ elim (each job.0) [
    | inl w ↦ absurd (false≢true (sym w.1 ∙ logged.0))
    | inr w ↦ w.0 ∙ ap (λ n. get n job.0) afterwards ∙ logged.1
  ]

  -- The entry `Undone` changes no key except that of the newest job.
  pub get-now_undone_other : (q : ℕ) → q ≢ job.0 → get (now (g ++ Undone c ∷ [])) q ≡ get (now g) q
  get-now_undone_other q other = get-now (g ++ Undone c ∷ []) q ∙ elim (each q) [
    | inl w ↦ w.0
    | inr w ↦ w.0 ∙ ap (λ n. get n q) afterwards ∙ logged.2 q other ∙ sym (ap (λ n. get n q) before) ∙ sym w.1
  ] ∙ sym (get-now g q)
