-- The reports of all workers of a run, and the workers' rows of outcomes. Each row has its last
-- outcome first.
use Rattle.std.proofs.Common.{◌≡◌, ℕ, zero, suc, ◌<◌, List, [], ◌∷◌, length, slice_get, Some, sym, ap, ◌∙◌, ◌+◌, ◌*◌, ◌/◌, ◌%◌, Bool}
use Rattle.std.proofs.Common.{get_or, map, reverse, arith, All, mod-lt}
use Rattle.thread_runs.proofs.Vocabulary.{accounts_true, AreToldIn, Each, every-map, get-every, get_empty, get_within, HasReported}
use Rattle.thread_runs.proofs.Vocabulary.{HasRunScripts, IsOwn, MayCome, number_at, outcome_told, true_plays, WorkerReport}
use Rattle.script_worker.proofs.Vocabulary.{Action, AllByRecursion, AreAllTrue, Begun, caller_of, Entry, every, get_or-map}
use Rattle.script_worker.proofs.Vocabulary.{get_or-map-range_with_len, has_stance, IsLegal, IsShaped, length-map, length-map-range_with_len}
use Rattle.script_worker.proofs.Vocabulary.{length-reverse, Outcome, own, range_with_len, RepliesHold, reverse-reverse, Sizes, Told}
use Rattle.script_worker.proofs.Vocabulary.{tolds_of}
use Rattle.thread_runs.proofs.Lists.{all_at, get_map, map_get}
use Rattle.thread_runs.specs.declared.outcome.Outcome as codes

-- If a statement is true for each script with its outcome, it is true for the script and the
-- outcome at any position.
told_within : (P : Told → Type 0) (scripts : List (List Action)) (outcomes : List Outcome) (k : ℕ) (script : List Action) (outcome : Outcome) → slice_get scripts k ≡ Some script → slice_get outcomes k ≡ Some outcome
    → AllByRecursion P (tolds_of scripts outcomes) → P (record { script = script; outcome = outcome })
told_within P [] outcomes k script outcome is js all = absurd (cc (get_empty k, is))
told_within P (first ∷ scripts) [] k script outcome is js all = absurd (cc (get_empty k, js))
told_within P (first ∷ scripts) (o ∷ outcomes) zero script outcome is js all =
    let (same, equal) : (first ≡ script) × (o ≡ outcome) = (cc is, cc js) in
    rw (same, equal) at all.0
told_within P (first ∷ scripts) (o ∷ outcomes) (suc k) script outcome is js all = told_within P scripts outcomes k script outcome is js all.1

-- If `HasReported` holds for each report, it still holds after the number of workers, the number of
-- tries and the scripts are replaced by equal ones.
pub reported_as : {L : Type 0} (half : Bool) (workers workers' tries tries' : ℕ) (scripts scripts' : List (List Action)) (reports : List (WorkerReport L)) → workers' ≡ workers → tries' ≡ tries → scripts' ≡ scripts
    → Each (HasReported half workers' tries' scripts') reports → Each (HasReported half workers tries scripts) reports
reported_as half workers workers' tries tries' scripts scripts' reports same again all each =
    rw (same, again, all) at each

module _ {L W : Type 0} (items : W → List codes.Outcome) (half : Bool) (workers tries : ℕ) (scripts : List (List Action)) (reports : List (WorkerReport L)) (rows : List W) (as_many : length reports ≡ workers)
    (each : Each (HasReported half workers tries scripts) reports) (rows_are : map items rows ≡ map (λ r. reverse r.outcomes.items) reports) where
  pub as_many_rows : length rows ≡ workers
  as_many_rows = sym (length-map rows items) ∙ ap length rows_are ∙ length-map reports (λ r. reverse r.outcomes.items) ∙ as_many

  -- A row has one outcome for each script of its worker.
  pub rows_whole : Each (λ c row. length (items row) ≡ length (every (length rows) c scripts)) rows
  rows_whole c row is =
      let (r, at, row_is) = get_map (λ q. reverse q.outcomes.items) reports c (items row) (map_get items rows _ (sym rows_are) c row is) in
      let ran = (each c r at).ran in
      ap length (sym row_is) ∙ length-reverse r.outcomes.items ∙ sym (length-map r.outcomes.items outcome_told) ∙ ran.all ∙ ap (λ (n : ℕ). length (every n c scripts)) (sym as_many_rows)

  module _ (outcomes : List codes.Outcome) (order : Each (λ c row. every (length rows) c outcomes ≡ reverse (items row)) rows) where
    -- Among all outcomes, those of a worker's scripts are the outcomes that this worker has
    -- reported.
    own_outcomes : (c : ℕ) (r : WorkerReport L) → slice_get reports c ≡ Some r → every workers c (map outcome_told outcomes) ≡ map outcome_told r.outcomes.items
    own_outcomes c r at =
        let (row, in_rows, row_is) = get_map items rows c (reverse r.outcomes.items) (map_get (λ q. reverse q.outcomes.items) reports _ rows_are c r at) in
        every-map outcome_told workers outcomes c
        ∙ ap (map outcome_told) (ap (λ (n : ℕ). every n c outcomes) (sym as_many_rows) ∙ order c row in_rows ∙ ap reverse row_is ∙ reverse-reverse r.outcomes.items)

    -- If each worker has seen exactly its own entries of the history, the outcomes agree with the
    -- history: `AreAllTrue` holds.
    pub reports_true : (h : List Entry) → IsShaped h → RepliesHold h → ((c : ℕ) (r : WorkerReport L) → slice_get reports c ≡ Some r → own r.caller.number h ≡ r.caller.seen) → AreAllTrue workers tries scripts (map outcome_told outcomes) h
    reports_true h shape replies owns c below =
        let (r, at) = get_within reports c (rw as_many below) in
        let report = each c r at in
        let mine : own c h ≡ r.caller.seen = rw report.number_is at (owns c r at) in
        let told : AreToldIn c tries (every workers c scripts) (every workers c (map outcome_told outcomes)) (own c h) =
        rw (mine, own_outcomes c r at) report.ran.told in
        accounts_true c tries h (tolds_of (every workers c scripts) (every workers c (map outcome_told outcomes))) shape replies
        (told (has_stance h shape c))

    -- Each outcome is one that its script allows.
    pub reports_may : 0 < workers → (i : ℕ) (script : List Action) (outcome : Outcome) → slice_get scripts i ≡ Some script → slice_get (map outcome_told outcomes) i ≡ Some outcome → MayCome half script outcome
    reports_may some i script outcome is js =
        let c : ℕ = i % workers in
        let k : ℕ = i / workers in
        let at : i ≡ c + k * workers = number_at i workers in
        let (r, here) = get_within reports c (rw as_many (mod-lt i some)) in
        told_within (λ told. MayCome half told.script told.outcome) (every workers c scripts) (every workers c (map outcome_told outcomes)) k script outcome
        (get-every workers some scripts c k ∙ ap (slice_get scripts) (sym at) ∙ is)
        (get-every workers some (map outcome_told outcomes) c k ∙ ap (slice_get (map outcome_told outcomes)) (sym at) ∙ js)
        (rw (own_outcomes c r here) (each c r here).ran.may)

-- If `HasReported` holds for each worker's report, `HasRunScripts` holds for the outcomes and the
-- history of the run. The callers, the rows and the outcomes must be those of the reports. The
-- map's history must be legal and have only entries of the map's callers, and each caller must have
-- seen exactly its own entries.
pub run_true : {L W : Type 0} (items : W → List codes.Outcome) (limits sizes : Sizes) (workers tries : ℕ) (scripts : List (List Action)) (reports : List (WorkerReport L)) (callers : List _) (rows : List W) (outcomes : List codes.Outcome) (trace h : List Entry)
    → 0 < workers → length reports ≡ workers → Each (HasReported limits.half workers tries scripts) reports → callers ≡ map (λ r. r.caller) reports → map items rows ≡ map (λ r. reverse r.outcomes.items) reports → length outcomes ≡ length scripts
    → Each (λ c row. every (length rows) c outcomes ≡ reverse (items row)) rows → trace ≡ h → sizes ≡ limits → workers ≡ limits.callers → IsLegal Begun sizes.stripes h → All (λ e. caller_of e < sizes.callers) h → All (λ k. IsOwn h k) callers
    → HasRunScripts limits workers tries scripts (map outcome_told outcomes) trace
run_true items limits sizes workers tries scripts reports callers rows outcomes trace h some as_many each callers_are rows_are one_each order same is all_workers legal below own =
    let trues : AreAllTrue workers tries scripts (map outcome_told outcomes) trace =
    rw same (reports_true items limits.half workers tries scripts reports rows as_many each rows_are outcomes order h legal.shape
    legal.replies (λ c r at. all_at (λ k. IsOwn h k) (λ q. q.caller) reports callers callers_are own c r at)) in
    record {
      legal = rw (same, ← is) legal;
      callers = rw (same, all_workers, ← is) below;
      one_each = length-map outcomes outcome_told ∙ one_each;
      true_of = trues;
      plays = λ c low. true_plays workers c low scripts trace tries (every workers c (map outcome_told outcomes)) (trues c low);
      allowed = reports_may items limits.half workers tries scripts reports rows as_many each rows_are outcomes order some;
    }

-- If `show` maps the elements of a list to `f 0`, `f 1`, `f 2` and so on, it maps the element at
-- position `k` to `f k`.
pub shown_at : {X T : Type 0} (show : X → T) (f : ℕ → T) (n : ℕ) (xs : List X) (k : ℕ) (x : X) → map show xs ≡ map f (range_with_len 0 n) → (k < length xs) × (x ≡ get_or xs k x) → show x ≡ f k
shown_at show f n xs k x are at =
    let as_many : length xs ≡ n = sym (length-map xs show) ∙ ap length are ∙ length-map-range_with_len f 0 n in
    let low : k < length xs = at.0 in
    ap show at.1 ∙ sym (get_or-map show xs k x (show x) low) ∙ ap (λ ys. get_or ys k (show x)) are ∙ get_or-map-range_with_len f 0 n k k (show x) (omega arith) (omega arith)
