-- The loop over a worker's scripts.
use Rattle.std.proofs.Common.{◌≡◌, ℕ, ◌<◌, List, [], ◌∷◌, ◌++◌, length, slice_get, Some, ◌∙◌, ◌+◌, ◌*◌, ◌≤◌, Bool, None, arith}
use Rattle.thread_runs.proofs.Vocabulary.{account_more, AreToldIn, get-every, get_none, HasRunAll, HasRunTo, MayAllCome, MayCome}
use Rattle.thread_runs.proofs.Vocabulary.{no_account, stance_front, tolds_of-none, tolds_of-push}
use Rattle.script_worker.proofs.Vocabulary.{Action, ByRecursion-append, Entry, every, length_push, Outcome, slice_get_within, Told}
use Rattle.script_worker.proofs.Vocabulary.{tolds_of}

-- The state of the loop: each script that was run has an outcome, and the next script has the
-- number `number`.
pub record IsSoFar (half : Bool) (workers tries c : ℕ) (scripts : List (List Action)) (number : ℕ) (outcomes : List Outcome) (seen : List Entry) : Type 0 where
  pub at : number ≡ c + length outcomes * workers
  pub told : AreToldIn c tries (every workers c scripts) outcomes seen
  pub may : MayAllCome half (every workers c scripts) outcomes
  pub within : length outcomes ≤ length (every workers c scripts)

-- At the start of the loop, when no script was run and no entry was seen, `IsSoFar` holds.
pub so_far_start : (half : Bool) (workers tries c : ℕ) (scripts : List (List Action)) (number : ℕ) (outcomes : List Outcome) (seen : List Entry) → number ≡ c → outcomes ≡ [] → seen ≡ [] → IsSoFar half workers tries c scripts number outcomes seen
so_far_start half workers tries c scripts number outcomes seen is empty none = rw (empty, none) (record {
  at = omega (arith, is);
  told = λ whole. no_account c tries (every workers c scripts);
  may = rw (tolds_of-none (every workers c scripts)) tt;
  within = omega arith;
})

here_is : (half : Bool) (workers tries c : ℕ) (scripts : List (List Action)) (number : ℕ) (outcomes : List Outcome) (seen : List Entry) → 0 < workers → IsSoFar half workers tries c scripts number outcomes seen
    → slice_get (every workers c scripts) (length outcomes) ≡ slice_get scripts number
here_is half workers tries c scripts number outcomes seen some so_far =
    rw (get-every workers some scripts c (length outcomes), so_far.at)

pub so_far_more : (half : Bool) (workers tries c : ℕ) (scripts : List (List Action)) (number : ℕ) (outcomes more : List Outcome) (script : List Action) (outcome : Outcome) (seen seen' : List Entry) → 0 < workers
    → slice_get scripts number ≡ Some script → HasRunTo c tries script outcome seen seen' → MayCome half script outcome → more ≡ outcomes ++ outcome ∷ [] → IsSoFar half workers tries c scripts number outcomes seen
    → IsSoFar half workers tries c scripts (number + workers) more seen'
so_far_more half workers tries c scripts number outcomes more script outcome seen seen' some is (chunk, seen_is, account) may same so_far =
    let here = here_is half workers tries c scripts number outcomes seen some so_far ∙ is in
    let mine : List (List Action) = every workers c scripts in
    let May : Told → Type 0 = λ told. MayCome half told.script told.outcome in
    rw same (record {
      at = rw (length_push outcomes outcome) (omega (arith, so_far.at));
      told = λ whole. rw seen_is (account_more c tries mine outcomes script outcome seen chunk here
          (so_far.told (stance_front seen chunk (rw seen_is at whole))) (account whole));
      may = rw (tolds_of-push mine outcomes script outcome here)
          (ByRecursion-append May May (λ told may. may) (tolds_of mine outcomes) _ so_far.may (may, tt));
      within = omega (arith, length_push outcomes outcome, slice_get_within mine (length outcomes) script here);
    })

pub so_far_all : (half : Bool) (workers tries c : ℕ) (scripts : List (List Action)) (number : ℕ) (outcomes : List Outcome) (seen : List Entry) → 0 < workers → slice_get scripts number ≡ None
    → IsSoFar half workers tries c scripts number outcomes seen → HasRunAll half workers tries c scripts outcomes seen
so_far_all half workers tries c scripts number outcomes seen some none so_far =
    let here = here_is half workers tries c scripts number outcomes seen some so_far ∙ none in
    let past = get_none (every workers c scripts) (length outcomes) here in
    record { told = so_far.told; may = so_far.may; all = omega (arith, past, so_far.within) }
