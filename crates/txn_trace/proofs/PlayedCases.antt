-- Worked histories of workers, checked by computation: the scripts that they play.
use Rattle.std.proofs.Common.{[], ◌≡◌, ℕ, List, ◌∷◌, Some, None, refl, sym, subst, arith, lit≤, lit<}
use Rattle.txn_words.specs.declared.op.Op.TheVariants.{Put, Take, Get}
use Rattle.txn_words.specs.declared.action.Action.{Action}
use Rattle.txn_words.specs.declared.action.Action.TheVariants as actions
use Rattle.txn_words.specs.declared.entry.Entry.{Entry}
use Rattle.txn_words.specs.declared.holder.Holder.TheVariants.{Now}
use Rattle.txn_words.specs.declared.entry.Entry.TheVariants.{Began, Asked, Did, Saved, Leave, Undone, Returned, Committed, Aborted}
use Rattle.txn_trace.specs.Legal.{verdict, Legal}
use Rattle.txn_trace.specs.Plays.{Plays, commits_of, PlayRising, PlayScripts}

-- One worker plays its first script. The worker's second script aborts.
abbrev one_worker : List Entry
one_worker = Began 0 1 ∷ Asked 0 (Put 1 10) ∷ Did 0 None ∷ Saved 0 ∷ Asked 0 (Take 1) ∷ Did 0 (Some 10) ∷ Leave 0 (Some 1) ∷ Undone 0 ∷ Returned 0 1 ∷ Committed 0 1
    ∷ Began 0 2 ∷ Asked 0 (Get 1) ∷ Did 0 (Some 10) ∷ Leave 0 None ∷ Aborted 0 ∷ []

abbrev first_script : List Action
first_script = actions.Op (Put 1 10) ∷ actions.Save ∷ actions.Op (Take 1) ∷ actions.Back 1 ∷ []

abbrev second_script : List Action
second_script = actions.Op (Get 1) ∷ actions.Abort ∷ []

one_worker_verdict : verdict Now 8 one_worker ≡ Legal 1 0
one_worker_verdict = refl

one_worker_first : Plays 1 first_script one_worker
one_worker_first = (refl, (refl, (refl, refl, tt)))

one_worker_first_other_script : Plays 1 second_script one_worker → ⊥
one_worker_first_other_script plays = cc (plays.0)

one_worker_first_without_the_return : Plays 1 (actions.Op (Put 1 10) ∷ actions.Save ∷ actions.Op (Take 1) ∷ []) one_worker → ⊥
one_worker_first_without_the_return plays = plays.1.1

one_worker_second : Plays 2 second_script one_worker → ⊥
one_worker_second plays = plays.1

one_worker_second_without_the_abort : Plays 2 (actions.Op (Get 1) ∷ []) one_worker → ⊥
one_worker_second_without_the_abort plays = plays.1

one_worker_helps : Plays 1 (actions.Help 5 ∷ first_script) one_worker
one_worker_helps = one_worker_first

one_worker_commits : commits_of 0 one_worker ≡ 1 ∷ []
one_worker_commits = refl

one_worker_no_other : commits_of 1 one_worker ≡ []
one_worker_no_other = refl

one_worker_scripts : PlayScripts 1 (first_script ∷ second_script ∷ []) one_worker
one_worker_scripts c below = let is : c ≡ 0 = omega arith in
    let P : ℕ → Type 0 = λ c. PlayRising 1 (first_script ∷ second_script ∷ []) c one_worker 0 2 (commits_of c one_worker) in
    subst P (sym is) (0, first_script, lit≤ tt, lit< tt, record { mine = refl; there = refl }, one_worker_first, tt)
