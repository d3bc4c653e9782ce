-- The outcome of a run of the program.
use Rattle.std.proofs.Common.{◌≡◌, ◌⊎◌, inl, inr, ℕ, List, Option, Some, None, Ok, Err, refl, sym, subst}
use Rattle.std.specs.Prelude.{IfSome}
use Rattle.std.specs.Result.{IsErrAnd}
use Rattle.std.specs.declared.io.ErrorKind.{ErrorKind}
use Rattle.std.specs.declared.io.ErrorKind.TheVariants.{OutOfMemory}
use Rattle.clap.specs.Words.{Text}
use Rattle.judge_engine.specs.declared.fault.Fault.TheVariants as faults
use Rattle.judge_program.specs.declared.failure.Failure.{Failure}
use Rattle.judge_program.specs.declared.failure.Failure.TheVariants.{Usage, Fault}
use Rattle.judge_program.specs.Words.{Asked, Spells}
use Rattle.judge_program.specs.Runs.{Fulfils, DoesNothing, Files, RunResult, Runs, memory_or}
use Rattle.judge_program.proofs.CommandEnds.{keeps_same}

-- The result of `memory_or` is either `NoMemory` or the other failure.
pub memory_or_is : (kind : ErrorKind) (other : Failure) → (memory_or kind other ≡ Fault faults.NoMemory) ⊎ (memory_or kind other ≡ other)
memory_or_is OutOfMemory other = inl refl
memory_or_is kind other = inr refl

of_known : (spoken : Option (List Text)) (words : List Text) (P : List Text → Type 0) → IfSome spoken (λ known. words ≡ known) → P words → IfSome spoken P
of_known None words P same holds = tt
of_known (Some known) words P same holds = subst P same holds

pub no_words : (spoken : Option (List Text)) (files : Files) (known : Option (List ℕ)) (kind : ErrorKind) → IfSome spoken (λ words. kind ≡ OutOfMemory) → Runs spoken files known known (Err (memory_or kind Usage))
no_words None files known kind is = inr (by_kind (memory_or_is kind Usage))
  where
    by_kind : (memory_or kind Usage ≡ Fault faults.NoMemory) ⊎ (memory_or kind Usage ≡ Usage) → DoesNothing None known known (memory_or kind Usage)
    by_kind (inl memory) = subst (DoesNothing None known known) (sym memory) (keeps_same known, refl)
    by_kind (inr usage) = subst (DoesNothing None known known) (sym usage) (keeps_same known, tt)
no_words (Some words) files known kind is =
    subst (λ k. Runs (Some words) files known known (Err (memory_or k Usage))) (sym is) (inr (keeps_same known, refl))

pub no_request : (spoken : Option (List Text)) (words : List Text) (files : Files) (known : Option (List ℕ)) (outcome : RunResult) (failure : Failure) → IfSome spoken (λ known. words ≡ known)
    → (failure ≡ Fault faults.NoMemory) ⊎ ((failure ≡ Usage) × Spells words None) → IsErrAnd outcome (λ e. e ≡ failure) → Runs spoken files known known outcome
no_request spoken words files known (Ok answer) failure same which err = absurd err
no_request spoken words files known (Err e) failure same (inl memory) err = rw (err, memory) (inr (keeps_same known, refl))
no_request spoken words files known (Err e) failure same (inr (usage, none)) err =
    rw (err, usage) (inr (keeps_same known, of_known spoken words (λ given. Spells given None) same none))

pub fulfils : (spoken : Option (List Text)) (words : List Text) (files : Files) (what : Asked) (old new : Option (List ℕ)) (outcome : RunResult) → IfSome spoken (λ known. words ≡ known)
    → Spells words (Some what) → Fulfils what files old new outcome → Runs spoken files old new outcome
fulfils spoken words files what old new outcome same asks does = inl (record {
  what = what;
  asks = of_known spoken words (λ given. Spells given (Some what)) same asks;
  does = does;
})
