-- Work that is tried several times.
use Rattle.std.proofs.Common.{◌≡◌, ℕ, zero, suc, true, false, [], ◌∷◌, Result, sym, subst, ◌∙◌, ⊎_elim}
use Rattle.txn_words.specs.declared.entry.Entry.TheVariants.{Began}
use Rattle.txn_words.specs.declared.refusal.Refusal.TheVariants.{AlreadyOpen, NoMemory}
use Rattle.striped_map.specs.declared.caller.Caller.{Caller}
use Rattle.txn_words.specs.declared.stop.Stop.{Stop}
use Rattle.txn_words.specs.declared.stop.Stop.TheVariants.{Busy, Refused}
use Rattle.striped_map.specs.Attempts.{FailsOrNot, Fails, FailsBusy, IsWhy}
use Rattle.striped_map.specs.Callers.{number, IsNotBegun, IsSince, IsStep, IsTakenBack, IsWithin}
use Rattle.striped_map.proofs.CallSpans.{by_cases, within_kept, since_began, since_then, within_taken_back}

-- After a busy attempt, the caller is in no transaction. So if a caller is in a transaction after
-- `n` busy attempts, `n` is 0, and the caller is unchanged.
pub still : {T : Type 0} (work : Caller → Result T Stop → Caller → Type 0) (n : ℕ) (a b : Caller)
    → FailsBusy work n a b → b.is_open ≡ true → b ≡ a
still work zero a b same is = same
still work (suc n) a b fails is = absurd (cc (sym is ∙ fails.3.closed))

-- If `IsSince me` holds before an attempt that fails, it also holds after the attempt.
pub since_failed : {T : Type 0} (work : Caller → Result T Stop → Caller → Type 0) (me a b : Caller) (stop : Stop)
    → IsSince me a → (a.is_open ≡ true → (stop ≡ Refused AlreadyOpen) × (b ≡ a)) → (a.is_open ≡ false → FailsOrNot work a b stop) → IsSince me b
since_failed work me a b stop since opened fails = by_cases a.is_open
    (λ is. subst (IsSince me) (sym (opened is).1) since)
    (λ is. ⊎_elim (λ (f : Fails work a b stop). since_then me a b since f.since)
    (λ (f : (stop ≡ Refused NoMemory) × IsNotBegun a b (Refused NoMemory)). since_then me a b since (within_kept a b f.1.2).since) (fails is))

pub fails_as : {T : Type 0} {work : Caller → Result T Stop → Caller → Type 0} (a b : Caller) (stop other : Stop)
    → stop ≡ other → FailsOrNot work a b stop → FailsOrNot work a b other
fails_as {T} {work} a b stop other same fails = subst (FailsOrNot work a b) same fails

-- A busy attempt has begun its transaction.
pub busy_fails : {T : Type 0} {work : Caller → Result T Stop → Caller → Type 0} (a b : Caller) (holder : ℕ) → FailsOrNot work a b (Busy holder) → Fails work a b (Busy holder)
busy_fails {T} {work} a b holder fails = ⊎_elim (λ (f : Fails work a b (Busy holder)). f) (λ (f : (Busy holder ≡ Refused NoMemory) × IsNotBegun a b (Refused NoMemory)). absurd (cc f.0)) fails

pub one_more : {T : Type 0} {work : Caller → Result T Stop → Caller → Type 0} (n m : ℕ) (me a b : Caller) (holder : ℕ)
    → suc n ≡ m → FailsBusy work n me a → Fails work a b (Busy holder) → FailsBusy work m me b
one_more {T} {work} n m me a b holder once before fails = subst (λ (k : ℕ). FailsBusy work k me b) once (a, holder, before, fails)

-- If an attempt fails for one of the reasons of `IsWhy`, and its transaction is taken back, `Fails`
-- holds.
pub failed_by : {T : Type 0} {work : Caller → Result T Stop → Caller → Type 0} (old begun left new : Caller) (txn : ℕ) (answer : Result T Stop) (stop : Stop)
    → IsStep old (Began (number old) txn ∷ []) begun → work begun answer left → IsWithin begun left → IsWhy answer left stop → IsTakenBack left new → Fails work old new stop
failed_by old begun left new txn answer stop began worked within why back = record {
  txn = txn;
  begun = begun;
  began = began;
  answer = answer;
  left = left;
  worked = worked;
  why = why;
  since = since_then old left new (since_then old begun left (since_began old begun txn began) within.since) (within_taken_back left new back).since;
  closed = back.closed;
  back = back;
}
