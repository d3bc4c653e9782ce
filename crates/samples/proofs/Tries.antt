-- The failed tries of a transfer. The work that is tried is a relation, and if this relation
-- implies another one, `Fails` and `FailsBusy` also hold for the other one.
use Rattle.std.proofs.Common.{◌≡◌, ℕ, ◌≤◌, zero, suc, Bool, subst}
use Rattle.std.specs.Prelude.{Result, Ok, Err}
use Rattle.samples.specs.Vocabulary.{Busy, Caller, FailsBusy, FailsOrNot, Stop}
use mathlib.Core.Logic.{inl, inr}
use Rattle.striped_map.specs.Attempts.{Fails, on_callers}
use Rattle.samples.specs.StripedTransfers.{GivesUp, HasWorked, Works}

fails_so : {T : Type 0} (work wider : Caller → Result T Stop → Caller → Type 0) (a b : Caller) (stop : Stop) → ((a : Caller) (r : Result T Stop) (b : Caller) → work a r b → wider a r b) → Fails work a b stop → Fails wider a b stop
fails_so work wider a b stop is failed = record {
  txn = failed.txn;
  begun = failed.begun;
  began = failed.began;
  answer = failed.answer;
  left = failed.left;
  worked = is failed.begun failed.answer failed.left failed.worked;
  why = failed.why;
  since = failed.since;
  closed = failed.closed;
  back = failed.back;
}

fails_or_not_so : {T : Type 0} (work wider : Caller → Result T Stop → Caller → Type 0) (a b : Caller) (stop : Stop) → ((a : Caller) (r : Result T Stop) (b : Caller) → work a r b → wider a r b) → FailsOrNot work a b stop → FailsOrNot wider a b stop
fails_or_not_so work wider a b stop is (inl failed) = inl (fails_so work wider a b stop is failed)
fails_or_not_so work wider a b stop is (inr refused) = inr refused

busy_so : {T : Type 0} (work wider : Caller → Result T Stop → Caller → Type 0) (n : ℕ) (a b : Caller) → ((a : Caller) (r : Result T Stop) (b : Caller) → work a r b → wider a r b) → FailsBusy work n a b → FailsBusy wider n a b
busy_so work wider zero a b is same = same
busy_so work wider (suc n) a c is (b, holder, so_far, failed) =
    (b, holder, busy_so work wider n a b is so_far, fails_so work wider b c (Busy holder) is failed)

works_so : {H : Type 0} (caller_of : H → Caller) (did : H → Result Bool Stop → H → Type 0) (from to sum : ℕ) → ((h : H) (moved : Bool) (k : H) → did h (Ok moved) k → HasWorked from to sum moved (caller_of h) (caller_of k))
    → (a : Caller) (r : Result Bool Stop) (b : Caller) → on_callers caller_of did a r b → Works from to sum a r b
works_so caller_of did from to sum is a (Ok moved) b (h, k, done, first, last) =
    subst (λ (x : Caller). HasWorked from to sum moved x b) first (subst (λ (x : Caller). HasWorked from to sum moved (caller_of h) x) last (is h moved k done))
works_so caller_of did from to sum is a (Err stop) b done = tt

-- If the work of a transfer was tried and given up, `GivesUp` holds.
pub gives_up : {H : Type 0} (caller_of : H → Caller) (did : H → Result Bool Stop → H → Type 0) (from to sum tries : ℕ) (stop : Stop) (a b : Caller)
    → ((h : H) (moved : Bool) (k : H) → did h (Ok moved) k → HasWorked from to sum moved (caller_of h) (caller_of k))
    → ((busy : ℕ) × (busy ≤ tries) × ((holder : ℕ) → stop ≡ Busy holder → busy ≡ tries) × (l : Caller) × FailsBusy (on_callers caller_of did) busy a l × FailsOrNot (on_callers caller_of did) l b stop)
    → GivesUp from to sum tries stop a b
gives_up caller_of did from to sum tries stop a b is (busy, within, all, last, before, failed) = record {
  busy = busy;
  within = within;
  all = all;
  last = last;
  before = busy_so (on_callers caller_of did) (Works from to sum) busy a last (works_so caller_of did from to sum is) before;
  failed = fails_or_not_so (on_callers caller_of did) (Works from to sum) last b stop (works_so caller_of did from to sum is) failed;
}
