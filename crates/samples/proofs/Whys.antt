-- The reason why nothing was moved, in terms of the map before the transaction.
use Rattle.std.proofs.Common.{◌≡◌, ◌<◌, ◌≤◌, ◌+◌, ◌^◌, ℕ, refl, subst, sym}
use Rattle.std.specs.Prelude.{Result, Ok, Err, IfErr}
use Rattle.samples.specs.Vocabulary.{IsStopped, OnlyWorked, State, Stop}
use Rattle.samples.proofs.Vocabulary.{after}
use Rattle.txn_words.specs.declared.step.Step.TheVariants.{Begin, Commit}
use Rattle.owned_map.specs.Effects.{HasBegun}
use Rattle.owned_map.proofs.Only.{same}
use Rattle.samples.specs.declared.bank.NotMoved.{NotMoved}
use Rattle.samples.specs.declared.bank.NotMoved.TheVariants.{TooLittle, TooMuch, Stopped}
use Rattle.samples.specs.Transfers.{balance}
use Rattle.samples.specs.OwnedTransfers.{IsWhy}

-- If `P` implies `Q` for every error, and `P` holds for a result's error, `Q` holds for this error.
pub on_err : {T E : Type 0} {P Q : E → Type 0} (result : Result T E) → ((e : E) → P e → Q e) → IfErr result P → IfErr result Q
on_err (Ok value) follows holds = tt
on_err (Err e) follows holds = follows e holds

-- If the transaction's begin was stopped, the reason why nothing was moved is this stop.
pub at_begin : (c from to sum : ℕ) (stop : Stop) (why : NotMoved) (old new : State) → why ≡ Stopped stop → IsStopped old (Begin c) stop new → IsWhy c from to sum why old
at_begin c from to sum stop why old new is stopped = subst (λ w. IsWhy c from to sum w old) (sym is)
    (record { before = old; beside = same c old old refl; step = Begin c; whose = refl; after = new; is = stopped })

-- If the transaction's commit was stopped, the reason why nothing was moved is this stop.
pub at_commit : (c from to sum : ℕ) (stop : Stop) (why : NotMoved) (old done left : State) → why ≡ Stopped stop → OnlyWorked c old done → IsStopped done (Commit c) stop left → IsWhy c from to sum why old
at_commit c from to sum stop why old done left is beside stopped = subst (λ w. IsWhy c from to sum w old) (sym is)
    (record { before = done; beside = beside; step = Commit c; whose = refl; after = left; is = stopped })

-- If there is a reason, after the begin, why nothing was moved, the same reason also holds before
-- the begin.
pub in_work : (c from to sum : ℕ) (why : NotMoved) (old begun : State) → HasBegun c old begun → IsWhy c from to sum why begun → IsWhy c from to sum why old
in_work c from to sum TooLittle old begun has why = subst (λ m. balance m from < sum) has.same why
in_work c from to sum TooMuch old begun has why = subst (λ m. 2 ^ 64 ≤ balance m to + sum) has.same why
in_work c from to sum (Stopped stop) old begun has why = record {
  before = why.before;
  beside = after c old begun why.before has.beside why.beside;
  step = why.step;
  whose = why.whose;
  after = why.after;
  is = why.is;
}
