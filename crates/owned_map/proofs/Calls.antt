-- Facts that remain true of a transaction across its calls. They follow from the contracts of the
-- calls.
use Rattle.std.proofs.Common.{◌≡◌, ℕ, Bool, ◌++◌, ◌∷◌, [], refl, sym, ap, subst, ◌∙◌, Option}
use Rattle.std.specs.Prelude.{Result, Ok, Err, OnErr}
use mathlib.Core.Logic.{inl, inr}
use Rattle.txn_words.specs.declared.entry.Entry.TheVariants.{Committed}
use Rattle.txn_words.specs.declared.op.Op.{Op}
use Rattle.txn_words.specs.Map.{Map}
use Rattle.txn_trace.specs.Now.{now}
use Rattle.txn_words.specs.Sizes.{Sizes}
use Rattle.boost_core.specs.State.{State, holder_by}
use Rattle.owned_map.specs.Within.{IsBasedOn, IsAt, CanAbort, OnlyWorked, GoesOn, HasDone, IsTakenBack, IsCommitted, IsRun, IsSameMap, IsGrown}
use Rattle.owned_map.specs.Keeps.{Keeps}
use Rattle.owned_map.proofs.Only as only
use Rattle.owned_map.proofs.Growing.{KeepsHistory, kept_by}
use Rattle.owned_map.specs.declared.transaction.Transaction.{Transaction}

-- If `GoesOn` holds from `old` to `between`, and from `between` to `new`, it holds from `old` to
-- `new`.
pub on : (c : ℕ) (old between new : State) → GoesOn c old between → GoesOn c between new → GoesOn c old new
on c old between new first second = record {
  back = λ base can. second.back base (first.back base can);
  beside = only.after c old between new first.beside second.beside;
}

-- If nothing is done, `GoesOn` holds.
pub stays : (c : ℕ) (old : State) → GoesOn c old old
stays c old = record { back = λ base can. can; beside = only.same c old old refl }

-- If only the table grows, `GoesOn` holds.
pub grew : (c : ℕ) (old new : State) → IsGrown c old new → GoesOn c old new
grew c old new grown = record {
  back = λ base can. moved base can;
  beside = only.same c old new is.history;
}
  where
    is : KeepsHistory old new
    is = kept_by c old new grown

    standing : (base : Map) (q : _) → IsAt c base q old → IsAt c base q new
    standing base q stands =
        subst (λ h. IsBasedOn (holder_by new.words) new.limits c base q h) (sym is.history)
        (subst (λ (l : Sizes). IsBasedOn (holder_by new.words) l c base q old.history) (sym is.limits)
        (subst (λ (w : Bool). IsBasedOn (holder_by w) old.limits c base q old.history) (sym is.words) stands))

    moved : (base : Map) → CanAbort c base old → CanAbort c base new
    moved base (inl stands) = inl (standing base _ stands)
    moved base (inr stands) = inr (standing base _ stands)

-- If a call changes nothing, `Keeps` holds for it.
pub keeps_stay : (t : Transaction) → Keeps t t
keeps_stay t = record { same_map = refl; same_caller = refl; goes_on = stays t.caller t.map.now.core }

pub keeps_on : (old between new : Transaction) → Keeps old between → Keeps between new → Keeps old new
keeps_on old between new first second = record {
  same_map = second.same_map ∙ first.same_map;
  same_caller = second.same_caller ∙ first.same_caller;
  goes_on = on old.caller old.map.now.core between.map.now.core new.map.now.core first.goes_on
      (subst (λ c. GoesOn c between.map.now.core new.map.now.core) first.same_caller second.goes_on);
}

-- If a call leaves the map's reference and the caller unchanged, and `GoesOn` holds for the caller,
-- `Keeps` holds for the call.
pub keeps_by : (old new : Transaction) → new.map.ghost_name ≡ old.map.ghost_name → new.caller ≡ old.caller → GoesOn old.caller old.map.now.core new.map.now.core → Keeps old new
keeps_by old new same_map same_caller goes_on = record { same_map = same_map; same_caller = same_caller; goes_on = goes_on }

-- If `GoesOn` holds from `old` to `between`, and `IsTakenBack` holds from `between` to `new`, then
-- `IsTakenBack` holds from `old` to `new`.
pub back_on : (c : ℕ) (old between new : State) → GoesOn c old between → IsTakenBack c between new → IsTakenBack c old new
back_on c old between new goes_on back = record {
  back = λ base can. back.back base (goes_on.back base can);
  beside = only.after c old between new goes_on.beside back.beside;
}

-- If `HasDone` holds for an operation, it still holds after the table has grown.
pub grew_done : (c : ℕ) (op : Op) (x : Option ℕ) (old between new : State) → HasDone op x old between → IsGrown c between new → HasDone op x old new
grew_done c op x old between new done grown = record { replied = done.replied; changed = ap now (kept_by c between new grown).history ∙ done.changed }

-- If a transaction began, continued and was committed, `IsRun` holds.
pub run : (c place : ℕ) (old begun done new : State) → now begun.history ≡ now old.history → OnlyWorked c old begun → GoesOn c begun done → IsCommitted c place done new → IsRun c old begun done new
run c place old begun done new same beside goes_on committed = record {
  began = same;
  ended = committed.same;
  place = place;
  commits = committed.commits ∙ ap (λ es. es ++ Committed c place ∷ []) (goes_on.beside.commits ∙ beside.commits);
}

-- If a transaction began, continued and was taken back, the map is unchanged (`IsSameMap`).
pub undone : (c : ℕ) (old begun done new : State) → CanAbort c (now old.history) begun → OnlyWorked c old begun → GoesOn c begun done → IsTakenBack c done new → IsSameMap c old new
undone c old begun done new can beside goes_on back = record {
  same = (back.back (now old.history) (goes_on.back (now old.history) can)).0;
  beside = only.after c old begun new beside (only.after c begun done new goes_on.beside back.beside);
}

pub on_err : {T E X : Type 0} (result : Result T E) → X → OnErr result X
on_err (Ok value) holds = tt
on_err (Err e) holds = holds
