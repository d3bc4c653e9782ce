-- From the footprint that a checker keeps of an open transaction to the footprint of the committed
-- transaction.
use Rattle.std.proofs.Common.{◌≡◌, ℕ, true, false, List, [], ◌∷◌, ◌++◌, Option, Some, None, refl, ap, sym, ◌∙◌, subst, is_some}
use Rattle.std.specs.Option.{option_and_then}
use Rattle.txn_words.specs.declared.entry.Entry.{Entry}
use Rattle.txn_words.specs.declared.entry.Entry.TheVariants.{Committed}
use Rattle.txn_words.specs.Map.{Map}
use Rattle.txn_trace.specs.Alone.{AloneRun, act, alone}
use Rattle.txn_trace.specs.History.{of}
use Rattle.txn_trace.specs.Log.{log_of}
use Rattle.txn_trace.proofs.Pushes.{txn_at, alone-push, of-push_in}
use Rattle.serial_check.specs.Footprints.{Foots, FootsIf}
use Rattle.order_check.specs.Footprints.{Footprint, HasFootprint}

pub from_foots : (es : List Entry) (footprint : Footprint) (log : List (ℕ × Option ℕ)) → Foots es footprint log → HasFootprint es footprint
from_foots es footprint log foots = record { needs = foots.needs; runs = foots.runs; sees = foots.sees; covers = tt }

-- A Committed entry changes no run.
commit_same : (c p : ℕ) (o : Option AloneRun) → option_and_then (λ r. act r (Committed c p)) o ≡ o
commit_same c p None = refl
commit_same c p (Some r) = refl

alone_commit : (m : Map) (es : List Entry) (c p : ℕ) → alone m (es ++ Committed c p ∷ []) ≡ alone m es
alone_commit m es c p = alone-push m es (Committed c p) ∙ commit_same c p (alone m es)

pub commit_has : (es : List Entry) (c p : ℕ) (footprint : Footprint) → HasFootprint es footprint → HasFootprint (es ++ Committed c p ∷ []) footprint
commit_has es c p footprint has = record {
  needs = λ m r run. has.needs m r (sym (alone_commit m es c p) ∙ run);
  runs = λ m meets. ap is_some (alone_commit m es c p) ∙ has.runs m meets;
  sees = λ m r run. has.sees m r (sym (alone_commit m es c p) ∙ run);
  covers = tt;
}

-- The transaction of a Committed has the footprint that was kept, or it runs on no map.
pub committed_has : (h : List Entry) (c p t : ℕ) (footprint : Footprint) → txn_at h (Committed c p) ≡ Some t → FootsIf false (of t h) footprint (log_of c h) → HasFootprint (of t (h ++ Committed c p ∷ [])) footprint
committed_has h c p t footprint at foots =
    subst (λ es. HasFootprint es footprint) (sym (of-push_in t h (Committed c p) at)) (commit_has (of t h) c p footprint (from_foots (of t h) footprint (log_of c h) foots))

pub committed_torn : (h : List Entry) (c p t : ℕ) (footprint : Footprint) → txn_at h (Committed c p) ≡ Some t → FootsIf true (of t h) footprint (log_of c h) → (m : Map) → alone m (of t (h ++ Committed c p ∷ [])) ≡ None
committed_torn h c p t footprint at torn m = ap (alone m) (of-push_in t h (Committed c p) at) ∙ alone_commit m (of t h) c p ∙ torn m
