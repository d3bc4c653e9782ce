-- The facts that a hand's contracts name: an operation under another key, a view without stripes,
-- which stripes a seat holds after a call, why a stripe was not taken, and the ends of a
-- transaction that take all changes back.
use Rattle.std.specs.Prelude.{◌≡◌, ◌≢◌, ◌⊎◌, ℕ, ◌<◌, List, [], ◌∷◌, true}
use Rattle.txn_words.specs.declared.op.Op.{Op}
use Rattle.txn_words.specs.declared.op.Op.TheVariants.{Put, Take, Get, PutIf}
use Rattle.txn_words.specs.declared.refusal.Refusal.TheVariants.{NoMemory}
use Rattle.txn_trace.specs.Locks.{has_begun}
use Rattle.striped_map.specs.declared.view.View.{View}
use Rattle.striped_map.specs.Rule.{Holds}
use Rattle.striped_map.specs.declared.addition.Addition.{Addition}
use Rattle.striped_map.specs.declared.addition.Addition.TheVariants.{Abort, Yield}
use Rattle.txn_words.specs.declared.stop.Stop.{Stop}
use Rattle.txn_words.specs.declared.stop.Stop.TheVariants.{Busy, Refused}

-- The same operation, but on the key `key`.
abbrev pub under : Op → ℕ → Op
under (Put k value) key = Put key value
under (Take k) key = Take key
under (Get k) key = Get key
under (PutIf k expected value) key = PutIf key expected value

-- The view, with no stripe held.
abbrev pub idle : View → View
idle v = record v { held = [] }

-- Why a stripe was not taken. Either another caller, which has begun a transaction, held it
-- (`Busy`), or memory was refused.
abbrev pub IsMiss : View → Stop → Type 0
IsMiss v (Busy holder) = (has_begun holder v.seen ≡ true) × (holder ≢ v.number)
IsMiss v (Refused refusal) = refusal ≡ NoMemory

-- An end of a transaction that takes all changes back: an abort, or the end after a busy stripe
-- (`Yield`). A `Yield` names another caller, which has begun a transaction.
abbrev pub IsEnd : View → Addition → Type 0
IsEnd v Abort = Unit {0}
IsEnd v (Yield op holder) = (has_begun holder v.seen ≡ true) × (holder ≢ v.number)
IsEnd v _ = ⊥

-- The stripes `after` are the stripes `before`, and perhaps this stripe too.
abbrev pub GainsAtMost : ℕ → List ℕ → List ℕ → Type 0
GainsAtMost stripe before after = (after ≡ before) ⊎ (after ≡ stripe ∷ before)

-- The seat with the view `w` holds each stripe that the seat with the view `v` holds.
abbrev pub KeepsHeld : View → View → Type 0
KeepsHeld v w = (stripe : ℕ) → Holds v stripe → Holds w stripe

-- The seat with this view holds every stripe.
abbrev pub HoldsAllOf : ℕ → View → Type 0
HoldsAllOf stripes v = (stripe : ℕ) → stripe < stripes → Holds v stripe
