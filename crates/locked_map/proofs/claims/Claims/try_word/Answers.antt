use Rattle.std.proofs.Common.{ℕ, Option, Some, arith, inl, inr}
use Rattle.locked_map.specs.Vocabulary.{Another, Holds, Mine, Rights, TableId, Tried}
use Rattle.std.proofs.lemmas.Bool.{cases_lt}
use Rattle.txn_words.specs.Held.{times}
use Rattle.locked_map.specs.Claims.{Claimed, InHand, Trial, Tries, WasFree, WasHeld, trial_of}
use Rattle.key_words.specs.Seats.{known}
use Rattle.key_words.specs.Kept as kept
use Rattle.locked_map.proofs.claims.Claims.try_word.Goals as goal

-- The claims of a caller with these rights.
abbrev claims_with : TableId → ℕ → Rights → Option Trial → Claimed
claims_with words stripes r tried =
    record { words = words; stripes = stripes; seat = known r.seat; held = r.rights.items; tried = tried }

tries_of : (words : TableId) (stripes stripe : ℕ) (r q : Rights) (before : Option Trial) (tried : Tried) → kept.Tries r stripe tried q → Tries (claims_with words stripes r before) stripe (claims_with words stripes q (trial_of stripe (Some tried)))
tries_of words stripes stripe r q before (Mine place) tries = elim (cases_lt 0 (times stripe (known r.seat).held)) [
  | inl holds ↦ let same = tries.1 holds in record { found = InHand; so = (holds, rw (same.0, same.1)) }
  | inr none ↦
      let free : Holds (known r.seat) stripe → ⊥ = λ some. omega (arith, none, some) in
      let gains = tries.2 free in record { found = WasFree; so = (free, rw (gains.0, gains.1)) }
]
tries_of words stripes stripe r q before (Another word) tries = record { found = WasHeld word; so = (tries.2, tries.0, tries.1, rw (tries.3, tries.4)) }

pub returns-clause-tries : goal.returns-clause-tries
returns-clause-tries c = rw (← c.self.view_is) (tries_of _ _ c.args.stripe c.self.inside.rights c.take.new.self _ c.in_ok-tried.tried c.in_ok-tried.ensures.tries)
