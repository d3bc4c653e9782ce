-- PROMISES callers-in-threads: AreCounted
-- A caller and a pass as contracts see them, and the parts of a caller that a call leaves
-- unchanged.
use Rattle.std.specs.Prelude.{ℕ, ◌≡◌, Bool, List, length, map}
use Rattle.locked_map.specs.Vocabulary.{Call, Drive, Entry, Leveled, Sizes, TableId, range_with_len, step_of}
use Rattle.std.specs.List.{sum_by}
use Rattle.locked_map.specs.Claims.{Claimed, HasTriedFor, HasTriedIf, IsIdle}

-- A caller: its number, its map's limits, its side value, the entries that it has seen, its claims
-- to stripes, and whether it is broken.
pub record Token (S : Type 0) : Type 0 where
  pub number : ℕ
  pub limits : Sizes
  pub side : Leveled S
  pub seen : List Entry
  pub claims : Claimed
  pub broken : Bool

-- A pass: its number, its map's limits, and the identity of its map's words.
pub record Ticket : Type 0 where
  pub number : ℕ
  pub limits : Sizes
  pub words : TableId

abbrev pub new_ticket : Sizes → TableId → ℕ → Ticket
new_ticket limits words number = record { number = number; limits = limits; words = words }

-- One pass for each caller's number, in rising order. The passes share their words.
pub record AreTickets (limits : Sizes) (passes : List Ticket) : Type 0 where
  pub words : TableId
  pub are : passes ≡ map (new_ticket limits words) (range_with_len 0 limits.callers)

-- Both tokens belong to the same caller of the same map.
pub record IsSameCaller {S : Type 0} (k l : Token S) : Type 0 where
  pub number : l.number ≡ k.number
  pub limits : l.limits ≡ k.limits

-- The caller holds the same rights, and has tried no further word.
abbrev pub IsSameClaims : {S : Type 0} → Token S → Token S → Type 0
IsSameClaims k l = l.claims ≡ k.claims

-- The caller is unchanged except for its side value and its claims.
pub record IsSameSeen {S : Type 0} (k l : Token S) : Type 0 where
  pub whose : IsSameCaller k l
  pub seen : l.seen ≡ k.seen
  pub broken : l.broken ≡ k.broken

-- The caller is unchanged except for its side value.
pub record IsSameButSide {S : Type 0} (k l : Token S) : Type 0 where
  pub whose : IsSameCaller k l
  pub seen : l.seen ≡ k.seen
  pub claims : IsSameClaims k l
  pub broken : l.broken ≡ k.broken

-- The seat has the number of its pass or caller, and there is a word for each stripe.
pub record IsNumbered (number : ℕ) (limits : Sizes) (claims : Claimed) : Type 0 where
  pub number_is : claims.seat.number ≡ number
  pub stripes : claims.stripes ≡ limits.stripes

-- The claims of a pass that has not made its caller. The seat has the number of the pass, no word
-- was tried, and no right is held.
pub record IsUnused (number : ℕ) (limits : Sizes) (claims : Claimed) : Type 0 where
  pub seat : IsNumbered number limits claims
  pub idle : IsIdle claims

-- If the call is an operation, the caller's last trial was of the stripe to which the operation's
-- key belongs.
abbrev pub HasTried : {S : Type 0} → Token S → Call → Type 0
HasTried k call = HasTriedFor k.claims.tried k.limits.stripes call

-- If the next step of a drive asks for an operation, the caller's last trial was of the stripe to
-- which the operation's key belongs.
abbrev pub HasTriedNext : {S : Type 0} → Token S → Drive → Type 0
HasTriedNext k d = HasTriedIf k.claims.tried k.limits.stripes (step_of d)

-- The history has as many entries as all callers together have seen.
abbrev pub AreCounted : {S : Type 0} → List Entry → List (Token S) → Type 0
AreCounted h ks = length h ≡ sum_by (λ k. length k.seen) ks
