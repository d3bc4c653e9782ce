-- PROMISES what-leads-to-a-bad-entry: IsHeldSince
-- Who holds a stripe, and since when.
use Rattle.std.specs.Prelude.{◌≡◌, ℕ, ◌==◌, ◌&&◌, Option, Some, None, List, length, nat_eq, if◌then◌else◌}
use Rattle.std.specs.Option.{option_eq}
use Rattle.txn_words.specs.declared.entry.Entry.{Entry}
use Rattle.txn_words.specs.declared.entry.Entry.TheVariants.{Asked, Committed, Aborted}
use Rattle.txn_words.specs.Kinds.{caller_of}
use Rattle.txn_trace.specs.Locks.{asks_in, holder_of, stripe_of}
use Rattle.txn_words.specs.Map.{key_of}
use Rattle.bad_entry.specs.declared.held.Held.{Held}
use Rattle.bad_entry.specs.Desks.{txn_in}
use Rattle.bad_entry.specs.Places.{first_answer}

-- The holder of a stripe after one more entry, given the holder before the entry. An Asked for a
-- key of the stripe takes the stripe. A Committed or an Aborted gives it back if the entry's caller
-- holds it.
abbrev pub next_holder : ℕ → ℕ → Option ℕ → Entry → Option ℕ
next_holder stripes s held (Asked c op) =
    if stripe_of stripes (key_of op) == s then Some c else held
next_holder stripes s held (Committed c p) =
    if option_eq nat_eq held (Some c) then None else held
next_holder stripes s held (Aborted c) = if option_eq nat_eq held (Some c) then None else held
next_holder stripes s held e = held

-- The index of the entry, if the entry asks for a key of the stripe and belongs to the transaction
-- `wanted`.
abbrev pub asked_at : Option ℕ → Option ℕ → ℕ → ℕ → ℕ → Entry → Option ℕ
asked_at txn wanted stripes s i e =
    if asks_in stripes s e && option_eq nat_eq txn wanted then Some i else None

-- The index of the first entry with which a transaction asked for a key of the stripe. The
-- transaction has held the stripe since this entry.
abbrev pub held_since : Option ℕ → ℕ → ℕ → List Entry → Option ℕ
held_since txn stripes s h =
    first_answer (λ g e. asked_at (txn_in g (caller_of e)) txn stripes s (length g) e) h

-- `None`: the stripe is free. `Some held`: this caller holds the stripe, in this transaction, since
-- this entry.
abbrev pub IsHeldSince : ℕ → ℕ → List Entry → Option Held → Type 0
IsHeldSince stripes s h None = holder_of stripes s h ≡ None
IsHeldSince stripes s h (Some held) =
    (holder_of stripes s h ≡ Some held.caller) × (held.txn ≡ txn_in h held.caller)
    × (held.since ≡ held_since held.txn stripes s h)
