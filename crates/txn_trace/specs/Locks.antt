-- The rule of locks: a stripe of keys belongs to at most one open transaction at a time, and a
-- `Busy` entry names a caller other than its own. Which callers it may name depends on the rule
-- that is chosen, `Now` or `Begun`.
use Rattle.std.specs.Prelude.{ℕ, ◌%◌, ◌==◌, Bool, true, false, not, ◌&&◌, Option, Some, None, slice_get, IsTrue, List, [], ◌∷◌, ◌++◌, map}
use Rattle.std.specs.List.{filter, list_any, list_all}
use mathlib.Core.List.{IsPrefix}
use Rattle.txn_words.specs.declared.entry.Entry.{Entry}
use Rattle.txn_words.specs.declared.entry.Entry.TheVariants.{Asked, Busy}
use Rattle.txn_words.specs.declared.holder.Holder.{Holder}
use Rattle.txn_words.specs.declared.holder.Holder.TheVariants.{Now, Begun}
use Rattle.txn_words.specs.Map.{key_of}
use Rattle.txn_trace.specs.History.{Line, lines_of, is_open}
use Rattle.txn_words.specs.Kinds.{caller_of, is_began}

-- The stripe of a key, for this number of stripes.
abbrev pub stripe_of : ℕ → ℕ → ℕ
stripe_of stripes k = k % stripes

-- Whether an entry is an `Asked` for a key of the stripe.
abbrev pub asks_in : ℕ → ℕ → Entry → Bool
asks_in stripes s (Asked c op) = stripe_of stripes (key_of op) == s
asks_in stripes s _ = false

-- Whether an entry belongs to an open transaction.
abbrev pub is_in_open : List Entry → Line → Bool
is_in_open h line = elim line.txn [ None ↦ false | Some t ↦ is_open t h ]

-- The callers with an open transaction that has asked for a key of the stripe.
abbrev pub holders : ℕ → ℕ → List Entry → List ℕ
holders stripes s h =
    map (λ line. caller_of line.entry)
    (filter (λ line. asks_in stripes s line.entry && is_in_open h line) (lines_of h))

-- The caller that holds a stripe, if a caller does. In a legal history no stripe has two holders.
abbrev pub holder_of : ℕ → ℕ → List Entry → Option ℕ
holder_of stripes s h = slice_get (holders stripes s h) 0

-- Whether a caller has begun a transaction.
abbrev pub has_begun : ℕ → List Entry → Bool
has_begun c g = list_any (λ e. is_began e && caller_of e == c) g

-- Whether a `Busy` for a key of the stripe `s` may name the caller `x` after the history `g`. By
-- the rule `Now`, `x` must hold the stripe. By the rule `Begun`, `x` must have begun a transaction.
abbrev pub may_name : Holder → ℕ → ℕ → List Entry → ℕ → Bool
may_name Now stripes s g x = list_any (λ y. y == x) (holders stripes s g)
may_name Begun stripes s g x = has_begun x g

-- Whether the rule of locks allows an entry after the history `g`. An `Asked` is allowed if no
-- other caller holds the stripe of its key. A `Busy` is allowed if it names a caller other than its
-- own and `may_name` allows the named caller. An entry of another kind is always allowed.
abbrev pub is_locked : Holder → ℕ → List Entry → Entry → Bool
is_locked holder stripes g (Asked c op) =
    list_all (λ x. x == c) (holders stripes (stripe_of stripes (key_of op)) g)
is_locked holder stripes g (Busy c op x) =
    not (x == c) && may_name holder stripes (stripe_of stripes (key_of op)) g x
is_locked holder stripes g _ = true

-- The rule of locks allows each entry of the history after the earlier entries.
abbrev pub LocksHold : Holder → ℕ → List Entry → Type 0
LocksHold holder stripes h =
    (g : List Entry) (e : Entry) → IsPrefix (g ++ e ∷ []) h → IsTrue (is_locked holder stripes g e)
