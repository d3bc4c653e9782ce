-- PROMISES what-leads-to-a-bad-entry: IsTornSince
-- Commits that change the value of a key.
use Rattle.std.specs.Prelude.{◌≡◌, ℕ, ◌<◌, ◌≤◌, true, Option, Some, None, List, [], ◌∷◌, ◌++◌, length, take, nat_eq, if◌then◌else◌}
use Rattle.std.specs.Option.{option_eq}
use Rattle.txn_words.specs.declared.entry.Entry.{Entry}
use Rattle.txn_words.specs.declared.entry.Entry.TheVariants.{Committed}
use Rattle.txn_trace.specs.History.{is_open}
use Rattle.txn_words.specs.Map.{get}
use Rattle.txn_trace.specs.Serial.{serial}
use Rattle.serial_check.specs.Commits.{IsTorn, RunsSomewhere}
use Rattle.serial_check.specs.Serializable.{txn_in}
use Rattle.bad_entry.specs.Places.{last_answer}

-- The index and the caller of an entry, if it is a commit that changes the value of a key from
-- `before` to `after`.
abbrev pub settling_commit : ℕ → Entry → Option ℕ → Option ℕ → Option (ℕ × ℕ)
settling_commit i (Committed c p) before after =
    if option_eq nat_eq before after then None else Some (i, c)
settling_commit i _ before after = None

-- The last commit that changed the key's value in the map of the committed transactions.
abbrev pub last_commit : ℕ → List Entry → Option (ℕ × ℕ)
last_commit k h =
    last_answer (λ g e. settling_commit (length g) e (get (serial g) k)
    (get (serial (g ++ e ∷ [])) k)) h

-- The replies of the caller's open transaction contradict one another.
abbrev pub IsTornIn : List Entry → ℕ → Type 0
IsTornIn h c = (t : ℕ) → txn_in h c ≡ Some t → is_open t h ≡ true → IsTorn h t

-- There is a map on which the caller's open transaction, run alone, gets all of its replies.
abbrev pub IsWholeIn : List Entry → ℕ → Type 0
IsWholeIn h c = (t : ℕ) → txn_in h c ≡ Some t → is_open t h ≡ true → RunsSomewhere h t

-- `Some i`: the replies of the caller's transaction contradict one another from entry `i` on to the
-- end, but did not before entry `i`. `None`: the replies do not contradict one another at the end.
abbrev pub IsTornSince : List Entry → ℕ → Option ℕ → Type 0
IsTornSince h c None = IsWholeIn h c
IsTornSince h c (Some i) =
    (i < length h) × IsWholeIn (take i h) c
    × ((n : ℕ) → i < n → n ≤ length h → IsTornIn (take n h) c)
