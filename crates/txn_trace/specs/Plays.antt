-- PROMISES what-became-of-each-script: IsPlayed
-- PROMISES scripts-that-take-turns: Plays
-- The script that a transaction plays, and the scripts that the transactions of one caller play.
use Rattle.std.specs.Prelude.{◌≡◌, ℕ, ◌%◌, ◌<◌, ◌≤◌, ◌==◌, Bool, true, false, not, ◌&&◌, Some, List, [], ◌∷◌, ◌++◌, length, slice_get, if◌then◌else◌}
use Prim.Native.Nat.{suc}
use Rattle.std.specs.List.{filter, fold}
use Rattle.txn_words.specs.declared.action.Action.{Action}
use Rattle.txn_words.specs.declared.action.Action.TheVariants as actions
use Rattle.txn_words.specs.declared.entry.Entry.{Entry}
use Rattle.txn_words.specs.declared.entry.Entry.TheVariants.{Began, Asked, Did, Saved, Leave, Undone, Returned, Committed}
use Rattle.txn_trace.specs.History.{of, txns_of}
use Rattle.txn_words.specs.Kinds.{caller_of, is_began, is_commit}

-- Whether an entry is an `Undone`, which records that a change was taken back.
abbrev pub is_undone : Entry → Bool
is_undone (Undone c) = true
is_undone _ = false

-- The entries without the Undone entries.
abbrev pub without_undone : List Entry → List Entry
without_undone es = filter (λ e. not (is_undone e)) es

-- The entries are those of the actions, in order, followed by a `Committed`. An operation has the
-- entries `Asked` and `Did`, a savepoint has `Saved`, and a return to a level has `Leave` and
-- `Returned`. A call for help has no entry. A script with an abort is never played.
abbrev pub ArePlayed : List Action → List Entry → Type 0
ArePlayed [] (Committed c p ∷ []) = Unit {0}
ArePlayed (actions.Op op ∷ script) (Asked c asked ∷ Did d reply ∷ es) =
    (asked ≡ op) × ArePlayed script es
ArePlayed (actions.Save ∷ script) (Saved c ∷ es) = ArePlayed script es
ArePlayed (actions.Back n ∷ script) (Leave c (Some level) ∷ Returned d reached ∷ es) =
    (level ≡ n) × (reached ≡ n) × ArePlayed script es
ArePlayed (actions.Help k ∷ script) es = ArePlayed script es
ArePlayed _ _ = ⊥

-- The entries are a `Began`, then those of the script's actions, and then a `Committed`.
abbrev pub IsPlayed : List Action → List Entry → Type 0
IsPlayed script (Began c t ∷ es) = ArePlayed script es
IsPlayed script _ = ⊥

-- A transaction plays a script if its entries are a `Began`, those of each action in order, and a
-- `Committed`. `Undone` entries are ignored.
abbrev pub Plays : ℕ → List Action → List Entry → Type 0
Plays t script h = IsPlayed script (without_undone (of t h))

-- Whether an entry is a `Committed` of this caller.
abbrev pub is_commit_of : ℕ → Entry → Bool
is_commit_of c e = is_commit e && (caller_of e == c)

-- The committed transactions of a caller, in the order of their Committed entries.
abbrev pub commits_of : ℕ → List Entry → List ℕ
commits_of c h = txns_of (is_commit_of c) h

-- The script has the number `n` and belongs to caller `c`. A script belongs to the caller whose
-- number is the script's number modulo `callers`.
pub record IsScriptOf (callers : ℕ) (scripts : List (List Action)) (c n : ℕ)
    (script : List Action) : Type 0 where
  pub mine : n % callers ≡ c
  pub there : slice_get scripts n ≡ Some script

-- Each of these transactions plays one of the caller's scripts. The numbers of these scripts rise.
-- Each number is at least `low` and below `high`.
abbrev pub PlayRising : ℕ → List (List Action) → ℕ → List Entry → ℕ → ℕ → List ℕ → Type 0
PlayRising callers scripts c h low high [] = Unit {0}
PlayRising callers scripts c h low high (t ∷ ts) =
    (n : ℕ) × (script : List Action) × (low ≤ n) × (n < high)
    × IsScriptOf callers scripts c n script × Plays t script h
    × PlayRising callers scripts c h (suc n) high ts

-- For each caller, its committed transactions, in commit order, play scripts of this caller. The
-- numbers of these scripts rise.
abbrev pub PlayScripts : ℕ → List (List Action) → List Entry → Type 0
PlayScripts callers scripts h =
    (c : ℕ) → c < callers → PlayRising callers scripts c h 0 (length scripts) (commits_of c h)

-- Adds one more entry to one caller's entries, which are split into parts. Each part has the
-- entries of one transaction, and the newest part is the first of the list. A `Began` begins a new
-- part. Any other entry is added to the newest part, or dropped if there is no part.
abbrev pub part_after : List (List Entry) → Entry → List (List Entry)
part_after [] e = if is_began e then (e ∷ []) ∷ [] else []
part_after (part ∷ parts) e =
    if is_began e then (e ∷ []) ∷ part ∷ parts else (part ++ e ∷ []) ∷ parts

-- The entries of one caller, split into one part for each transaction. The part of the last
-- transaction comes first.
abbrev pub parts_of : List Entry → List (List Entry)
parts_of es = fold part_after [] es
