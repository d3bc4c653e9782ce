-- The entries that a caller's records stand for.
use Rattle.std.specs.Prelude.{ℕ, zero, suc, List, [], ◌∷◌, ◌++◌, None, Some}
use Rattle.txn_words.specs.declared.entry.Entry.{Entry}
use Rattle.txn_words.specs.declared.entry.Entry.TheVariants.{Began, Asked, Did, Saved, Leave, Undone, Returned, Committed, Busy, Aborted}
use Rattle.striped_map.specs.declared.addition.Addition.{Addition}
use Rattle.striped_map.specs.declared.addition.Addition.TheVariants.{Yield}
use Rattle.striped_map.specs.declared.record.Told.{Told}
use Rattle.striped_map.specs.declared.record.Told.TheVariants.{TellBegin, TellNote, TellSave, TellBack, TellAbort, TellYield, TellCommit}
use Rattle.striped_map.specs.declared.record.Record.{Record}
use Rattle.striped_map.specs.Steps.{placed}

-- This many `Undone` entries, and then the entry `last`.
abbrev pub undone : ℕ → ℕ → Entry → List Entry
undone c zero last = last ∷ []
undone c (suc n) last = Undone c ∷ undone c n last

-- The entries of one step of caller `c`, without the numbers of transactions and commits.
abbrev pub told_by : ℕ → Told → List Entry
told_by c TellBegin = Began c 0 ∷ []
told_by c (TellNote op reply) = Asked c op ∷ Did c reply ∷ []
told_by c TellSave = Saved c ∷ []
told_by c (TellBack level n) = Leave c (Some level) ∷ undone c n (Returned c level)
told_by c (TellAbort n) = Leave c None ∷ undone c n (Aborted c)
told_by c (TellYield op holder n) = Busy c op holder ∷ undone c n (Aborted c)
told_by c TellCommit = Committed c 0 ∷ []

-- The record of the end of a transaction that takes this many changes back.
abbrev pub told_for : Addition → ℕ → Told
told_for (Yield op holder) n = TellYield op holder n
told_for _ n = TellAbort n

-- The entries of all these records, each with its position.
abbrev pub spread : ℕ → List Record → List (ℕ × Entry)
spread c [] = []
spread c (r ∷ rs) = placed r.at (told_by c r.what) ++ spread c rs
