-- PROMISES from-c: status_of_result
-- The statuses by which the result of a call is reported to C.
use Rattle.std.specs.Prelude.{ℕ, ◌+◌, Result, Ok, Err}
use Rattle.txn_words.specs.declared.refusal.Refusal.{Refusal}
use Rattle.txn_words.specs.Refusals.{number_of}

-- The status of a call that succeeded.
abbrev pub done : ℕ
done = 0

-- The status of a call that succeeded at a key that had no value.
abbrev pub absent : ℕ
absent = 1

-- The status of a call that finds the stripe held by another caller.
abbrev pub busy : ℕ
busy = 2

-- The status of a call on a handle that owns nothing.
abbrev pub empty_handle : ℕ
empty_handle = 3

-- The status of a call on a handle that owns something already.
abbrev pub full : ℕ
full = 4

-- The status of a call whose array is too short.
abbrev pub short : ℕ
short = 7

-- The status of a call whose numbers stand for no entry.
abbrev pub no_entry : ℕ
no_entry = 8

-- The status of a call that needs the host in a handle that has none.
abbrev pub no_host : ℕ
no_host = 10

-- The status of a call for the history of a map that does not keep its entries.
abbrev pub not_kept : ℕ
not_kept = 11

-- The status of a call for the history if a caller has not ended.
abbrev pub missing : ℕ
missing = 12

-- The status of a run that a PutIf ended.
abbrev pub missed : ℕ
missed = 13

-- The status of a refusal.
abbrev pub refused : Refusal → ℕ
refused refusal = 16 + number_of refusal

-- The status of a call that either succeeds or is refused.
abbrev pub status_of_result : Result Unit Refusal → ℕ
status_of_result (Ok succeeded) = done
status_of_result (Err refusal) = refused refusal
