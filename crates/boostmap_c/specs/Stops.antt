-- How the result of a map's call is reported to C: by a status, and for some results also by a word.
use Rattle.std.specs.Prelude.{ℕ, Option, Some, None, Result, Ok, Err}
use Rattle.txn_words.specs.declared.stop.Stop.{Stop}
use Rattle.txn_words.specs.declared.stop.Stop.TheVariants.{Busy, Refused}
use Rattle.striped_map.specs.declared.runs.RunEnd.{RunEnd}
use Rattle.striped_map.specs.declared.runs.RunEnd.TheVariants.{Committed, Missed}
use Rattle.boostmap_c.specs.Replies.{done, absent, busy, missed, refused}

-- The status for the reason why a call was not done. `word_of_stop` gives the word for this reason.
abbrev pub status_of_stop : Stop → ℕ
status_of_stop (Busy holder) = busy
status_of_stop (Refused refusal) = refused refusal

abbrev pub word_of_stop : ℕ → Stop → ℕ
word_of_stop before (Busy holder) = holder
word_of_stop before (Refused refusal) = before

-- The status for a call that returns a value or none. `word_of_reply` gives the word for this call.
abbrev pub status_of_reply : Result (Option ℕ) Stop → ℕ
status_of_reply (Ok None) = absent
status_of_reply (Ok (Some value)) = done
status_of_reply (Err stop) = status_of_stop stop

abbrev pub word_of_reply : ℕ → Result (Option ℕ) Stop → ℕ
word_of_reply before (Ok None) = before
word_of_reply before (Ok (Some value)) = value
word_of_reply before (Err stop) = word_of_stop before stop

-- The status for a call that returns a number. `word_of_number` gives the word for this call.
abbrev pub status_of_number : Result ℕ Stop → ℕ
status_of_number (Ok number) = done
status_of_number (Err stop) = status_of_stop stop

abbrev pub word_of_number : ℕ → Result ℕ Stop → ℕ
word_of_number before (Ok number) = number
word_of_number before (Err stop) = word_of_stop before stop

-- The status for a commit. The word is the commit number, or 0 if the map does not tell it.
abbrev pub status_of_place : Result (Option ℕ) Stop → ℕ
status_of_place (Ok found) = done
status_of_place (Err stop) = status_of_stop stop

abbrev pub word_of_place : ℕ → Result (Option ℕ) Stop → ℕ
word_of_place before (Ok None) = 0
word_of_place before (Ok (Some place)) = place
word_of_place before (Err stop) = word_of_stop before stop

-- The status for a call that returns no value. Such a call writes no word.
abbrev pub status_of_end : Result Unit Stop → ℕ
status_of_end (Ok nothing) = done
status_of_end (Err stop) = status_of_stop stop

-- The status for a run. The word is that of a commit, if the run was committed.
abbrev pub status_of_run : Result RunEnd Stop → ℕ
status_of_run (Ok (Committed found)) = done
status_of_run (Ok Missed) = missed
status_of_run (Err stop) = status_of_stop stop

abbrev pub word_of_run : ℕ → Result RunEnd Stop → ℕ
word_of_run before (Ok (Committed found)) = word_of_place before (Ok found)
word_of_run before (Ok Missed) = before
word_of_run before (Err stop) = word_of_stop before stop
