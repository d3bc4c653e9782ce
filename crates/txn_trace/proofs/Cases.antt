-- Shows the verdicts and maps of worked histories, and what is left of them without aborted
-- transactions, because the prover computes them from the definitions.
use Rattle.std.proofs.Common.{[], ◌≡◌, ℕ, ◌^◌, ◌-◌, List, ◌∷◌, ◌++◌, Some, None, Option, refl, take, map}
use Rattle.split_key.specs.Split.{split, reversed, reversed_low}
use Rattle.txn_words.specs.declared.op.Op.{Op}
use Rattle.txn_words.specs.declared.op.Op.TheVariants.{Put, Take, Get}
use Rattle.txn_words.specs.declared.entry.Entry.{Entry}
use Rattle.txn_words.specs.declared.holder.Holder.TheVariants.{Now}
use Rattle.txn_words.specs.declared.entry.Entry.TheVariants.{Began, Asked, Did, Saved, Leave, Undone, Returned, Committed, Busy, Aborted}
use Rattle.txn_words.specs.Map.{Map, empty, insert}
use Rattle.txn_words.specs.Ordered.{ordered}
use Rattle.txn_trace.specs.Serial.{serial}
use Rattle.txn_trace.specs.Now.{now}
use Rattle.txn_trace.specs.Locks.{holder_of}
use Rattle.txn_trace.specs.Log.{log_of}
use Rattle.txn_trace.specs.Legal.{IsLegal, verdict, Legal, Illegal}
use Rattle.txn_trace.specs.Erase.{erase}
use Rattle.txn_words.specs.Owed.{owed}
use Rattle.txn_trace.proofs.BadEntries.{legal_iff}

-- An abort takes a put back.
abbrev abort_takes_back : List Entry
abort_takes_back = Began 0 1 ∷ Asked 0 (Put 1 10) ∷ Did 0 None ∷ Leave 0 None ∷ Undone 0 ∷ Aborted 0 ∷ []

abort_takes_back_verdict : verdict Now 8 abort_takes_back ≡ Legal 0 0
abort_takes_back_verdict = refl

abort_takes_back_done : (now (take 3 abort_takes_back)).rows ≡ (1, 10) ∷ []
abort_takes_back_done = refl

abort_takes_back_leaving : (now (take 4 abort_takes_back)).rows ≡ (1, 10) ∷ []
abort_takes_back_leaving = refl

abort_takes_back_undone : (now (take 5 abort_takes_back)).rows ≡ []
abort_takes_back_undone = refl

abort_takes_back_now : (now abort_takes_back).rows ≡ []
abort_takes_back_now = refl

abort_takes_back_erased : erase abort_takes_back ≡ []
abort_takes_back_erased = refl

-- A caller finds the stripe of its key held by another caller, and aborts.
abbrev busy_aborts : List Entry
busy_aborts = Began 0 1 ∷ Asked 0 (Put 1 10) ∷ Did 0 None ∷ Began 1 2 ∷ Busy 1 (Get 9) 0 ∷ Aborted 1 ∷ []

busy_aborts_verdict : verdict Now 8 busy_aborts ≡ Legal 0 1
busy_aborts_verdict = refl

busy_aborts_now : (now busy_aborts).rows ≡ (1, 10) ∷ []
busy_aborts_now = refl

busy_aborts_serial : (serial busy_aborts).rows ≡ []
busy_aborts_serial = refl

busy_aborts_erased : erase busy_aborts ≡ Began 0 1 ∷ Asked 0 (Put 1 10) ∷ Did 0 None ∷ []
busy_aborts_erased = refl

-- A transaction returns to a savepoint twice, then to its beginning, and commits no change.
abbrev savepoints : List Entry
savepoints = Began 0 1 ∷ Asked 0 (Put 1 10) ∷ Did 0 None ∷ Saved 0 ∷ Asked 0 (Put 1 11) ∷ Did 0 (Some 10) ∷ Saved 0 ∷ Asked 0 (Take 1) ∷ Did 0 (Some 11)
    ∷ Leave 0 (Some 1) ∷ Undone 0 ∷ Undone 0 ∷ Returned 0 1 ∷ Asked 0 (Get 1) ∷ Did 0 (Some 10) ∷ Leave 0 (Some 1) ∷ Returned 0 1 ∷ Asked 0 (Get 1) ∷ Did 0 (Some 10)
    ∷ Leave 0 (Some 0) ∷ Undone 0 ∷ Returned 0 0 ∷ Asked 0 (Get 1) ∷ Did 0 None ∷ Committed 0 1 ∷ []

savepoints_verdict : verdict Now 8 savepoints ≡ Legal 1 0
savepoints_verdict = refl

savepoints_taken : (now (take 9 savepoints)).rows ≡ []
savepoints_taken = refl

savepoints_undone_once : (now (take 11 savepoints)).rows ≡ (1, 11) ∷ []
savepoints_undone_once = refl

savepoints_undone_twice : (now (take 12 savepoints)).rows ≡ (1, 10) ∷ []
savepoints_undone_twice = refl

savepoints_now : (now savepoints).rows ≡ []
savepoints_now = refl

savepoints_serial : (serial savepoints).rows ≡ []
savepoints_serial = refl

-- A transaction takes a key and aborts, so the key gets its value back. No other caller sees the
-- take.
abbrev aborted_take_restores : List Entry
aborted_take_restores = Began 0 1 ∷ Asked 0 (Put 3 30) ∷ Did 0 None ∷ Committed 0 1 ∷ Began 0 2 ∷ Asked 0 (Take 3) ∷ Did 0 (Some 30) ∷ Began 1 3 ∷ Busy 1 (Get 3) 0 ∷ Aborted 1
    ∷ Leave 0 None ∷ Undone 0 ∷ Aborted 0 ∷ Began 1 4 ∷ Asked 1 (Get 3) ∷ Did 1 (Some 30) ∷ Committed 1 2 ∷ []

aborted_take_restores_verdict : verdict Now 8 aborted_take_restores ≡ Legal 2 0
aborted_take_restores_verdict = refl

aborted_take_restores_done : (now (take 7 aborted_take_restores)).rows ≡ []
aborted_take_restores_done = refl

aborted_take_restores_serial : (serial (take 7 aborted_take_restores)).rows ≡ (3, 30) ∷ []
aborted_take_restores_serial = refl

aborted_take_restores_undone : (now (take 12 aborted_take_restores)).rows ≡ (3, 30) ∷ []
aborted_take_restores_undone = refl

aborted_take_restores_now : (now aborted_take_restores).rows ≡ (3, 30) ∷ []
aborted_take_restores_now = refl

aborted_take_restores_erased : erase aborted_take_restores ≡ Began 0 1 ∷ Asked 0 (Put 3 30) ∷ Did 0 None ∷ Committed 0 1 ∷ Began 1 4 ∷ Asked 1 (Get 3) ∷ Did 1 (Some 30) ∷ Committed 1 2 ∷ []
aborted_take_restores_erased = refl

-- The number of entries that all callers together may still append without a new reservation, at
-- two moments: while the take waits for its reply, and after caller 1 has found that caller 0 holds
-- the stripe.
aborted_take_restores_owed : owed 2 (take 6 aborted_take_restores) ≡ 4
aborted_take_restores_owed = refl

aborted_take_restores_owed_busy : owed 2 (take 9 aborted_take_restores) ≡ 4
aborted_take_restores_owed_busy = refl

-- A caller aborts before its operation has a reply. This withdraws the operation.
abbrev withdrawn_put : List Entry
withdrawn_put = Began 0 1 ∷ Asked 0 (Put 1 10) ∷ Leave 0 None ∷ Aborted 0 ∷ []

withdrawn_put_verdict : verdict Now 8 withdrawn_put ≡ Legal 0 0
withdrawn_put_verdict = refl

withdrawn_put_now : (now (take 3 withdrawn_put)).rows ≡ []
withdrawn_put_now = refl

-- Three callers each change their own keys, and then take all changes back. In each round, each
-- caller adds one entry.
abbrev round : (ℕ → Entry) → List Entry
round entry = entry 0 ∷ entry 1 ∷ entry 2 ∷ []

abbrev pub asked_and_done : ℕ → Op → Option ℕ → List Entry
asked_and_done c op x = Asked c op ∷ Did c x ∷ []

abbrev callers_undone : List Entry
callers_undone =
    Began 0 1 ∷ asked_and_done 0 (Put 1 10) None ++ Began 1 2 ∷ asked_and_done 1 (Put 2 10) None ++ Began 2 3 ∷ asked_and_done 2 (Put 3 10) None
    ++ asked_and_done 0 (Put 1 20) (Some 10) ++ asked_and_done 0 (Take 1) (Some 20) ++ asked_and_done 1 (Put 2 20) (Some 10) ++ asked_and_done 1 (Take 2) (Some 20)
    ++ asked_and_done 2 (Put 3 20) (Some 10) ++ asked_and_done 2 (Take 3) (Some 20)
    ++ round (λ c. Leave c None) ++ round (λ c. Undone c) ++ round (λ c. Undone c) ++ round (λ c. Undone c) ++ round (λ c. Aborted c)

callers_undone_verdict : verdict Now 8 callers_undone ≡ Legal 0 0
callers_undone_verdict = refl

callers_undone_taken : (now (take 24 callers_undone)).rows ≡ []
callers_undone_taken = refl

callers_undone_first : (now (take 27 callers_undone)).rows ≡ (1, 20) ∷ (2, 20) ∷ (3, 20) ∷ []
callers_undone_first = refl

callers_undone_second : (now (take 30 callers_undone)).rows ≡ (1, 10) ∷ (2, 10) ∷ (3, 10) ∷ []
callers_undone_second = refl

callers_undone_third : (now (take 33 callers_undone)).rows ≡ []
callers_undone_third = refl

callers_undone_log : log_of 1 (take 28 callers_undone) ≡ (2, Some 10) ∷ (2, None) ∷ []
callers_undone_log = refl

callers_undone_log_further : log_of 1 (take 29 callers_undone) ≡ (2, None) ∷ []
callers_undone_log_further = refl

callers_undone_holder : holder_of 8 3 (take 33 callers_undone) ≡ Some 2
callers_undone_holder = refl

callers_undone_free : holder_of 8 3 callers_undone ≡ None
callers_undone_free = refl

-- The transaction that begins second commits first.
abbrev crossed : List Entry
crossed = Began 0 1 ∷ Began 1 2 ∷ Asked 0 (Put 2 20) ∷ Asked 1 (Put 4 40) ∷ Did 1 None ∷ Did 0 None ∷ Committed 1 1 ∷ Committed 0 2 ∷ []

crossed_verdict : verdict Now 8 crossed ≡ Legal 2 0
crossed_verdict = refl

crossed_open : verdict Now 8 (take 7 crossed) ≡ Legal 1 1
crossed_open = refl

crossed_ordered : ordered (now crossed) ≡ (4, 40) ∷ (2, 20) ∷ []
unfolding split reversed reversed_low
crossed_ordered = refl

-- Transaction 1 changes a key that transaction 2 has put, and commits after transaction 2.
abbrev handed_on : List Entry
handed_on = Began 1 1 ∷ Began 0 2 ∷ Asked 0 (Put 1 10) ∷ Did 0 None ∷ Committed 0 1 ∷ Asked 1 (Put 1 11) ∷ Did 1 (Some 10) ∷ Committed 1 2 ∷ []

handed_on_verdict : verdict Now 8 handed_on ≡ Legal 2 0
handed_on_verdict = refl

handed_on_serial : (serial handed_on).rows ≡ (1, 11) ∷ []
handed_on_serial = refl

-- A later transaction reads a value that an aborted transaction has put.
abbrev checker_replies_front : List Entry
checker_replies_front = Began 0 1 ∷ Asked 0 (Put 1 10) ∷ Did 0 None ∷ Committed 0 1 ∷ Began 1 2 ∷ Asked 1 (Put 1 99) ∷ Did 1 (Some 10) ∷ Leave 1 None ∷ []

abbrev checker_replies : List Entry
checker_replies = checker_replies_front ++ Undone 1 ∷ Aborted 1 ∷ Began 0 3 ∷ Asked 0 (Get 1) ∷ Did 0 (Some 99) ∷ Committed 0 2 ∷ []

abbrev checker_replies_right : List Entry
checker_replies_right = checker_replies_front ++ Undone 1 ∷ Aborted 1 ∷ Began 0 3 ∷ Asked 0 (Get 1) ∷ Did 0 (Some 10) ∷ Committed 0 2 ∷ []

abbrev checker_replies_not_undone : List Entry
checker_replies_not_undone = checker_replies_front ++ Aborted 1 ∷ Began 0 3 ∷ Asked 0 (Get 1) ∷ Did 0 (Some 99) ∷ Committed 0 2 ∷ []

checker_replies_verdict : verdict Now 8 checker_replies ≡ Illegal 12 1
checker_replies_verdict = refl

checker_replies_right_verdict : verdict Now 8 checker_replies_right ≡ Legal 2 0
checker_replies_right_verdict = refl

checker_replies_not_undone_verdict : verdict Now 8 checker_replies_not_undone ≡ Illegal 8 3
checker_replies_not_undone_verdict = refl

-- The verdicts on prefixes of `checker_replies`.
fed_entry_by_entry_10 : verdict Now 8 (take 10 checker_replies) ≡ Legal 1 0
fed_entry_by_entry_10 = refl

fed_entry_by_entry_11 : verdict Now 8 (take 11 checker_replies) ≡ Legal 1 1
fed_entry_by_entry_11 = refl

fed_entry_by_entry_12 : verdict Now 8 (take 12 checker_replies) ≡ Legal 1 1
fed_entry_by_entry_12 = refl

fed_entry_by_entry_13 : verdict Now 8 (take 13 checker_replies) ≡ Illegal 12 1
fed_entry_by_entry_13 = refl

fed_entry_by_entry_14 : verdict Now 8 (take 14 checker_replies) ≡ Illegal 12 1
fed_entry_by_entry_14 = refl

-- Entries that break the rule of locks: an `Asked` for a key whose stripe another caller holds, a
-- `Busy` that names a caller without stripes, and a `Busy` that names its own caller.
checker_locks_asked : verdict Now 8 (Began 0 1 ∷ Asked 0 (Put 1 10) ∷ Did 0 None ∷ Began 1 2 ∷ Asked 1 (Get 9) ∷ []) ≡ Illegal 4 2
checker_locks_asked = refl

checker_locks_busy : verdict Now 8 (Began 0 1 ∷ Busy 0 (Get 9) 1 ∷ []) ≡ Illegal 1 2
checker_locks_busy = refl

checker_locks_busy_itself : verdict Now 8 (Began 0 1 ∷ Asked 0 (Put 1 10) ∷ Did 0 None ∷ Busy 0 (Get 9) 0 ∷ []) ≡ Illegal 3 2
checker_locks_busy_itself = refl

-- The verdicts on forged histories.
forged_none : verdict Now 8 [] ≡ Legal 0 0
forged_none = refl

forged_undone : verdict Now 8 (Undone 0 ∷ []) ≡ Illegal 0 3
forged_undone = refl

forged_place : verdict Now 8 (Began 0 1 ∷ Committed 0 2 ∷ []) ≡ Illegal 1 3
forged_place = refl

forged_number : verdict Now 8 (Began 0 1 ∷ Began 1 3 ∷ []) ≡ Illegal 1 3
forged_number = refl

forged_level : verdict Now 8 (Began 0 1 ∷ Leave 0 (Some 1) ∷ []) ≡ Illegal 1 3
forged_level = refl

forged_reply : verdict Now 8 (Began 0 1 ∷ Asked 0 (Get 5) ∷ Did 0 (Some 7) ∷ Leave 0 None ∷ []) ≡ Illegal 2 1
forged_reply = refl

-- The keys 1 and 9 share a stripe if there are eight stripes, but not if there are sixteen.
abbrev forged_stripes : List Entry
forged_stripes = Began 0 1 ∷ Asked 0 (Get 1) ∷ Began 1 2 ∷ Asked 1 (Get 9) ∷ []

forged_stripes_verdict : verdict Now 8 forged_stripes ≡ Illegal 3 2
forged_stripes_verdict = refl

forged_stripes_more_stripes_verdict : verdict Now 16 forged_stripes ≡ Legal 0 2
forged_stripes_more_stripes_verdict = refl

-- The split keys of some keys and dummies, and the rows of some maps in the order of their split
-- keys.
split_keys : map split (0 ∷ 4 ∷ 2 ∷ 10 ∷ 6 ∷ 1 ∷ 5 ∷ 3 ∷ 7 ∷ (2 ^ 63 - 1) ∷ []) ≡ 0x0000000000000001 ∷ 0x2000000000000001 ∷ 0x4000000000000001 ∷ 0x5000000000000001 ∷ 0x6000000000000001
    ∷ 0x8000000000000001 ∷ 0xa000000000000001 ∷ 0xc000000000000001 ∷ 0xe000000000000001 ∷ 0xffffffffffffffff ∷ []
unfolding split reversed reversed_low
split_keys = refl

split_dummies : map reversed (0 ∷ 2 ∷ 1 ∷ 3 ∷ []) ≡ 0x0000000000000000 ∷ 0x4000000000000000 ∷ 0x8000000000000000 ∷ 0xc000000000000000 ∷ []
unfolding reversed reversed_low
split_dummies = refl

abbrev with_keys : List ℕ → Map
with_keys [] = empty
with_keys (k ∷ ks) = insert (with_keys ks) k k

ordered_0_to_7 : map (λ pair. pair.0) (ordered (with_keys (0 ∷ 1 ∷ 2 ∷ 3 ∷ 4 ∷ 5 ∷ 6 ∷ 7 ∷ []))) ≡ 0 ∷ 4 ∷ 2 ∷ 6 ∷ 1 ∷ 5 ∷ 3 ∷ 7 ∷ []
unfolding split reversed reversed_low
ordered_0_to_7 = refl

ordered_five : ordered (insert (insert (insert (insert (insert empty 1 10) 2 20) 3 30) 4 40) 5 50) ≡ (4, 40) ∷ (2, 20) ∷ (1, 10) ∷ (5, 50) ∷ (3, 30) ∷ []
unfolding split reversed reversed_low
ordered_five = refl

ordered_last : ordered (insert (insert empty (2 ^ 63 - 1) 7) 3 30) ≡ (3, 30) ∷ (2 ^ 63 - 1, 7) ∷ []
unfolding split reversed reversed_low
ordered_last = refl

-- The prover computes that some histories are legal by the definition, and that others are not.
aborted_take_restores_legal : IsLegal Now 8 aborted_take_restores
aborted_take_restores_legal = (legal_iff 8 aborted_take_restores).1 refl

savepoints_legal : IsLegal Now 8 savepoints
savepoints_legal = (legal_iff 8 savepoints).1 refl

checker_replies_not_legal : IsLegal Now 8 checker_replies → ⊥
checker_replies_not_legal legal = cc ((legal_iff 8 checker_replies).0 legal)
