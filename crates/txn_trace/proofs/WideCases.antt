-- Worked histories with keys of 64 bits and with put_if, checked by computation.
use Rattle.std.proofs.Common.{[], ◌≡◌, List, ◌∷◌, ◌++◌, Some, None, refl}
use Rattle.split_key.specs.Split.{split, reversed, reversed_low}
use Rattle.txn_words.specs.declared.op.Op.TheVariants.{Put, PutIf}
use Rattle.txn_words.specs.declared.entry.Entry.{Entry}
use Rattle.txn_words.specs.declared.holder.Holder.TheVariants.{Now}
use Rattle.txn_words.specs.declared.entry.Entry.TheVariants.{Began, Leave, Undone, Committed, Aborted}
use Rattle.txn_words.specs.Ordered.{ordered}
use Rattle.txn_trace.specs.Now.{now}
use Rattle.txn_trace.specs.Legal.{verdict, Legal, Illegal}
use Rattle.txn_trace.specs.Erase.{erase}
use Rattle.txn_trace.proofs.Cases.{asked_and_done}

-- Two of the keys share a split key. Two of the put_ifs change their keys, and two do not.
abbrev two_of_one_split_key : List Entry
two_of_one_split_key =
    Began 0 1 ∷ asked_and_done 0 (Put 9223372036854775809 11) None ++ asked_and_done 0 (Put 1 10) None ++ asked_and_done 0 (PutIf 1 None 12) (Some 10)
    ++ asked_and_done 0 (PutIf 1 (Some 10) 12) (Some 10) ++ asked_and_done 0 (PutIf 2 None 20) None ++ asked_and_done 0 (PutIf 3 (Some 5) 6) None
    ++ asked_and_done 0 (Put 18446744073709551615 7) None

abbrev keys_of_64_bits : List Entry
keys_of_64_bits = two_of_one_split_key ++ Committed 0 1 ∷ []

keys_of_64_bits_verdict : verdict Now 8 keys_of_64_bits ≡ Legal 1 0
keys_of_64_bits_verdict = refl

keys_of_64_bits_ordered : ordered (now keys_of_64_bits) ≡ (2, 20) ∷ (1, 12) ∷ (9223372036854775809, 11) ∷ (18446744073709551615, 7) ∷ []
unfolding split reversed reversed_low
keys_of_64_bits_ordered = refl

abbrev keys_of_64_bits_leave : List Entry
keys_of_64_bits_leave = two_of_one_split_key ++ Leave 0 None ∷ Undone 0 ∷ Undone 0 ∷ Undone 0 ∷ Undone 0 ∷ []

keys_of_64_bits_undone : verdict Now 8 (keys_of_64_bits_leave ++ Undone 0 ∷ Aborted 0 ∷ []) ≡ Legal 0 0
keys_of_64_bits_undone = refl

keys_of_64_bits_not_undone : verdict Now 8 (keys_of_64_bits_leave ++ Aborted 0 ∷ []) ≡ Illegal 20 3
keys_of_64_bits_not_undone = refl

keys_of_64_bits_left : (now (keys_of_64_bits_leave ++ Undone 0 ∷ Aborted 0 ∷ [])).rows ≡ []
keys_of_64_bits_left = refl

abbrev put_if_history_front : List Entry
put_if_history_front = Began 0 1 ∷ asked_and_done 0 (PutIf 1 None 5) None ++ asked_and_done 0 (PutIf 1 (Some 4) 6) (Some 5) ++ Leave 0 None ∷ Undone 0 ∷ []

put_if_history : verdict Now 8 (put_if_history_front ++ Aborted 0 ∷ []) ≡ Legal 0 0
put_if_history = refl

put_if_history_undone_twice : verdict Now 8 (put_if_history_front ++ Undone 0 ∷ Aborted 0 ∷ []) ≡ Illegal 7 3
put_if_history_undone_twice = refl

put_if_history_erased : erase (put_if_history_front ++ Aborted 0 ∷ []) ≡ []
put_if_history_erased = refl
