-- The first and the last result of a test over the entries of a history.
use Rattle.std.specs.Prelude.{Option, None, List, [], ◌∷◌, ◌++◌}
use Rattle.std.specs.Option.{option_or}
use Rattle.txn_words.specs.declared.entry.Entry.{Entry}

-- The test's result for the last entry of `h` for which the test has a result, or `last` if there
-- is no such entry. The entries `g` precede `h`. The test is given an entry and all entries before
-- this entry.
abbrev pub last_from : {X : Type 0} → (List Entry → Entry → Option X) → List Entry → List Entry
    → Option X → Option X
last_from test g [] last = last
last_from test g (e ∷ h) last = last_from test (g ++ e ∷ []) h (option_or (test g e) last)

-- The last result of a test over the entries of a history.
abbrev pub last_answer : {X : Type 0} → (List Entry → Entry → Option X) → List Entry → Option X
last_answer test h = last_from test [] h None

-- The test's result for the first entry of `h` for which the test has a result. The entries `g`
-- precede `h`.
abbrev pub first_from : {X : Type 0} → (List Entry → Entry → Option X) → List Entry → List Entry
    → Option X
first_from test g [] = None
first_from test g (e ∷ h) = option_or (test g e) (first_from test (g ++ e ∷ []) h)

-- The first result of a test over the entries of a history.
abbrev pub first_answer : {X : Type 0} → (List Entry → Entry → Option X) → List Entry → Option X
first_answer test h = first_from test [] h
