-- Worked histories, checked by computation: which callers a `Busy` may name by the rule `Now` and
-- by the rule `Begun`.
use Rattle.std.proofs.Common.{◌≡◌, List, [], ◌∷◌, refl, None}
use Rattle.txn_words.specs.declared.op.Op.TheVariants.{Put, Get}
use Rattle.txn_words.specs.declared.entry.Entry.{Entry}
use Rattle.txn_words.specs.declared.entry.Entry.TheVariants.{Began, Asked, Did, Committed, Busy}
use Rattle.txn_words.specs.declared.holder.Holder.TheVariants.{Now, Begun}
use Rattle.txn_trace.specs.Legal.{verdict, Legal, Illegal}

-- The entry `Busy` names a caller that has begun a transaction, but this transaction has ended.
abbrev holder_has_begun : List Entry
holder_has_begun = Began 0 1 ∷ Asked 0 (Put 1 10) ∷ Did 0 None ∷ Committed 0 1 ∷ Began 1 2 ∷ Busy 1 (Get 9) 0 ∷ []

holder_has_begun_verdict : verdict Begun 8 holder_has_begun ≡ Legal 1 1
holder_has_begun_verdict = refl

holder_has_begun_now : verdict Now 8 holder_has_begun ≡ Illegal 5 2
holder_has_begun_now = refl

-- The entry `Busy` names a caller that has begun no transaction.
none_has_begun : verdict Begun 8 (Began 1 1 ∷ Busy 1 (Get 9) 0 ∷ []) ≡ Illegal 1 2
none_has_begun = refl

-- The entry `Busy` names its own caller.
begun_itself : verdict Begun 8 (Began 0 1 ∷ Asked 0 (Put 1 10) ∷ Did 0 None ∷ Busy 0 (Get 9) 0 ∷ []) ≡ Illegal 3 2
begun_itself = refl

-- Both rules refuse an `Asked` entry while another caller holds the stripe of its key.
begun_asked : verdict Begun 8 (Began 0 1 ∷ Asked 0 (Put 1 10) ∷ Did 0 None ∷ Began 1 2 ∷ Asked 1 (Get 9) ∷ []) ≡ Illegal 4 2
begun_asked = refl
