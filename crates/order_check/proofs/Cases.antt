-- Worked histories: which orders they have.
use Rattle.std.proofs.Common.{[], ◌≡◌, ℕ, List, ◌∷◌, ◌++◌, Some, None, Option, refl}
use Rattle.std.proofs.lemmas.Bool.{false≢true}
use mathlib.Core.Logic.{inl, inr}
use Rattle.txn_words.specs.declared.op.Op.{Op}
use Rattle.txn_words.specs.declared.op.Op.TheVariants.{Put, Take, Get}
use Rattle.txn_words.specs.declared.entry.Entry.{Entry}
use Rattle.txn_words.specs.declared.entry.Entry.TheVariants.{Began, Asked, Did, Committed}
use Rattle.txn_words.specs.Map.{empty}
use Rattle.txn_trace.specs.Legal.{Illegal}
use Rattle.serial_check.specs.Serializable.{verdict}
use Rattle.order_check.specs.Serializable.{RunAlone, IsSerialOrder}

abbrev done : ℕ → Op → Option ℕ → List Entry
done c op x = Asked c op ∷ Did c x ∷ []

-- Transaction 1 reads a key that transaction 2 writes. The writer commits first. By the order of
-- commits this is wrong, but with the reader first it is right.
abbrev reads_stale : List Entry
reads_stale = Began 0 1 ∷ Began 1 2 ∷ done 0 (Get 1) None ++ done 1 (Put 1 10) None ++ Committed 1 1 ∷ Committed 0 2 ∷ []

reads_stale_verdict : verdict reads_stale ≡ Illegal 7 1
reads_stale_verdict = refl

reads_stale_in_order : IsSerialOrder reads_stale (1 ∷ 2 ∷ [])
reads_stale_in_order = record {
  each = record {
    apart = (λ is_in. elim is_in [ inl same ↦ cc same | inr never ↦ never ], (λ never. never, tt));
    all = λ t is_in. elim is_in [ inl is ↦ inr (inl is) | inr rest ↦ elim rest [ inl is ↦ inl is | inr never ↦ absurd never ] ];
    only = λ t is_in. elim is_in [ inl is ↦ inr (inl is) | inr rest ↦ elim rest [ inl is ↦ inl is | inr never ↦ absurd never ] ];
  };
  replies = (refl, (refl, tt));
}

-- Write skew: each of two transactions reads a key that the other one writes. Neither order is
-- right.
abbrev write_skew : List Entry
write_skew =
    Began 0 1 ∷ Began 1 2 ∷ done 0 (Get 1) None ++ done 0 (Get 2) None ++ done 1 (Get 1) None ++ done 1 (Get 2) None
    ++ done 0 (Put 1 10) None ++ done 1 (Put 2 20) None ++ Committed 0 1 ∷ Committed 1 2 ∷ []

write_skew_forth : RunAlone write_skew empty (1 ∷ 2 ∷ []) → ⊥
write_skew_forth runs = false≢true runs.1.0

write_skew_back : RunAlone write_skew empty (2 ∷ 1 ∷ []) → ⊥
write_skew_back runs = false≢true runs.1.0

-- Three transactions that commit in the order 1, 2, 3 and are right only in the order 3, 1, 2:
-- transaction 1 reads what 3 writes, and 2 reads what 1 writes.
abbrev late_writer : List Entry
late_writer =
    Began 0 1 ∷ Began 1 2 ∷ Began 2 3 ∷ done 2 (Put 3 30) None ++ done 0 (Get 3) (Some 30) ++ done 0 (Put 1 10) None ++ done 1 (Take 1) (Some 10)
    ++ Committed 0 1 ∷ Committed 1 2 ∷ Committed 2 3 ∷ []

late_writer_verdict : verdict late_writer ≡ Illegal 11 1
late_writer_verdict = refl

late_writer_runs : RunAlone late_writer empty (3 ∷ 1 ∷ 2 ∷ [])
late_writer_runs = (refl, (refl, (refl, tt)))
