-- The numbers of a history file are in range.
use Rattle.std.proofs.Common.{◌≡◌, ℕ, ◌<◌, Bool, true, false, ◌&&◌, if◌then◌else◌, List, [], ◌∷◌, Result, Ok, Err, refl, sym, subst, arith}
use Rattle.std.specs.Prelude.{nat_le}
use Rattle.std.specs.List.{All, list_all}
use Rattle.std.proofs.lemmas.Bool.{and_parts, leb-true}
use Rattle.std.proofs.lemmas.List.Sums.{AllPass-from_list_all}
use Rattle.std.proofs.lemmas.List.Elements.{All-weaker}
use Rattle.txn_words.specs.declared.entry.Entry.{Entry}
use Rattle.txn_words.specs.declared.entry.Entry.TheVariants.{Began, Asked, Did, Saved, Leave, Undone, Returned, Committed, Busy, Aborted}
use Rattle.txn_words.specs.Kinds.{caller_of}
use Rattle.txn_files.specs.FileFault.{FileFault}
use Rattle.txn_files.specs.FileFault.TheVariants.{Limit}
use Rattle.txn_files.specs.Faults.{◌>>=◌}
use Rattle.txn_files.specs.Files.{contents}
use Rattle.txn_files.specs.HistoryFile.{history_file, is_in_range, is_history, entries_from, history_of}

within : (e : Entry) → is_in_range e ≡ true → caller_of e < 64
within (Busy c op x) h = omega (arith, leb-true c 63 (and_parts _ _ h).0)
within (Began c t) h = omega (arith, leb-true c 63 h)
within (Asked c op) h = omega (arith, leb-true c 63 h)
within (Did c reply) h = omega (arith, leb-true c 63 h)
within (Saved c) h = omega (arith, leb-true c 63 h)
within (Leave c level) h = omega (arith, leb-true c 63 h)
within (Undone c) h = omega (arith, leb-true c 63 h)
within (Returned c level) h = omega (arith, leb-true c 63 h)
within (Committed c place) h = omega (arith, leb-true c 63 h)
within (Aborted c) h = omega (arith, leb-true c 63 h)

-- If `x` passes the test `P`, the result is Ok with `x`, and otherwise the result is a fault. So if
-- the result is Ok with `y`, then `y` passes `P`.
let_through : {A : Type 0} (P : A → Bool) (x y : A) (test : Bool) → test ≡ P x → ◌≡◌ {A = Result A FileFault} (if test then Ok x else Err Limit) (Ok y) → P y ≡ true
let_through P x y true is e = let same : x ≡ y = cc e in subst (λ z. P z ≡ true) same (sym is)
let_through P x y false is e = absurd (cc e)

abbrev is_file : ℕ × List Entry × ℕ → Bool
is_file file = is_history file.0 file.1

of_numbers : (given : ℕ) (numbers : List ℕ) (entries : List Entry) (file : ℕ × List Entry × ℕ) → entries_from given numbers entries ≡ Ok file → is_file file ≡ true
unfolding entries_from
of_numbers given (s ∷ []) entries file e = let_through is_file (s, entries, given) file (is_history s entries) refl e
of_numbers given [] entries file e = absurd (cc e)
of_numbers given (s ∷ t ∷ numbers) entries file e = absurd (cc e)

of_contents : (found : Result (ℕ × List ℕ × List Entry) FileFault) (file : ℕ × List Entry × ℕ) → (found >>= λ f. entries_from f.0 f.1 f.2) ≡ Ok file → is_file file ≡ true
of_contents (Ok f) file e = of_numbers f.0 f.1 f.2 file e
of_contents (Err fault) file e = absurd (cc e)

-- The history of a file has at least one stripe, and its callers are below 64. A judge requires
-- both.
pub file_in_range : (bytes : List ℕ) (file : ℕ × List Entry × ℕ) → history_of bytes ≡ Ok file → (0 < file.0) × All (λ e. caller_of e < 64) file.1
file_in_range bytes file e =
    let all = and_parts (nat_le 1 file.0 && nat_le file.0 4096) (list_all is_in_range file.1) (of_contents (contents history_file bytes) file e) in
    let some = and_parts (nat_le 1 file.0) (nat_le file.0 4096) all.0 in
    (omega (arith, leb-true 1 file.0 some.0), All-weaker (λ e. is_in_range e ≡ true) (λ e. caller_of e < 64) within file.1 (AllPass-from_list_all is_in_range file.1 all.1))
