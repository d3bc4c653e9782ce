-- A text that is written block by block.
use Rattle.std.proofs.Common.{◌≡◌, ◌⊎◌, inl, inr, ℕ, ◌+◌, ◌<◌, ◌≤◌, Bool, true, false, List, [], ◌∷◌, ◌++◌, length, take, Option, Result, Ok, Err, refl, sym, ap, ◌∙◌, append_assoc, arith, length-append}
use Rattle.std.specs.Prelude.{◌↔◌, IsTrue, OnOk, IfErr}
use Rattle.std.proofs.Math.Seq.{take-add}
use Rattle.std.specs.Io.KnownBytes.{Appends}
use Rattle.std.proofs.lemmas.List.{append-nil, drop_at, take_at, take-append-le}
use Rattle.txn_files.specs.FileFault.{FileFault}
use Rattle.boostmap_engine.specs.declared.fault.Fault.{Fault}
use Rattle.boostmap_engine.specs.declared.fault.Fault.TheVariants as faults
use Rattle.boostmap_engine.specs.Written.{IsRead, LeavesOutput, LeavesText}
use Rattle.txn_files.specs.Output.{AppendsPart}
use Rattle.txn_files.proofs.Writes.{Appends-then}

take-past : (xs ys : List ℕ) (n : ℕ) → take (length xs + n) (xs ++ ys) ≡ xs ++ take n ys
take-past xs ys n = rw (take-add, take_at xs ys (length xs) refl, drop_at xs ys (length xs) refl) refl

-- After one more block is written, the whole text is what has been written, followed by the rest.
pub block_written : (whole done left block rest : List ℕ) → whole ≡ done ++ left → left ≡ block ++ rest → whole ≡ (done ++ block) ++ rest
block_written whole done left block rest is is_left =
    is ∙ ap (λ (xs : List ℕ). done ++ xs) is_left ∙ sym (append_assoc done block rest)

-- If a proper prefix of the next block was written, a proper prefix of the whole text was written.
pub part_written : (a b c : Option (List ℕ)) (whole done left block rest : List ℕ) → whole ≡ done ++ left → left ≡ block ++ rest → Appends a b done → AppendsPart b c block → AppendsPart a c whole
part_written a b c whole done left block rest is is_left before part =
    let split : whole ≡ done ++ (block ++ rest) = is ∙ ap (λ (xs : List ℕ). done ++ xs) is_left in
    let few : part.0 ≤ length block = omega (arith, part.1) in
    let begins : take (length done + part.0) whole ≡ done ++ take part.0 block =
    ap (take (length done + part.0)) split ∙ take-past done (block ++ rest) part.0 ∙ ap (λ (xs : List ℕ). done ++ xs) (take-append-le part.0 block rest few) in (
      length done + part.0,
      omega (arith, part.1, ap length split, length-append done (block ++ rest), length-append block rest),
      rw begins (Appends-then a b c done (take part.0 block) before part.2),
    )

-- If the next block is empty, the whole text has been written.
pub nothing_left : (found : Bool) (left block rest : List ℕ) (n : ℕ) → found ≡ false → IsTrue found ↔ (0 < length block) → (rest ≡ []) ⊎ (n < length block) → left ≡ block ++ rest → left ≡ []
nothing_left found left [] rest n is some (inl none) whole = whole ∙ none
nothing_left found left [] rest n is some (inr full) whole = absurd (omega (arith, full))
nothing_left true left (x ∷ xs) rest n is some full whole = absurd (cc is)
nothing_left false left (x ∷ xs) rest n is some full whole = absurd (grind (arith, some.1 (omega arith)))

pub whole_written : (whole done left : List ℕ) → whole ≡ done ++ left → left ≡ [] → done ≡ whole
whole_written whole done left is none = sym (is ∙ ap (λ (xs : List ℕ). done ++ xs) none ∙ append-nil done)

pub on_ok : {A E : Type 0} (r : Result A E) (P Q : Type 0) → (P → Q) → OnOk r P → OnOk r Q
on_ok (Ok x) P Q f h = f h
on_ok (Err e) P Q f h = tt

pub if_err : {A E : Type 0} (r : Result A E) (P Q : E → Type 0) → ((e : E) → P e → Q e) → IfErr r P → IfErr r Q
if_err (Ok x) P Q f h = tt
if_err (Err e) P Q f h = f e h

-- If `LeavesText` holds for a text that belongs to the bytes that were read, `LeavesOutput` holds
-- for these bytes.
pub leaves_of : (IsTextOf : List ℕ → List ℕ → Type 0) (IsRefused : List ℕ → FileFault → Type 0) (remaining old new : Option (List ℕ)) (bytes text : List ℕ) → IsRead remaining bytes → IsTextOf bytes text → (fault : Fault) → LeavesText old new text fault → LeavesOutput IsTextOf IsRefused remaining old new fault
leaves_of IsTextOf IsRefused remaining old new bytes text read is faults.Write h = (bytes, text, read, is, h)
leaves_of IsTextOf IsRefused remaining old new bytes text read is faults.NoMemory h = h
leaves_of IsTextOf IsRefused remaining old new bytes text read is (faults.Input fault) h = absurd h
leaves_of IsTextOf IsRefused remaining old new bytes text read is faults.Usage h = absurd h
leaves_of IsTextOf IsRefused remaining old new bytes text read is faults.NoThread h = absurd h
leaves_of IsTextOf IsRefused remaining old new bytes text read is faults.Read h = absurd h
leaves_of IsTextOf IsRefused remaining old new bytes text read is faults.OutOfStep h = absurd h
