-- An operation as elements in JSON: how it is read, and how it is written.
use Rattle.std.specs.Prelude.{ℕ, List, [], ◌∷◌, length, ◌==◌, decimal, Bool, true, false, Option, Some, None, if◌then◌else◌, codes}
use Rattle.std.specs.Str.{bytes_eq}
use Rattle.serde_json.specs.Data.{Data}
use Rattle.txn_words.specs.declared.op.Op.{Op}
use Rattle.txn_words.specs.declared.op.Op.TheVariants.{Put, Take, Get, PutIf}
use Rattle.piece_files.specs.Elements.{◌>>=◌, number_at, optional_at, leading_text}

-- Reads the first two elements as the expected value (null or a number) and the new value of a
-- "put_if" of this key. The result is this "put_if", and the elements after the first two.
unfoldable pub put_if_at : ℕ → List Data → Option (Op × List Data)
put_if_at k ds = do
  expected ← optional_at ds
  v ← number_at expected.1
  Some (PutIf k expected.0 v.0, v.1)

-- Reads the operation at the start of the elements. The result is the operation, and the elements
-- after it. The elements of an operation are one of these:
--
-- - "put", a key and a value
-- - "take" or "get", and a key
-- - "put_if", a key, the expected value (null or a number) and the new value
unfoldable pub op_at : List Data → Option (Op × List Data)
op_at ds = do
  name ← leading_text ds
  k ← number_at name.1
  if bytes_eq name.0 (codes "put") then (number_at k.1 >>= λ v. Some (Put k.0 v.0, v.1))
      else if bytes_eq name.0 (codes "take") then Some (Take k.0, k.1)
      else if bytes_eq name.0 (codes "get") then Some (Get k.0, k.1)
      else if bytes_eq name.0 (codes "put_if") then put_if_at k.0 k.1
      else None

-- The operation with exactly these elements.
unfoldable pub op_of : List Data → Option Op
op_of ds = do
  op ← op_at ds
  if length op.1 == 0 then Some op.0 else None

-- Whether this operation already exists in version 1 of the file format.
abbrev pub is_old_op : Op → Bool
is_old_op (PutIf k expected v) = false
is_old_op _ = true

-- The elements of an operation, each as a text.
abbrev pub elements_of_op : Op → List (List ℕ)
elements_of_op (Put k v) = codes "\"put\"" ∷ decimal k ∷ decimal v ∷ []
elements_of_op (Take k) = codes "\"take\"" ∷ decimal k ∷ []
elements_of_op (Get k) = codes "\"get\"" ∷ decimal k ∷ []
elements_of_op (PutIf k None v) = codes "\"put_if\"" ∷ decimal k ∷ codes "null" ∷ decimal v ∷ []
elements_of_op (PutIf k (Some expected) v) =
    codes "\"put_if\"" ∷ decimal k ∷ decimal expected ∷ decimal v ∷ []
