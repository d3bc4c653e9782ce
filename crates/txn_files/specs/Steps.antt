-- Steps as arrays in JSON: the name of a step, and the elements after the name.
use Rattle.std.specs.Prelude.{ℕ, ◌==◌, Bool, true, List, length, Option, Some, None, if◌then◌else◌, codes}
use Rattle.std.specs.Str.{bytes_eq}
use Rattle.serde_json.specs.Data.{Data}
use Rattle.txn_words.specs.declared.step.Step.{Step}
use Rattle.txn_words.specs.declared.step.Step.TheVariants.{Begin, Ask, Seek, Act, Save, Back, Commit, Abort, Sweep, InitSeek, InitLink, InitStore, Double}
use Rattle.piece_files.specs.Elements.{◌>>=◌, number_at, leading_text, one_of, two_of}
use Rattle.txn_files.specs.Operations.{is_old_op, op_of}

-- The step that asks for an operation: these elements are its caller and the operation.
unfoldable pub ask_of : List Data → Option Step
ask_of ds = do
  c ← number_at ds
  op ← op_of c.1
  Some (Ask c.0 op)

-- The step that has this name and, as its only other element, this number.
unfoldable pub numbered_of : List ℕ → ℕ → Option Step
numbered_of name n =
    if bytes_eq name (codes "begin") then Some (Begin n)
    else if bytes_eq name (codes "seek") then Some (Seek n)
    else if bytes_eq name (codes "act") then Some (Act n)
    else if bytes_eq name (codes "save") then Some (Save n)
    else if bytes_eq name (codes "commit") then Some (Commit n)
    else if bytes_eq name (codes "abort") then Some (Abort n)
    else if bytes_eq name (codes "init_link") then Some (InitLink n)
    else if bytes_eq name (codes "init_store") then Some (InitStore n)
    else if bytes_eq name (codes "double") then Some (Double n)
    else None

-- The step with these elements: its name, and the elements after the name.
unfoldable pub step_of : List Data → Option Step
step_of ds = do
  name ← leading_text ds
  if bytes_eq name.0 (codes "ask") then ask_of name.1
      else if bytes_eq name.0 (codes "back") then (two_of name.1 >>= λ cn. Some (Back cn.0 cn.1))
      else if bytes_eq name.0 (codes "init_seek")
      then (two_of name.1 >>= λ hb. Some (InitSeek hb.0 hb.1))
      else if bytes_eq name.0 (codes "sweep") then (if length name.1 == 0 then Some Sweep else None)
      else (one_of name.1 >>= λ n. numbered_of name.0 n)

-- Whether this step already exists in version 1 of the file format.
abbrev pub is_old_step : Step → Bool
is_old_step (Ask c op) = is_old_op op
is_old_step _ = true
