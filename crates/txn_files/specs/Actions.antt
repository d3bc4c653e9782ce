-- Actions as arrays in JSON, and scripts as arrays of such arrays.
use Rattle.std.specs.Prelude.{Bool, true, List, Option, Some, if◌then◌else◌, codes}
use Rattle.std.specs.List.{list_all}
use Rattle.std.specs.Result.{result_ok}
use Rattle.std.specs.Str.{bytes_eq}
use Rattle.serde_json.specs.Data.{Data}
use Rattle.txn_words.specs.declared.action.Action.{Action}
use Rattle.txn_words.specs.declared.action.Action.TheVariants.{Op, Save, Back, Help, Abort}
use Rattle.piece_files.specs.Elements.{◌>>=◌, leading_text, one_of, ends_here}
use Rattle.txn_files.specs.Operations.{is_old_op, op_of}
use Rattle.piece_files.specs.declared.part.Part.TheVariants as parts
use Rattle.piece_files.specs.Pieces.{pieces_from}

-- The action with these elements. The first element is the action's name. Any name other than
-- "save", "back", "help" and "abort" must be the name of an operation.
unfoldable pub action_of : List Data → Option Action
action_of ds = do
  name ← leading_text ds
  if bytes_eq name.0 (codes "save") then (ends_here name.1 >>= λ none. Some Save)
      else if bytes_eq name.0 (codes "back") then (one_of name.1 >>= λ n. Some (Back n))
      else if bytes_eq name.0 (codes "help") then (one_of name.1 >>= λ k. Some (Help k))
      else if bytes_eq name.0 (codes "abort") then (ends_here name.1 >>= λ none. Some Abort)
      else (op_of ds >>= λ op. Some (Op op))

-- The script with these elements: the list of its actions, if each element is an action.
unfoldable pub script_of : List Data → Option (List Action)
script_of ds = result_ok (pieces_from action_of parts.Script 0 ds)

-- Whether this action already exists in version 1 of the file format.
abbrev pub is_old_action : Action → Bool
is_old_action (Op op) = is_old_op op
is_old_action _ = true

-- Whether all actions of this script already exist in version 1 of the file format.
abbrev pub is_old_script : List Action → Bool
is_old_script script = list_all is_old_action script
