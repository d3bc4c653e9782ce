-- The states of helpers.
use Rattle.std.specs.Prelude.{ℕ, Bool, false, Option, Some, None, Result, Ok, Err}
use Rattle.std.specs.Option.{option_map}
use Rattle.node_list.specs.Nodes.{Listing}
use Rattle.list_steps.specs.declared.cursor.Cursor.{Cursor}
use Rattle.list_steps.specs.Found.{change_number_of, fits}
use Rattle.bucket_table.specs.Directory.{Directory, helper_of}
use Rattle.bucket_table.specs.declared.answer.InitRefusal.{InitRefusal}
use Rattle.bucket_table.specs.declared.answer.InitRefusal.TheVariants.{HelperOutOfOrder}
use Rattle.bucket_table.specs.declared.helper.Helper.{Helper}
use Rattle.bucket_table.specs.declared.helper.Helper.TheVariants.{Idle, Seeking, Holding}

-- The helper's bucket and cursor, or `HelperOutOfOrder` if it has no cursor.
abbrev pub seeking_of : Helper → Result (ℕ × Cursor) InitRefusal
seeking_of Idle = Err HelperOutOfOrder
seeking_of (Seeking bucket cursor) = Ok (bucket, cursor)
seeking_of (Holding bucket dummy) = Err HelperOutOfOrder

-- The helper's bucket and dummy, or `HelperOutOfOrder` if it has no dummy.
abbrev pub holding_of : Helper → Result (ℕ × ℕ) InitRefusal
holding_of Idle = Err HelperOutOfOrder
holding_of (Seeking bucket cursor) = Err HelperOutOfOrder
holding_of (Holding bucket dummy) = Ok (bucket, dummy)

-- The part of a helper's state that decides answers. The helper has one of three things: nothing; a
-- cursor for a bucket's dummy, with the change number at which the cursor was placed; or a bucket's
-- dummy.
pub data Help : Type 0 where
  Nothing : Help
  Sought : ℕ → ℕ → Help
  Dummy : ℕ → Help

abbrev pub help_of : Helper → Help
help_of Idle = Nothing
help_of (Seeking bucket cursor) = Sought bucket (change_number_of cursor)
help_of (Holding bucket dummy) = Dummy bucket

-- What `help_of` gives for the helper with this number, if there is such a helper.
abbrev pub help_at : Directory → ℕ → Option Help
help_at d helper = option_map help_of (helper_of d helper)

-- True if the helper has a cursor and the cursor fits the list.
abbrev pub cursor_fits : Listing → Option Helper → Bool
cursor_fits l (Some (Seeking bucket cursor)) = fits l cursor
cursor_fits l (Some Idle) = false
cursor_fits l (Some (Holding bucket dummy)) = false
cursor_fits l None = false
