use Rattle.std.proofs.Common.{◌≡◌, ℕ, ◌≤◌, List, length}
use Rattle.json.specs.Json.{items, value, parse_map}
use Rattle.serde_json.specs.Data.{Data}
use Rattle.serde_json.specs.Read.{of_items, converted}
use Rattle.piece_files.specs.Tokens.{items_at, AreElements}
use Rattle.piece_files.proofs.ElementLists.{before}
use Rattle.piece_files.proofs.plain.plain_elements.Given as goal

abbrev pub invariant-elements : goal.invariant-elements
invariant-elements g l =
    (n : ℕ) × (ds : List Data) × (length l.reader ≤ n)
    × (items_at l.depth l.initial.reader ≡ parse_map (before ds) (converted of_items (items (value l.depth) n l.reader)))
    × (length l.reader ≤ length l.initial.reader)
    × AreElements g.row.MOST l.are_plain l.elements.items ds

abbrev pub decreases-elements : goal.decreases-elements
decreases-elements g l = length l.reader
