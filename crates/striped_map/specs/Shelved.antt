-- To which map a shelf belongs.
use Rattle.striped_map.specs.declared.shelf.Shelf.{Shelf}
use Rattle.striped_map.specs.Shelves.{Like}

-- The seat of the map that the shelf was made with.
abbrev pub like_of : Shelf → Like
like_of shelf = shelf.table.shared.key
