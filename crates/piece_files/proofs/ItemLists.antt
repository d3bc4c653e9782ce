-- The items of an array, as a list.
use Rattle.std.proofs.Common.{◌≡◌, List, [], ◌∷◌, refl, ap}
use Rattle.serde_json.specs.Data.{Data}
use Rattle.piece_files.specs.Elements.{list_of}
use Rattle.piece_files.specs.Tokens.{items_from}

pub list_of-items_from : (ds : List Data) → list_of (items_from ds) ≡ ds
list_of-items_from [] = refl
list_of-items_from (d ∷ ds) = ap (λ (es : List Data). d ∷ es) (list_of-items_from ds)
