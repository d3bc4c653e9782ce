-- The values at the places of a history file.
use Rattle.std.specs.Prelude.{ℕ, List, slice_get, Option, Some, option_and_then, codes}
use Rattle.serde_json.specs.Data.{Data}
use Rattle.serde_json.specs.Find.{get}
use Rattle.piece_files.specs.Elements.{elements_of}
use Rattle.bad_file.specs.declared.place.Place.{Place}
use Rattle.bad_file.specs.declared.place.Place.TheVariants.{File, Version, Stripes, Entries, Entry, Element}

-- The element of an array at this index.
abbrev pub element_at : ℕ → Data → Option Data
element_at i d = option_and_then (λ ds. slice_get ds i) (elements_of d)

-- The entries of a file.
abbrev pub entries_of : Data → Option (List Data)
entries_of d = option_and_then elements_of (get (codes "entries") d)

-- The entry of a file at this index.
abbrev pub entry_at : ℕ → Data → Option Data
entry_at i d = option_and_then (λ ds. slice_get ds i) (entries_of d)

-- The value at a place, if there is one.
abbrev pub at : Place → Data → Option Data
at File d = Some d
at Version d = get (codes "version") d
at Stripes d = get (codes "stripes") d
at Entries d = get (codes "entries") d
at (Entry i) d = entry_at i d
at (Element i j) d = option_and_then (element_at j) (entry_at i d)
