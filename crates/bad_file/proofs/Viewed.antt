-- The elements of an array of values.
use Rattle.std.proofs.Common.{◌≡◌, ℕ, ◌<◌, ◌≤◌, length, get_or, List, [], ◌∷◌, map, option_map, Some, refl, ap, sym, ◌∙◌, arith}
use Rattle.std.proofs.lemmas.List.{get_or-map, length-map}
use Rattle.serde_json.specs.Data.{Data}
use Rattle.serde_json.specs.Find.{as_array}
use Rattle.serde_json.specs.View.{items_of, items_view, view}
use Rattle.serde_json.specs.declared.value.Value.{Value}
use Rattle.piece_files.specs.Elements.{elements_of, list_of}

pub listed : (ds : List Data) → list_of (items_of ds) ≡ ds
listed [] = refl
listed (d ∷ ds) = ap (λ (rest : List Data). d ∷ rest) (listed ds)

pub elements_are : (d : Data) (vs ws : List Value) → vs ≡ ws → Some (items_view ws) ≡ as_array d → Some (map view vs) ≡ elements_of d
elements_are d vs ws same is = ap (λ xs. Some (map view xs)) same ∙ sym (ap (option_map list_of) (sym is) ∙ ap (λ (ds : List Data). Some ds) (listed (map view ws)))

-- The list of the views of an array's elements has the same length as the array.
pub seen_length : (vs : List Value) → length (map view vs) ≡ length vs
seen_length vs = length-map vs view

pub within : (vs : List Value) (i : ℕ) → i < length vs → i < length (map view vs)
within vs i below = let same = seen_length vs in omega arith

pub past : (vs : List Value) (i : ℕ) → length vs ≤ i → length (map view vs) ≤ i
past vs i over = let same = seen_length vs in omega arith

pub viewed : (vs : List Value) (i : ℕ) (v : Value) → i < length vs → v ≡ get_or vs i v → view v ≡ get_or (map view vs) i (view v)
viewed vs i v below is = ap view is ∙ sym (get_or-map view vs i v (view v) below)
