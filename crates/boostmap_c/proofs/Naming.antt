-- Entries that each name an operation.
use Rattle.std.proofs.Common.{rules, true, is_some, ℕ, zero, suc, ◌+◌, ◌<◌, ◌≡◌, List, [], ◌∷◌, ◌++◌, Option, Some, None, length, map, take, slice_get, get_or, unwrap_or, refl, sym, ◌∙◌}
use Rattle.std.proofs.lemmas.List.{length-map, take_more}
use Rattle.txn_words.specs.declared.op.Op.{Op}
use Rattle.boostmap_c.specs.declared.c_entry.CEntry.{CEntry}
use Rattle.boostmap_c.specs.Entries.{op_of}
use Rattle.boostmap_c.specs.StripedRuns.{ops_in, with_op}

-- If the first is there, the others are all there.
rest_of : (o : Option Op) (ops : List Op) (rest : List (Option Op)) → map Some (with_op o ops) ≡ o ∷ rest → map Some ops ≡ rest
rest_of (Some op) ops rest same = search rules
rest_of None [] rest same = search rules
rest_of None (op ∷ ops) rest same = search rules

-- The first is there, whatever the others are.
first_of : (o : Option Op) (ops : List Op) (rest : List (Option Op)) → map Some (with_op o ops) ≡ o ∷ rest → (ops' : List Op) (rest' : List (Option Op)) → map Some ops' ≡ rest' → map Some (with_op o ops') ≡ o ∷ rest'
first_of (Some op) ops rest same ops' rest' more = search rules
first_of None [] rest same ops' rest' more = search rules
first_of None (op ∷ ops) rest same ops' rest' more = search rules

only_one : (o : Option Op) (op : Op) → o ≡ Some op → map Some (with_op o []) ≡ o ∷ []
only_one (Some o) op is = refl
only_one None op is = search rules

named_then : (entries : List CEntry) (entry : CEntry) (op : Op) → op_of entry ≡ Some op → map Some (ops_in entries) ≡ map op_of entries → map Some (ops_in (entries ++ entry ∷ [])) ≡ map op_of (entries ++ entry ∷ [])
named_then [] entry op is named = only_one (op_of entry) op is
named_then (first ∷ entries) entry op is named = first_of (op_of first) (ops_in entries) (map op_of entries) named _ _ (named_then entries entry op is (rest_of (op_of first) (ops_in entries) (map op_of entries) named))

some_in : (o : Option Op) → is_some o ≡ true → (op : Op) × (o ≡ Some op)
some_in (Some op) is = (op, refl)
some_in None is = search rules

-- One more entry names an operation.
pub named_next : (entries : List CEntry) (i : ℕ) (d : CEntry) → i < length entries → is_some (op_of (get_or entries i d)) ≡ true → map Some (ops_in (take i entries)) ≡ map op_of (take i entries) → map Some (ops_in (take (i + 1) entries)) ≡ map op_of (take (i + 1) entries)
named_next entries i d below is named = let op = some_in (op_of (get_or entries i d)) is in rw (take_more entries i d below) (named_then (take i entries) (get_or entries i d) op.0 op.1 named)

at_first : (o : Option Op) (ops : List Op) (rest : List (Option Op)) (other : Op) → map Some (with_op o ops) ≡ o ∷ rest → slice_get (with_op o ops) 0 ≡ Some (unwrap_or o other)
at_first (Some op) ops rest other same = refl
at_first None [] rest other same = search rules
at_first None (op ∷ ops) rest other same = search rules

at_next : (o : Option Op) (ops : List Op) (rest : List (Option Op)) (i : ℕ) (op : Op) → map Some (with_op o ops) ≡ o ∷ rest → slice_get ops i ≡ Some op → slice_get (with_op o ops) (suc i) ≡ Some op
at_next (Some o) ops rest i op same at = at
at_next None [] rest i op same at = search rules
at_next None (o ∷ ops) rest i op same at = search rules

-- The operation that an entry names is at the entry's place.
pub op_at : (entries : List CEntry) (i : ℕ) (d : CEntry) (other : Op) → i < length entries → map Some (ops_in entries) ≡ map op_of entries → slice_get (ops_in entries) i ≡ Some (unwrap_or (op_of (get_or entries i d)) other)
op_at [] i d other below named = search rules
op_at (first ∷ entries) zero d other below named = at_first (op_of first) (ops_in entries) (map op_of entries) other named
op_at (first ∷ entries) (suc i) d other below named = at_next (op_of first) (ops_in entries) (map op_of entries) i _ named (op_at entries i d other (search rules) (rest_of (op_of first) (ops_in entries) (map op_of entries) named))

-- There are as many operations as entries.
pub as_many : (entries : List CEntry) → map Some (ops_in entries) ≡ map op_of entries → length (ops_in entries) ≡ length entries
as_many entries named = sym (length-map (ops_in entries) Some) ∙ rw named (length-map entries op_of)
