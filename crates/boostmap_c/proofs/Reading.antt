-- One more of C's numbers is read.
use Rattle.std.proofs.Common.{◌≡◌, ℕ, ◌+◌, ◌<◌, ◌++◌, List, [], ◌∷◌, Option, Some, length, map, take, get_or, sym, ap, ◌∙◌}
use Rattle.std.proofs.lemmas.List.{map-append, take_more}
use Rattle.boostmap_c.specs.declared.c_entry.CEntry.{CEntry}

pub read_more : {A : Type 0} (read : CEntry → Option A) (es : List CEntry) (i : ℕ) (d : CEntry) (xs : List A) (x : A) → i < length es → map Some xs ≡ map read (take i es) → Some x ≡ read (get_or es i d)
    → map Some (xs ++ x ∷ []) ≡ map read (take (i + 1) es)
read_more read es i d xs x below before is = map-append Some xs (x ∷ []) ∙ ap (λ l. l ++ Some x ∷ []) before ∙ ap (λ y. map read (take i es) ++ y ∷ []) is
    ∙ sym (map-append read (take i es) (get_or es i d ∷ [])) ∙ ap (map read) (sym (take_more es i d below))
