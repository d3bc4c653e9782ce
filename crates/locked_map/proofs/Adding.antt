-- A caller's own entries in the part of the history that begins at a given position.
use Rattle.std.proofs.Common.{◌≡◌, ℕ, ◌+◌, ◌<◌, ◌↔◌, List, ◌∷◌, drop, get_or, length}
use Rattle.locked_map.specs.Vocabulary.{Entry, caller_of, own}
use Rattle.std.proofs.lemmas.Bool.{eq-eqb, ne_eqb}
use Rattle.std.proofs.lemmas.List.{drop_more}

pub own_more : (c : ℕ) (h : List Entry) (i : ℕ) (e d : Entry) (rest more seen : List Entry) → i < length h → e ≡ get_or h i d → caller_of e ≡ c → rest ≡ e ∷ more
    → (own c (drop i h) ≡ rest) ↔ (own c h ≡ seen) → (own c (drop (i + 1) h) ≡ more) ↔ (own c h ≡ seen)
own_more c h i e d rest more seen within at mine rest_is inv =
    let step : own c (drop i h) ≡ e ∷ own c (drop (i + 1) h) = rw (drop_more h i d within, ← at, eq-eqb (caller_of e) c mine) in
    (λ is. inv.0 (cc), λ is. cc (inv.1 is))

pub own_less : (c : ℕ) (h : List Entry) (i : ℕ) (d : Entry) (rest seen : List Entry) → i < length h → (caller_of (get_or h i d) ≡ c → ⊥)
    → (own c (drop i h) ≡ rest) ↔ (own c h ≡ seen) → (own c (drop (i + 1) h) ≡ rest) ↔ (own c h ≡ seen)
own_less c h i d rest seen within other inv =
    let step : own c (drop i h) ≡ own c (drop (i + 1) h) = rw (drop_more h i d within, ne_eqb (caller_of (get_or h i d)) c other) in
    (λ is. inv.0 (cc), λ is. cc (inv.1 is))
