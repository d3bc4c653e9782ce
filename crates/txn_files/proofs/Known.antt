-- Reads that follow each other.
use Rattle.std.proofs.Common.{◌≡◌, ℕ, ◌-◌, ◌≤◌, List, [], ◌++◌, length, take, drop, Option, Some, None, refl, sym, ap, ◌∙◌, append_assoc, arith}
use Rattle.std.specs.Prelude.{IfSome}
use Rattle.std.specs.Io.KnownBytes.{Consumes, IsAtEnd}
use Rattle.std.proofs.lemmas.List.{append-nil, take-append-le, take_all, length-drop, length-append, length-take, length-take-le}
use Rattle.std.proofs.Math.Seq.{take-length}

pub Consumes-nothing : (o : Option (List ℕ)) → Consumes o o []
Consumes-nothing None = tt
Consumes-nothing (Some xs) = refl

pub Consumes-then : (a b c : Option (List ℕ)) (xs ys : List ℕ) → Consumes a b xs → Consumes b c ys → Consumes a c (xs ++ ys)
Consumes-then None b c xs ys p q = tt
Consumes-then (Some us) None c xs ys p q = absurd p
Consumes-then (Some us) (Some vs) None xs ys p q = absurd q
Consumes-then (Some us) (Some vs) (Some ws) xs ys p q = p ∙ ap (λ (s : List ℕ). xs ++ s) q ∙ sym (append_assoc xs ys ws)

-- If the input was read to its end and has at most `m` bytes, the bytes that were read are `take m`
-- of the input.
pub read_to_end : (a b c : Option (List ℕ)) (xs : List ℕ) (m : ℕ) → Consumes a b xs → Consumes b c [] → IsAtEnd c → length xs ≤ m → IfSome a (λ all. xs ≡ take m all)
read_to_end None b c xs m p q end le = tt
read_to_end (Some us) None c xs m p q end le = absurd p
read_to_end (Some us) (Some vs) None xs m p q end le = absurd q
read_to_end (Some us) (Some vs) (Some ws) xs m p q end le =
    let e : us ≡ xs = p ∙ ap (λ (s : List ℕ). xs ++ s) (q ∙ end) ∙ append-nil xs in
    rw e (sym (take_all m xs le))

-- If exactly `m` bytes of the input were read, they are `take m` of the input.
pub read_most : (a b : Option (List ℕ)) (xs : List ℕ) (m : ℕ) → Consumes a b xs → length xs ≤ m → m ≤ length xs → IfSome a (λ all. xs ≡ take m all)
read_most None b xs m p le ge = tt
read_most (Some us) None xs m p le ge = absurd p
read_most (Some us) (Some vs) xs m p le ge =
    let e : m ≡ length xs = omega arith in
    rw (p, take-append-le m xs vs ge, e, take-length) refl

-- If one more read puts bytes at the front of a buffer, the bytes read so far grow by these bytes.
pub read_more : (a b c : Option (List ℕ)) (xs part whole ys : List ℕ) (count : ℕ) → Consumes a b xs → Consumes b c (take count part) → count ≤ length part → ys ≡ xs ++ take count (part ++ whole) → Consumes a c ys
read_more a b c xs part whole ys count p q le e =
    rw (e, take-append-le count part whole le) (Consumes-then a b c xs (take count part) p q)

pub read_within : (xs part whole ys : List ℕ) (count room most : ℕ) → count ≤ length part → length part ≤ room → room ≤ most - length xs → length xs ≤ most → ys ≡ xs ++ take count (part ++ whole) → length ys ≤ most
read_within xs part whole ys count room most le fits small within e =
    let k : length (take count (part ++ whole)) ≡ count = rw (take-append-le count part whole le) (length-take-le count part le) in
    rw e (omega (arith, k, length-append xs (take count (part ++ whole))))

pub still_whole : (part chunk : List ℕ) (room : ℕ) → length part ≡ length (take room chunk) → 65536 ≤ length chunk → 65536 ≤ length (part ++ drop room chunk)
still_whole part chunk room e big = omega (arith, e, length-append part (drop room chunk), length-drop room chunk, length-take room chunk)
