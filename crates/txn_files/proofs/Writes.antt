-- Writes that follow each other.
use Rattle.std.proofs.Common.{◌≡◌, ℕ, ◌+◌, ◌-◌, ◌≤◌, List, [], ◌++◌, length, take, drop, Option, Some, None, sym, ap, ◌∙◌, append_assoc, append-nil, arith}
use Rattle.std.specs.Io.KnownBytes.{Appends, Keeps}
use Rattle.std.proofs.lemmas.List.{take_all, length-drop}
use Rattle.std.proofs.Math.Seq.{take-length, take-add}

pub Appends-nothing : (o : Option (List ℕ)) → Appends o o []
Appends-nothing None = tt
Appends-nothing (Some xs) = sym (append-nil xs)

pub Appends-then : (a b c : Option (List ℕ)) (xs ys : List ℕ) → Appends a b xs → Appends b c ys → Appends a c (xs ++ ys)
Appends-then None b c xs ys p q = tt
Appends-then (Some us) None c xs ys p q = absurd p
Appends-then (Some us) (Some vs) None xs ys p q = absurd q
Appends-then (Some us) (Some vs) (Some ws) xs ys p q = q ∙ ap (λ (s : List ℕ). s ++ ys) p ∙ append_assoc us xs ys

pub Appends-kept : (a b c : Option (List ℕ)) (xs : List ℕ) → Appends a b xs → Keeps b c → Appends a c xs
Appends-kept None b c xs p q = tt
Appends-kept (Some us) None c xs p q = absurd p
Appends-kept (Some us) (Some vs) None xs p q = absurd q
Appends-kept (Some us) (Some vs) (Some ws) xs p q = q ∙ p

rest_whole : (text : List ℕ) (done : ℕ) → take (length text - done) (drop done text) ≡ drop done text
rest_whole text done = take_all (length text - done) (drop done text) (omega (arith, length-drop done text))

-- If a writer has taken `done` bytes of a text and then takes `count` bytes of the rest, it has
-- taken `done + count` bytes of the text in all.
pub written_more : (a b c : Option (List ℕ)) (text : List ℕ) (done count : ℕ) → Appends a b (take done text) → Appends b c (take count (take (length text - done) (drop done text))) → Appends a c (take (done + count) text)
written_more a b c text done count p q =
    let r = rw rest_whole at q in
    rw take-add (Appends-then a b c (take done text) (take count (drop done text)) p r)

pub still_within : (text : List ℕ) (done count : ℕ) → done ≤ length text → count ≤ length (take (length text - done) (drop done text)) → done + count ≤ length text
still_within text done count le h = let k = rw rest_whole at h in omega (arith, k, length-drop done text)

pub written_all : (a b : Option (List ℕ)) (text : List ℕ) (done : ℕ) → done ≤ length text → length text ≤ done → Appends a b (take done text) → Appends a b text
written_all a b text done le ge p = let e : done ≡ length text = omega arith in rw (e, take-length) at p
