-- The known bytes of a reader after each read. The rules of a file.
use Rattle.std.proofs.Common.{◌≡◌, ℕ, ◌<◌, Bool, true, false, List, [], ◌++◌, take, Option, Some, None, refl, sym, ap, subst, ◌∙◌, append_assoc, append-nil}
use Rattle.std.specs.Prelude.{IfSome, option_map}
use Rattle.std.specs.Io.KnownBytes.{Consumes, IsAtEnd, Keeps}
use Rattle.judge_engine.specs.Bases.{HasStripes}
use Rattle.judge_engine.specs.Files.{basis_of}

pub Consumes-none : (a : Option (List ℕ)) → Consumes a a []
Consumes-none None = tt
Consumes-none (Some us) = refl

pub Consumes-more : (a b c : Option (List ℕ)) (xs ys : List ℕ) → Consumes a b xs → Consumes b c ys → Consumes a c (xs ++ ys)
Consumes-more None b c xs ys p q = tt
Consumes-more (Some us) None c xs ys p q = absurd p
Consumes-more (Some us) (Some vs) None xs ys p q = absurd q
Consumes-more (Some us) (Some vs) (Some ws) xs ys p q = p ∙ ap (λ (s : List ℕ). xs ++ s) q ∙ sym (append_assoc xs ys ws)

-- Assume that `P` holds for the bytes that were read, followed by any further bytes. Then `P` holds
-- for all bytes that the reader had left.
pub OfAll-early : (P : List ℕ → Type 0) (a b : Option (List ℕ)) (xs : List ℕ) → Consumes a b xs → ((more : List ℕ) → P (xs ++ more)) → (bytes : List ℕ) × IfSome a (λ all. bytes ≡ all) × P bytes
OfAll-early P None b xs p h = (xs ++ [], tt, h [])
OfAll-early P (Some us) None xs p h = absurd p
OfAll-early P (Some us) (Some vs) xs p h = (us, refl, subst P (sym p) (h vs))

-- If the reader is at its end and `P` holds for the bytes that were read, it holds for all bytes
-- that the reader had left.
pub OfAll-read : (P : List ℕ → Type 0) (a b : Option (List ℕ)) (xs : List ℕ) → Consumes a b xs → IsAtEnd b → P xs → (bytes : List ℕ) × IfSome a (λ all. bytes ≡ all) × P bytes
OfAll-read P None b xs p end h = (xs, tt, h)
OfAll-read P (Some us) None xs p end h = absurd p
OfAll-read P (Some us) (Some vs) xs p end h =
    let same : us ≡ xs = p ∙ ap (λ (s : List ℕ). xs ++ s) end ∙ append-nil xs in
    (us, refl, subst P (sym same) h)

-- ---- writes

pub keeps_all : (a : Option (List ℕ)) → Keeps a a
keeps_all None = tt
keeps_all (Some xs) = refl

-- ---- the rules of a file

-- The rules of a history file have at least one stripe.
pub has_stripes : (by_commits : Bool) (stripes version : ℕ) → 0 < stripes → HasStripes (basis_of by_commits stripes version)
has_stripes true stripes version some = tt
has_stripes false stripes version some = some
