-- Lemmas about the request that `asked_in` makes of a command and the values found for its arguments.
use Rattle.std.proofs.Common.{◌≡◌, ℕ, Option, Some, None, codes, sym, ap, ◌∙◌}
use Rattle.std.specs.Prelude.{option_and_then, option_map}
use Rattle.clap.specs.declared.parser.matches.Found.{Found}
use Rattle.clap.specs.Words.{Text, first_of, first_value, rows_of}
use Rattle.clap.proofs.WalkLemmas.{first_value-rows}
use Rattle.command_line.specs.Words.{asked_for, asked_in, seed_of}

abbrev seed_in : Found → Option ℕ
seed_in found = option_and_then seed_of (first_of (codes "seed") (rows_of found))

pub over : (name known : Text) (found : Found) (file : Option Text) → name ≡ known → file ≡ first_value found (codes "FILE")
    → option_and_then (asked_for known (seed_in found)) file ≡ asked_in name (rows_of found)
over name known found file named is =
    ap (option_and_then (asked_for known (seed_in found))) (is ∙ first_value-rows found (codes "FILE"))
    ∙ ap (λ given. asked_in given (rows_of found)) (sym named)

-- If a file and a seed are found for `mix`, `asked_in` gives the request of `mix` with this file and
-- with the number that `seed_of` reads.
pub over_seed : (name : Text) (found : Found) (seed file : Text) → name ≡ codes "mix" → Some file ≡ first_value found (codes "FILE") → Some seed ≡ first_value found (codes "seed")
    → option_map (λ n. (codes "mix", Some n, file)) (seed_of seed) ≡ asked_in name (rows_of found)
over_seed name found seed file named is_file is_seed =
    ap (λ given. asked_for (codes "mix") (option_and_then seed_of given) file) (is_seed ∙ first_value-rows found (codes "seed"))
    ∙ over name (codes "mix") found (Some file) named is_file

pub over_no_seed : (name : Text) (found : Found) (file : Text) → name ≡ codes "mix" → Some file ≡ first_value found (codes "FILE") → None ≡ first_value found (codes "seed")
    → None ≡ asked_in name (rows_of found)
over_no_seed name found file named is_file is_seed =
    ap (λ given. asked_for (codes "mix") (option_and_then seed_of given) file) (is_seed ∙ first_value-rows found (codes "seed"))
    ∙ over name (codes "mix") found (Some file) named is_file
