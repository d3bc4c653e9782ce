-- Examples of command lines: words that make a request, and words that make none.
use Rattle.std.proofs.Common.{◌≡◌, List, [], ◌∷◌, Some, None, codes, refl}
use Rattle.clap.specs.Words.{Text}
use Rattle.clap.proofs.OnLiterals.{clap_on_literals}
use Rattle.command_line.specs.Words.{asked}

abbrev request : List Text → List Text
request words = codes "boostmap" ∷ words

replay : asked (request (codes "replay" ∷ codes "a.json" ∷ [])) ≡ Some (codes "replay", None, codes "a.json")
unfolding clap_on_literals
replay = refl

run : asked (request (codes "run" ∷ codes "a.json" ∷ [])) ≡ Some (codes "run", None, codes "a.json")
unfolding clap_on_literals
run = refl

mix : asked (request (codes "mix" ∷ codes "--seed" ∷ codes "7" ∷ codes "a.json" ∷ [])) ≡ Some (codes "mix", Some 7, codes "a.json")
unfolding clap_on_literals
mix = refl

check : asked (request (codes "check" ∷ codes "a.json" ∷ [])) ≡ Some (codes "check", None, codes "a.json")
unfolding clap_on_literals
check = refl

seed_behind : asked (request (codes "mix" ∷ codes "a.json" ∷ codes "--seed=007" ∷ [])) ≡ Some (codes "mix", Some 7, codes "a.json")
unfolding clap_on_literals
seed_behind = refl

dash_in_name : asked (request (codes "check" ∷ codes "--" ∷ codes "-a" ∷ [])) ≡ Some (codes "check", None, codes "-a")
unfolding clap_on_literals
dash_in_name = refl

no_command : asked (request []) ≡ None
unfolding clap_on_literals
no_command = refl

other_command : asked (request (codes "undo" ∷ codes "a.json" ∷ [])) ≡ None
unfolding clap_on_literals
other_command = refl

no_file : asked (request (codes "replay" ∷ [])) ≡ None
unfolding clap_on_literals
no_file = refl

two_files : asked (request (codes "replay" ∷ codes "a" ∷ codes "b" ∷ [])) ≡ None
unfolding clap_on_literals
two_files = refl

no_seed : asked (request (codes "mix" ∷ codes "a.json" ∷ [])) ≡ None
unfolding clap_on_literals
no_seed = refl

signed_seed : asked (request (codes "mix" ∷ codes "--seed=+7" ∷ codes "a.json" ∷ [])) ≡ None
unfolding clap_on_literals
signed_seed = refl

large_seed : asked (request (codes "mix" ∷ codes "--seed=18446744073709551616" ∷ codes "a.json" ∷ [])) ≡ None
unfolding clap_on_literals
large_seed = refl

seed_elsewhere : asked (request (codes "run" ∷ codes "--seed=7" ∷ codes "a.json" ∷ [])) ≡ None
unfolding clap_on_literals
seed_elsewhere = refl

help : asked (request (codes "--help" ∷ [])) ≡ None
unfolding clap_on_literals
help = refl
