-- PROMISES from-words-and-bytes-to-bytes: asked
-- The request that a command line makes. The rules of `clap` say how its words are read.
use Rattle.std.specs.Prelude.{ℕ, ◌^◌, ◌&&◌, true, List, [], ◌∷◌, codes}
use Rattle.std.specs.Prelude.{Option, Some, None, if◌then◌else◌, nat_lt, option_map}
use Rattle.std.specs.Prelude.{option_and_then}
use Rattle.std.specs.List.{list_any}
use Rattle.std.specs.Str.{bytes_eq}
use Rattle.std.specs.Str.Parse.{digits_value}
use Rattle.clap.specs.declared.builder.action.ArgAction.TheVariants.{Set}
use Rattle.clap.specs.Words.{App, Rule, Row, Text, Kinds, fault_of, first_of, new_app}
use Rattle.clap.specs.Words.{new_rule, subcommand_of, with_rule, with_subcommand}
use Rattle.clap.specs.Simple.{on_top}
use Rattle.program_system.specs.Words.{file_word, is_numeral}
use Rattle.command_line.specs.declared.words.Request.{Request}
use Rattle.command_line.specs.declared.words.Command.{Command}
use Rattle.command_line.specs.declared.words.Command.TheVariants.{Replay, Run, Mix, Check}

-- A request: the name of its command, the seed of `mix`, and the name of its file.
abbrev pub Asked : Type 0
Asked = Text × Option ℕ × Text

-- The name of a command (`name_of`), and its seed, if it has one (`given_seed`).
abbrev pub name_of : Command → Text
name_of Replay = codes "replay"
name_of Run = codes "run"
name_of (Mix seed) = codes "mix"
name_of Check = codes "check"

abbrev pub given_seed : Command → Option ℕ
given_seed (Mix seed) = Some seed
given_seed command = None

abbrev pub asked_of : Request → Asked
asked_of request = (name_of request.command, given_seed request.command, request.file.now)

-- The command line: `replay FILE`, `run FILE`, `mix --seed N FILE` and `check FILE`, each as an
-- application of `clap`, whose rules say how words are read.
abbrev pub seed_word : Rule
seed_word = record (new_rule (codes "seed")) {
  long = Some (codes "seed");
  required = true;
  action = Some Set;
}

abbrev pub over_file : Text → App
over_file name = with_rule (new_app name) (file_word (codes "FILE"))

abbrev pub seeded : App
seeded = with_rule (over_file (codes "mix")) seed_word

abbrev pub without_commands : App
without_commands =
    on_top (λ s. record s { subcommand_required = true }) (new_app (codes "boostmap"))

abbrev pub command_line : App
command_line =
    let replay = with_subcommand without_commands (over_file (codes "replay")).top in
    let run = with_subcommand replay (over_file (codes "run")).top in
    let mix = with_subcommand run seeded.top in
    with_subcommand mix (over_file (codes "check")).top

-- The number that a word spells in one or more decimal digits, if the number is below 2^64.
abbrev pub seed_of : Text → Option ℕ
seed_of word =
    let seed = digits_value 10 word in
    if is_numeral word && nat_lt seed (2 ^ 64) then Some seed else None

-- The request of the command with this name, with this file and, for `mix`, with this seed. None if
-- there is no such command, or if `mix` has no seed.
abbrev pub asked_for : Text → Option ℕ → Text → Option Asked
asked_for name seed file =
    if bytes_eq name (codes "mix") then option_map (λ n. (name, Some n, file)) seed
    else if list_any (bytes_eq name) (codes "replay" ∷ codes "run" ∷ codes "check" ∷ [])
    then Some (name, None, file) else None

-- The request of the command with this name. `rows` has the values found for its arguments.
abbrev pub asked_in : Text → List Row → Option Asked
asked_in name rows = option_and_then (λ file.
    asked_for name (option_and_then seed_of (first_of (codes "seed") rows)) file)
    (first_of (codes "FILE") rows)

-- The given request, or None if there is a fault.
abbrev pub unless : Kinds → Option Asked → Option Asked
unless [] found = found
unless (kind ∷ kinds) found = None

-- The request that the words make, or None if they make none. The first word is the program's
-- name.
abbrev pub asked : List Text → Option Asked
asked words = unless (fault_of command_line words)
    (option_and_then (λ found. asked_in found.0 found.1) (subcommand_of command_line words))
