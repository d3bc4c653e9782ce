-- The request that the words make, derived from how `clap` parses the words.
use Rattle.std.proofs.Common.{◌≡◌, true, List, [], ◌∷◌, Option, refl, sym, ap, subst, ◌∙◌}
use Rattle.std.specs.Prelude.{option_and_then}
use Rattle.clap.specs.declared.error.Error.{Error}
use Rattle.clap.specs.declared.error.kind.ErrorKind.{ErrorKind}
use Rattle.clap.specs.declared.error.kind.ErrorKind.TheVariants.{OutOfMemory}
use Rattle.clap.specs.Words.{App, HasKind, IsAmong, Kinds, Row, Text, fault_of, is_simple, is_simple_and_free, kind_of, subcommand_of}
use Rattle.clap.proofs.OnLiterals.{clap_on_literals}
use Rattle.program_system.proofs.Asking.{fails_by, passes_with}
use Rattle.judge_program.specs.Words.{Asked, Spells, SpellsBy, answer_to, asked_in, command_line}

simple_and_free : is_simple_and_free command_line ≡ true
unfolding clap_on_literals
simple_and_free = refl

-- The request of a command that was found.
abbrev pub look : Option (Text × List Row) → Option Asked
look = option_and_then (λ (command : Text × List Row). asked_in command.0 command.1)

by_kind : (kinds : Kinds) (found : Option (Text × List Row)) (kind : ErrorKind) (what : Option Asked) → IsAmong kind kinds → what ≡ answer_to kind → SpellsBy kinds found what
by_kind [] found kind what among is = absurd among
by_kind (first ∷ kinds) found kind what among is = (kind, among, is)

-- If the parse fails, and not because memory was refused, the words make the request that
-- `answer_to` gives.
pub refused : (app : App) (words : List Text) (error : Error) (what : Option Asked) → app ≡ command_line → (is_simple_and_free app ≡ true → HasKind (fault_of app words) error) → (kind_of error ≡ OutOfMemory → ⊥)
    → what ≡ answer_to (kind_of error) → Spells words what
refused app words error what same fails other is =
    by_kind (fault_of command_line words) (subcommand_of command_line words) (kind_of error) what (fails_by command_line app words error simple_and_free same fails other) is

-- If the parse succeeds, the words make the request of the command that was found.
pub found : (app : App) (words : List Text) (met : Option (Text × List Row)) (what : Option Asked) → app ≡ command_line → (is_simple_and_free app ≡ true → fault_of app words ≡ []) → (is_simple app ≡ true → met ≡ subcommand_of app words)
    → what ≡ look met → Spells words what
found app words met what same passes meets is =
    let (none, met_is) = passes_with command_line app words met simple_and_free same passes meets in
    subst (λ (kinds : Kinds). SpellsBy kinds (subcommand_of command_line words) what) (sym none) (is ∙ ap look met_is)
