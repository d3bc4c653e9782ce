-- Lemmas that lead from the result of `clap` to the request that the words make.
use Rattle.std.proofs.Common.{◌≡◌, true, List, [], ◌∷◌, Option, None, refl, sym, ap, ap₂}
use Rattle.std.specs.Prelude.{option_and_then}
use Rattle.clap.specs.declared.error.Error.{Error}
use Rattle.clap.specs.declared.error.kind.ErrorKind.{ErrorKind}
use Rattle.clap.specs.declared.error.kind.ErrorKind.TheVariants.{OutOfMemory}
use Rattle.clap.specs.Words.{App, HasKind, IsAmong, Kinds, Row, Text, fault_of, is_simple, is_simple_and_free, kind_of, subcommand_of}
use Rattle.clap.proofs.OnLiterals.{clap_on_literals}
use Rattle.program_system.proofs.Asking.{fails_by, passes_with}
use Rattle.command_line.specs.Words.{Asked, asked, asked_in, command_line, unless}

simple_and_free : is_simple_and_free command_line ≡ true
unfolding clap_on_literals
simple_and_free = refl

-- If a command was found, the request that `asked_in` makes of it and of its arguments.
abbrev pub look : Option (Text × List Row) → Option Asked
look = option_and_then (λ (found : Text × List Row). asked_in found.0 found.1)

unless-fault : (kind : ErrorKind) (kinds : Kinds) (found : Option Asked) → IsAmong kind kinds → unless kinds found ≡ None
unless-fault kind [] found none = absurd none
unless-fault kind (first ∷ kinds) found among = refl

-- If the parse fails with an error other than `OutOfMemory`, the words make no request.
pub refused : (app : App) (words : List Text) (error : Error) → app ≡ command_line → (is_simple_and_free app ≡ true → HasKind (fault_of app words) error) → (kind_of error ≡ OutOfMemory → ⊥)
    → asked words ≡ None
refused app words error same fails other =
    unless-fault (kind_of error) (fault_of command_line words) _ (fails_by command_line app words error simple_and_free same fails other)

-- A parse that succeeds finds the request that the words make.
pub found : (app : App) (words : List Text) (met : Option (Text × List Row)) → app ≡ command_line → (is_simple_and_free app ≡ true → fault_of app words ≡ []) → (is_simple app ≡ true → met ≡ subcommand_of app words)
    → asked words ≡ look met
found app words met same passes meets =
    let (none, is) = passes_with command_line app words met simple_and_free same passes meets in
    ap₂ unless none (ap look (sym is))
