-- Command lines that `clap` reads.
use Rattle.std.specs.Prelude.{◌≡◌, ◌&&◌, Bool, true, false, Some, length, nat_lt}
use Rattle.std.specs.List.{list_all}
use Rattle.std.specs.Char.{digit_value}
use Rattle.clap.specs.declared.builder.action.ArgAction.TheVariants.{Set}
use Rattle.clap.specs.declared.builder.command.Command.{Command}
use Rattle.clap.specs.declared.builder.command.Command.TheViews.{out-Command}
use Rattle.clap.specs.Words.{App, Rule, Text, app_of, new_rule}

-- The command that `clap` built equals this application's definition.
abbrev pub IsApp : Command → App → Type 0
IsApp command app = (app_of command ≡ app) × ((out-Command command).has_globals ≡ false)

-- The rule for the word that names a file. The word must be given.
abbrev pub file_word : Text → Rule
file_word name = record (new_rule name) { required = true; action = Some Set }

-- A word is a numeral: it has one or more characters, all of them decimal digits.
abbrev pub is_numeral : Text → Bool
is_numeral word = nat_lt 0 (length word) && list_all (λ c. nat_lt (digit_value c) 10) word
