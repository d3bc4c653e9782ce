-- Lemmas about a command line that `clap` builds part by part.
use Rattle.std.proofs.Common.{◌≡◌, false, ap, ap₂, ◌∙◌}
use Rattle.std.proofs.lemmas.Bool.{or_from}
use Rattle.clap.specs.declared.builder.arg.Arg.{Arg}
use Rattle.clap.specs.declared.builder.command.Command.{Command}
use Rattle.clap.specs.Words.{App, AddsArg, AddsSubcommand, Rule, rule_of, with_rule, with_subcommand}
use Rattle.program_system.specs.Words.{IsApp}

-- Suppose that a command equals an application's definition. If a subcommand is added to the
-- command, the new command equals the definition with this subcommand.
pub added : (old sub new : Command) (a b : App) → IsApp old a → IsApp sub b → AddsSubcommand old sub new
    → IsApp new (with_subcommand a b.top)
added old sub new a b had has adds = (
  adds.shape has.1 ∙ ap₂ with_subcommand had.0 (ap (λ (x : App). x.top) has.0),
  adds.globals ∙ or_from _ _ had.1 has.1,
)

-- Suppose that a command equals an application's definition. If an argument that is not global is
-- added to the command, the new command equals the definition with this argument.
pub with_word : (old : Command) (arg : Arg) (new : Command) (app : App) (rule : Rule) → IsApp old app → rule_of arg ≡ rule → arg.global ≡ false → AddsArg old arg new → IsApp new (with_rule app rule)
with_word old arg new app rule had is local adds = (
  adds.shape local ∙ ap₂ with_rule had.0 is,
  adds.globals ∙ or_from _ _ had.1 local,
)
