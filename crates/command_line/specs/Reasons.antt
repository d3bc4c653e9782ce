-- The texts that say why a command line is wrong.
use Rattle.std.specs.Prelude.{ℕ, List, codes}
use Rattle.command_line.specs.declared.no_request.NoRequest.{NoRequest}
use Rattle.command_line.specs.declared.no_request.NoRequest.TheVariants.{Usage, NoMemory}

abbrev pub text_of : NoRequest → List ℕ
text_of Usage = codes "the command line is not valid"
text_of NoMemory = codes "memory was refused"
