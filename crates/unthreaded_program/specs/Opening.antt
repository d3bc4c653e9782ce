-- The beginning of the program: the command that its words ask for, and its file.
use Rattle.std.specs.Prelude.{◌≡◌, ℕ, true, List, Option, Some, None, is_some, IfSome}
use Rattle.std.specs.declared.io.ErrorKind.{ErrorKind}
use Rattle.std.specs.declared.io.ErrorKind.TheVariants.{OutOfMemory}
use Rattle.boostmap_engine.specs.declared.fault.Fault.{Fault}
use Rattle.boostmap_engine.specs.declared.fault.Fault.TheVariants as faults
use Rattle.command_line.specs.declared.words.Request.{Request}
use Rattle.command_line.specs.declared.words.Command.{Command}
use Rattle.command_line.specs.declared.no_request.NoRequest.{NoRequest}
use Rattle.command_line.specs.declared.no_request.NoRequest.TheVariants as reasons
use Rattle.command_line.specs.Words.{asked, asked_of}

-- The words ask for this command on a file with these bytes, as far as words and bytes are known.
pub record SpellsCommand (spoken : Option (List (List ℕ))) (bytes_of : List ℕ → Option (List ℕ))
    (command : Command) (bytes : Option (List ℕ)) : Type 0 where
  pub request : Request
  pub commands : command ≡ request.command
  pub spells : IfSome spoken (λ words. asked words ≡ Some (asked_of request))
  pub reads : IfSome (bytes_of request.file.now) (λ known. bytes ≡ Some known)

-- The fault if no command ran: the words make no request, the file was not opened,
-- or memory was refused.
abbrev pub IsUnopened : Option (List (List ℕ)) → Fault → Type 0
IsUnopened spoken faults.Usage = IfSome spoken (λ words. asked words ≡ None)
IsUnopened spoken faults.Read = IfSome spoken (λ words. is_some (asked words) ≡ true)
IsUnopened spoken faults.NoMemory = Unit {0}
IsUnopened spoken (faults.Input fault) = ⊥
IsUnopened spoken faults.NoThread = ⊥
IsUnopened spoken faults.Write = ⊥
IsUnopened spoken faults.OutOfStep = ⊥

-- `NoMemory` if an error of the system says that memory was refused, otherwise the other fault.
abbrev pub memory_or : ErrorKind → Fault → Fault
memory_or OutOfMemory other = faults.NoMemory
memory_or kind other = other

-- The fault that reports why the words make no request.
abbrev pub of_words : NoRequest → Fault
of_words reasons.Usage = faults.Usage
of_words reasons.NoMemory = faults.NoMemory
