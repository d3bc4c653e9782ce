-- The faults if the words cannot be read or make no request, or if their file cannot be opened.
use Rattle.std.proofs.Common.{◌≡◌, ◌⊎◌, inl, inr, ℕ, List, Option, Some, None, ap, subst, true}
use Rattle.std.specs.Prelude.{IfSome, is_some}
use Rattle.std.specs.declared.io.ErrorKind.{ErrorKind}
use Rattle.std.specs.declared.io.ErrorKind.TheVariants.{OutOfMemory}
use Rattle.boostmap_engine.specs.declared.fault.Fault.TheVariants as faults
use Rattle.command_line.specs.declared.words.Request.{Request}
use Rattle.command_line.specs.declared.no_request.NoRequest.{NoRequest}
use Rattle.command_line.specs.declared.no_request.NoRequest.TheVariants as reasons
use Rattle.command_line.specs.Words.{asked, asked_of}
use Rattle.unthreaded_program.specs.Opening.{IsUnopened, memory_or, of_words}

-- Assume that the words of `spoken`, if it has any, are equal to `words`. If `P` holds for `words`,
-- it then holds for the words of `spoken`.
pub of_known : (spoken : Option (List (List ℕ))) (words : List (List ℕ)) (P : List (List ℕ) → Type 0) → IfSome spoken (λ known. words ≡ known) → P words → IfSome spoken P
of_known None words P same holds = tt
of_known (Some known) words P same holds = subst P same holds

pub no_words : (spoken : Option (List (List ℕ))) (kind : ErrorKind) → IfSome spoken (λ words. kind ≡ OutOfMemory) → IsUnopened spoken (memory_or kind faults.Usage)
no_words None OutOfMemory is = tt
no_words None kind is = tt
no_words (Some words) kind is = rw is tt

pub no_request : (spoken : Option (List (List ℕ))) (words : List (List ℕ)) (reason : NoRequest) → IfSome spoken (λ known. words ≡ known)
    → (reason ≡ reasons.NoMemory) ⊎ ((reason ≡ reasons.Usage) × (asked words ≡ None)) → IsUnopened spoken (of_words reason)
no_request spoken words reason same (inl memory) = rw memory tt
no_request spoken words reason same (inr (usage, none)) = rw usage (of_known spoken words (λ given. asked given ≡ None) same none)

pub not_opened : (spoken : Option (List (List ℕ))) (words : List (List ℕ)) (request : Request) (kind : ErrorKind) → IfSome spoken (λ known. words ≡ known) → asked words ≡ Some (asked_of request)
    → IsUnopened spoken (memory_or kind faults.Read)
not_opened spoken words request OutOfMemory same spelled = tt
not_opened spoken words request kind same spelled = of_known spoken words (λ given. is_some (asked given) ≡ true) same (ap is_some spelled)
