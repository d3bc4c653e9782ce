-- Lemmas that lead from the result of a parse by `clap` to the request that the words make. Both
-- command lines cite them.
use Rattle.std.proofs.Common.{◌≡◌, ◌⊎◌, inl, inr, true, List, [], Option, Some, None, Result, refl, sym, ap, ap₂, subst, ◌∙◌}
use Rattle.std.specs.Prelude.{IfOk, IfErr, option_map}
use Rattle.std.specs.Option.{ok_or}
use Rattle.std.proofs.lemmas.Bool.{and_parts}
use Rattle.clap.specs.declared.error.Error.{Error}
use Rattle.clap.specs.declared.error.kind.ErrorKind.TheVariants.{OutOfMemory}
use Rattle.clap.specs.declared.parser.matches.ArgMatches.{ArgMatches}
use Rattle.clap.specs.declared.parser.matches.ArgMatches.TheViews.{out-ArgMatches, out-SubCommand}
use Rattle.clap.specs.Matches.{subcommand_name_of}
use Rattle.clap.specs.Words.{App, HasKind, IsAmong, Row, Text, fault_of, found_of, is_simple, is_simple_and_free, kind_of, rows_of, subcommand_of, subcommand_rows_of}
use Rattle.std.specs.Box.{box_value}

-- If a parse fails for another reason than lack of memory, the kind of its error is one that the
-- words may cause.
pub fails_by : (line app : App) (words : List Text) (error : Error) → is_simple_and_free line ≡ true → app ≡ line → (is_simple_and_free app ≡ true → HasKind (fault_of app words) error) → (kind_of error ≡ OutOfMemory → ⊥)
    → IsAmong (kind_of error) (fault_of line words)
fails_by line app words error free same fails other = elim (fails (ap is_simple_and_free same ∙ free)) [
  | inl memory ↦ absurd (other memory)
  | inr among ↦ subst (λ a. IsAmong (kind_of error) (fault_of a words)) same among
]

-- If a parse succeeds, the words have no fault, and they name the command that the parse found.
pub passes_with : (line app : App) (words : List Text) (met : Option (Text × List Row)) → is_simple_and_free line ≡ true → app ≡ line → (is_simple_and_free app ≡ true → fault_of app words ≡ []) → (is_simple app ≡ true → met ≡ subcommand_of app words)
    → (fault_of line words ≡ []) × (met ≡ subcommand_of line words)
passes_with line app words met free same passes meets = (
  ap (λ a. fault_of a words) (sym same) ∙ passes (ap is_simple_and_free same ∙ free),
  meets (ap is_simple same ∙ (and_parts (is_simple line) _ free).0) ∙ ap (λ a. subcommand_of a words) same,
)

abbrev pair : {B : Type 0} → (B → Text) → (B → List Row) → B → Text × List Row
pair name_of rows_in b = (name_of b, rows_in b)

paired : {B : Type 0} (name_of : B → Text) (rows_in : B → List Row) (met : Option B) (name : Text) (rows : List Row) → Some name ≡ option_map name_of met
    → Some rows ≡ option_map (λ (p : Text × List Row). p.1) (option_map (pair name_of rows_in) met) → option_map (pair name_of rows_in) met ≡ Some (name, rows)
paired name_of rows_in None name rows named is = absurd (cc named)
paired name_of rows_in (Some b) name rows named is =
    let n : name ≡ name_of b = cc named in
    let r : rows ≡ rows_in b = cc is in
    ap₂ (λ (x : Text) (y : List Row). Some (x, y)) (sym n) (sym r)

-- If the name and the rows of a command are found one by one, both are found together as a pair.
pub together : (matches : ArgMatches) (name : Text) (rows : List Row) → Some name ≡ subcommand_name_of matches → Some rows ≡ option_map (λ (p : Text × List Row). p.1) (subcommand_rows_of matches)
    → subcommand_rows_of matches ≡ Some (name, rows)
together matches = paired (λ b. (out-SubCommand (box_value b)).name.now) (λ b. rows_of (found_of (out-SubCommand (box_value b)).matches)) (out-ArgMatches matches).subcommand

-- If a request was found, the result is this request. Otherwise the result is the usage error, and the
-- words make no request.
pub answered : {C A E : Type 0} (Asks : Option A → Type 0) (asked_of : C → A) (memory usage : E) (looked : Option C) (answer : Result C E) → answer ≡ ok_or looked usage → Asks (option_map asked_of looked)
    → IfOk answer (λ request. Asks (Some (asked_of request))) × IfErr answer (λ reason. (reason ≡ memory) ⊎ ((reason ≡ usage) × Asks None))
answered Asks asked_of memory usage (Some request) answer is asks = rw is (asks, tt)
answered Asks asked_of memory usage None answer is asks = rw is (tt, inr (refl, asks))
