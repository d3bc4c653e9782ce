use Rattle.std.proofs.Common.{◌≡◌, ◌≤◌, List, true, length, Some, sym, ap, ◌∙◌, arith}
use Rattle.std.specs.Result.{result_ok}
use Rattle.std.proofs.lemmas.List.{take_all}
use Rattle.txn_words.specs.declared.action.Action.{Action}
use Rattle.piece_files.specs.declared.part.Part.TheVariants as parts
use Rattle.piece_files.specs.Tokens.{outcome}
use Rattle.txn_files.proofs.script_file.script_in.Goals as goal

pub returns : goal.returns
returns c = λ old wanted w.
    let all : List Action = w.0.0 in
    let whole : c.args.found.are_all ≡ true = grind arith in
    let read = ap result_ok (w.0.1 ∙ ap (λ b. outcome parts.Script b all) whole) in
    let few : length all ≤ 18446744073709551615 = omega (arith, w.0.2, c.requires) in
    let kept = c.new.ensures ∙ c.shrink_to_fit.ensures.items ∙ w.0.3 ∙ take_all 18446744073709551615 all few in
    ap (λ (ps : List Action). Some ps) kept ∙ sym read
