use Rattle.std.proofs.Common.{◌≡◌, ◌<◌, ◌++◌, ◌∷◌, [], length, take, get_or, length-set, None, refl, sym, ap, ◌∙◌, arith}
use Rattle.std.proofs.lemmas.List.{take_more, take_more_set}
use Rattle.piece_files.proofs.Whole.{all_but_one, one_more}
use Rattle.piece_files.proofs.file.all_numbers.Goals as goal

pub returns-in_err-numbers : goal.returns-in_err-numbers
returns-in_err-numbers g c =
    let none : get_or c.args.found c.numbers.i None ≡ None = grind arith in
    let is : c.from_residual.result ≡ None = grind arith in
    is ∙ sym (all_but_one c.args.found c.numbers.i (omega arith) none)

pub numbers-preserved : goal.numbers-preserved
numbers-preserved g c =
    let i = c.numbers.i in
    let within : i < length c.args.found = omega arith in
    let place : i < length c.numbers.numbers = omega arith in
    let more = take_more c.args.found i None within ∙ ap (λ n. take i c.args.found ++ n ∷ []) (c.in_ok-numbers.was {u = tt}) in (
      rw length-set c.numbers.invariant.0,
      rw (more, one_more (take i c.args.found) c.in_ok-numbers.field-0, c.numbers.invariant.1, take_more_set c.numbers.numbers i c.in_ok-numbers.field-0 place) refl,
    )
