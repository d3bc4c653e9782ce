use Rattle.std.proofs.Common.{◌≡◌, ℕ, List, Some, None, sym, ap, ◌∙◌}
use Rattle.std.specs.Prelude.{slice_get}
use Rattle.command_line.proofs.Seeds.{no_plus, parsed}
use Rattle.command_line.proofs.words.seed_in.Goals.{in_default-via-in-Some+in_default, in_default-via-in_default}
use Rattle.command_line.proofs.words.seed_in.Goals as goal

pub returns-in_default : goal.returns-in_default
returns-in_default c =
    let other : c.copied.result ≡ Some 43 → ⊥ = elim c.in_default.branch [
      | in_default-via-in-Some+in_default w ↦ λ plus.
          let same : Some w.in_default.field-0 ≡ Some 43 = sym w.in_default.is ∙ plus in w.in_default.field-0-test.1 (cc same)
      | in_default-via-in_default w ↦ λ plus. absurd (let none : None ≡ Some 43 = sym w.in_default.is ∙ plus in cc none)
    ] in
    let first : c.copied.result ≡ slice_get c.args.word.now 0 =
    c.copied.ensures ∙ c.first.ensures.value ∙ ap (λ (bytes : List ℕ). slice_get bytes 0) c.as_bytes.ensures.value in
    c.ok.ensures.value ∙ parsed c.args.word.now c.parse.result (no_plus c.args.word.now c.copied.result first other) c.parse.ensures.value.0
