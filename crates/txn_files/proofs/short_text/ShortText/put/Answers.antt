use Rattle.std.proofs.Common.{◌≡◌, ℕ, ◌+◌, ◌-◌, ◌≤◌, List, ◌++◌, length, drop, arith, sym, ap, subst, ◌∙◌, length-drop}
use Rattle.std.specs.Str.{IsUtf8}
use Rattle.std.proofs.lemmas.Str.{IsUtf8-append, IsUtf8-had}
use Rattle.txn_files.proofs.Lines.{drop-put_before}
use Rattle.txn_files.proofs.short_text.ShortText.put.Goals as goal

pub invariant_of-self : goal.invariant_of-self
invariant_of-self c =
    let end = c.self.inside.start in
    let word = c.args.word.now in
    let old = c.self.inside.bytes in
    let same : c.copy_from_slice.new.self ≡ word = c.copy_from_slice.ensures.after ∙ c.as_bytes.ensures.value in
    let there : length c.args.self.now ≡ length (drop end old) = ap length (sym c.self.view_is) in
    let fits : length word + length c.args.self.now ≤ 160 = c.requires in
    let joined : end - length word + length c.copy_from_slice.new.self ≡ end = omega (arith, ap length same, there, length-drop end old, fits, c.self.invariant.0) in
    let text = drop-put_before (end - length word) end old c.copy_from_slice.new.self joined (omega (arith, c.self.invariant.0)) ∙ ap (λ (bs : List ℕ). bs ++ drop end old) same in
    (omega (arith, c.self.invariant.0), ∣ subst IsUtf8 (sym text) (IsUtf8-append word (drop end old) c.utf8.word (IsUtf8-had (drop end old) c.self.invariant.1)) ∣₁)
