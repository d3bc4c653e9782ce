use Rattle.std.proofs.Common.{arith, sym, subst}
use Rattle.std.specs.Str.{IsUtf8}
use Rattle.std.proofs.lemmas.List.{drop_all}
use Rattle.std.proofs.lemmas.Str.{IsUtf8-nil}
use Rattle.txn_files.proofs.short_text.ShortText.clear.Goals as goal

pub invariant_of-self : goal.invariant_of-self
invariant_of-self c = (omega arith, ∣ subst IsUtf8 (sym (drop_all 160 c.self.inside.bytes (omega arith))) IsUtf8-nil ∣₁)

pub returns : goal.returns
returns c = drop_all 160 c.self.inside.bytes (omega arith)
