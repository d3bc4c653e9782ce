use Rattle.std.proofs.Common.{◌-◌, drop, arith, sym, subst, length-drop}
use Rattle.std.specs.Str.{IsUtf8}
use Rattle.std.proofs.lemmas.List.{take_all}
use Rattle.std.proofs.lemmas.Str.{IsUtf8-had}
use Rattle.txn_files.proofs.short_text.ShortText.text.Goals as goal

pub from_utf8_unchecked-requires : goal.from_utf8_unchecked-requires
from_utf8_unchecked-requires c =
    let start = c.self.inside.start in
    let rest = drop start c.self.inside.bytes in
    subst IsUtf8 (sym (take_all (160 - start) rest (omega (arith, length-drop start c.self.inside.bytes)))) (IsUtf8-had rest c.self.invariant.1)
