use Rattle.std.proofs.Common.{◌≡◌, ◌∙◌, ◌%◌, sym, ap, arith}
use Rattle.split_key.specs.Split.{reversed}
use Rattle.split_key.specs.SortAt.{key_in_dummy, key_in_regular}
use Rattle.split_key.proofs.PackedLemmas.{parts_of}
use Rattle.split_key.proofs.sort.SortKey.key.Goals as goal

pub returns-then-split-eq0 : goal.returns-then-split-eq0
returns-then-split-eq0 c =
    let parts = parts_of c.args.self _ _ c.self.view_is c.self.invariant in
    let even : c.args.self.split % 2 ≡ 0 = omega (arith, c.word-split.ensures, parts.split, c.if-split-eq0.true) in
    sym (key_in_dummy c.args.self.split c.self.inside.is_upper even) ∙ parts.key

pub returns-then-self : goal.returns-then-self
returns-then-self c =
    let parts = parts_of c.args.self _ _ c.self.view_is c.self.invariant in
    let word = c.word-split.ensures ∙ parts.split in
    let odd : c.args.self.split % 2 ≡ 1 = omega (arith, word, c.if-split-eq0.false) in
    let low : c.reverse-low.result ≡ reversed c.args.self.split = c.reverse-low.ensures.value ∙ ap reversed word in
    let whole = rw c.if-self.true at (key_in_regular c.args.self.split c.self.inside.is_upper odd) in
    rw low (omega (arith, whole, rw c.if-self.true at parts.key))

pub returns-else-self : goal.returns-else-self
returns-else-self c =
    let parts = parts_of c.args.self _ _ c.self.view_is c.self.invariant in
    let word = c.word-split.ensures ∙ parts.split in
    let odd : c.args.self.split % 2 ≡ 1 = omega (arith, word, c.if-split-eq0.false) in
    let low : c.reverse-low.result ≡ reversed c.args.self.split = c.reverse-low.ensures.value ∙ ap reversed word in
    let whole = rw c.if-self.false at (key_in_regular c.args.self.split c.self.inside.is_upper odd) in
    rw low (omega (arith, whole, rw c.if-self.false at parts.key))
