use Rattle.std.proofs.Common.{◌≢◌, sym, ◌∙◌}
use Rattle.split_key.specs.SortAt.{word_of}
use Rattle.split_key.proofs.PackedLemmas.{parts_of, before_by_half, before_by_word}
use Rattle.split_key.proofs.sort.SortKey.is_before.Goals as goal

pub returns-then-not-self : goal.returns-then-not-self
returns-then-not-self c =
    let own = parts_of c.args.self _ _ c.self.view_is c.self.invariant in
    let its = parts_of c.args.other _ _ c.other.view_is c.other.invariant in
    let before = before_by_half _ _ _ _ _ _ own its (sym c.word-split.ensures ∙ c.if-split-others.true ∙ c.word-others.ensures) in
    sym (rw c.if-not-self.true at before)

pub returns-else-not-self : goal.returns-else-not-self
returns-else-not-self c =
    let own = parts_of c.args.self _ _ c.self.view_is c.self.invariant in
    let its = parts_of c.args.other _ _ c.other.view_is c.other.invariant in
    let before = before_by_half _ _ _ _ _ _ own its (sym c.word-split.ensures ∙ c.if-split-others.true ∙ c.word-others.ensures) in
    c.if-not-self.false ∙ sym (rw c.if-not-self.false at before)

pub returns-else-split-others : goal.returns-else-split-others
returns-else-split-others c =
    let own = parts_of c.args.self _ _ c.self.view_is c.self.invariant in
    let its = parts_of c.args.other _ _ c.other.view_is c.other.invariant in
    let differ : word_of c.self.inside.split ≢ word_of c.other.inside.split = λ same. c.if-split-others.false (c.word-split.ensures ∙ same ∙ sym c.word-others.ensures) in
    rw (c.word-split.ensures, c.word-others.ensures) (sym (before_by_word _ _ _ _ _ _ own its differ))
