use Rattle.split_key.proofs.PackedLemmas.{parts_of, same_by_word, other_by_half, halves_same, halves_differ}
use Rattle.split_key.proofs.sort.SortKeyPartialEq.eq.Goals as goal

pub returns-then-self-other : goal.returns-then-self-other
returns-then-self-other c =
    let own = parts_of c.args.self.now _ _ c.self.view_is c.self.invariant in
    let its = parts_of c.args.other.now _ _ c.other.view_is c.other.invariant in
    rw (c.word.ensures, c.word-then-self-other.ensures) (same_by_word _ _ _ _ _ _ own its (halves_same _ _ c.if-self-other.true))

pub returns-else-self-other : goal.returns-else-self-other
returns-else-self-other c =
    let own = parts_of c.args.self.now _ _ c.self.view_is c.self.invariant in
    let its = parts_of c.args.other.now _ _ c.other.view_is c.other.invariant in
    other_by_half _ _ _ _ _ _ own its (halves_differ _ _ c.if-self-other.false)
