use Rattle.std.proofs.Common.{◌≡◌, drop, take, length}
use Rattle.txn_words.specs.Kinds.{caller_of}
use Rattle.bad_entry.specs.Desks.{HaveNoted, txn_in}
use Rattle.bad_entry.specs.Holding.{asked_at, held_since}
use Rattle.bad_entry.specs.Places.{first_from}
use Rattle.bad_entry.proofs.held.held_since.Given as goal

abbrev pub invariant-loop-index : goal.invariant-loop-index
invariant-loop-index l = record {
  noted : HaveNoted (take l.index l.entries) l.desks;
  rest : first_from (λ g e. asked_at (txn_in g (caller_of e)) l.txn l.stripes l.stripe (length g) e) (take l.index l.entries) (drop l.index l.entries) ≡ held_since l.txn l.stripes l.stripe l.entries;
}
