use Rattle.std.proofs.Common.{◌≡◌, drop, take, length}
use Rattle.bad_entry.specs.Changes.{change_at, last_change}
use Rattle.bad_entry.specs.Desks.{HaveNoted}
use Rattle.bad_entry.specs.Places.{last_from}
use Rattle.bad_entry.proofs.change.last_change.Given as goal

abbrev pub invariant-loop-index : goal.invariant-loop-index
invariant-loop-index l = record {
  noted : HaveNoted (take l.index l.entries) l.desks;
  rest : last_from (λ g e. change_at l.key (length g) g e) (take l.index l.entries) (drop l.index l.entries) l.last ≡ last_change l.key l.entries;
}
