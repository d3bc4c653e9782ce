use Rattle.std.proofs.Common.{rules, ℕ, ◌≡◌, ◌<◌, Some, length, map, subst}
use Rattle.boostmap_c.specs.Entries.{op_of}
use Rattle.boostmap_c.specs.StripedRuns.{ops_in}
use Rattle.boostmap_c.proofs.Naming.{as_many, op_at}
use Rattle.boostmap_c.proofs.striped_run.NamedOperations.at.Goals as goal

pub returns : goal.returns
returns c =
    let entries = c.args.self.now.entries.now in
    let named : map Some (ops_in entries) ≡ map op_of entries = search rules in
    let below : c.args.place < length entries = subst (λ (n : ℕ). c.args.place < n) (as_many entries named) c.requires in
    rw c.op_or_get.ensures (op_at entries c.args.place _ _ below named)
