use Rattle.std.proofs.Common.{◌≡◌, Some, take, map}
use Rattle.boostmap_c.specs.Entries.{op_of}
use Rattle.boostmap_c.specs.StripedRuns.{ops_in}
use Rattle.boostmap_c.proofs.striped_run.read_all.Given as goal

abbrev pub invariant-tests : goal.invariant-tests
invariant-tests l = map Some (ops_in (take l.i l.entries)) ≡ map op_of (take l.i l.entries)
