use Rattle.std.proofs.Common.{ℕ, List, slice_get, ap, subst, ◌∙◌, arith}
use Rattle.samples.specs.Vocabulary.{Entry}
use Rattle.striped_map.specs.Hosts.{IsNoHistory}
use Rattle.striped_map.proofs.Collecting.{none_left}
use Rattle.samples.proofs.visits.hand_out.Goals as goal

pub unreachable-requires-in-Err-Missing : goal.unreachable-requires-in-Err-Missing
unreachable-requires-in-Err-Missing c =
    let why = c.in-Err-Missing in let e = why.ensures in
    let missing = subst (IsNoHistory c.history.new.self) why.field-0-is e.err in
    let same = e.whole c.requires.whole in
    let merged = c.requires.whole.all why.field-0-0 missing.1 (let less = missing.2 in omega arith) in
    missing.3 merged.0 merged.1 (ap (λ (rs : List (ℕ × List Entry)). slice_get rs merged.0) (none_left _ _ _ e.collects c.requires.whole) ∙ merged.2) merged.3
