use Rattle.std.proofs.Common.{◌≡◌, List, drop, refl, subst, sym, ◌∙◌}
use Rattle.std.proofs.lemmas.List.{drop_more, drop_all}
use Rattle.script_worker.specs.Matches.{ReachAbort, AbortsItself}
use Rattle.script_worker.proofs.Parts.{reach_whole, begun_reach, left_reach}
use Rattle.script_worker.proofs.matching.compare.Goals as goal

pub loop-packed-init : goal.loop-packed-init
loop-packed-init c = begun_reach c.args.script.now c.args.part.now c.in-Some.entries.now c.in-Some.ensures.begun
