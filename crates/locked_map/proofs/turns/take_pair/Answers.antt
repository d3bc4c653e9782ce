use Rattle.std.proofs.Common.{◌∙◌, ap}
use Rattle.locked_map.specs.Vocabulary.{turn_of}
use Rattle.locked_map.proofs.Holding.{two_again}
use Rattle.locked_map.proofs.turns.take_pair.Goals as goal

pub unreachable-requires : goal.unreachable-requires
unreachable-requires g c =
    c.in_default.not-Two c.requires.two.0 c.requires.two.1 (c.turn.ensures.turn ∙ ap turn_of c.turn.ensures.drive ∙ two_again 0 _ _ c.args.drive.now.phase _ _ c.requires.two.2)
