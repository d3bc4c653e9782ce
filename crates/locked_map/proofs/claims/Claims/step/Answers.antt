use Rattle.std.proofs.Common.{◌∙◌}
use Rattle.locked_map.specs.Vocabulary.{Lock}
use Rattle.locked_map.proofs.Claiming.{goes_over, plain_claim}
use Rattle.locked_map.proofs.claims.Claims.step.Goals as goal

pub returns-in-Ask-clause-words : goal.returns-in-Ask-clause-words
returns-in-Ask-clause-words c = (goes_over _ _ _ _ _ c.ask.ensures.goes).words ∙ c.requires.words

pub returns-in-Ask-clause-limits : goal.returns-in-Ask-clause-limits
returns-in-Ask-clause-limits c = (goes_over _ _ _ _ _ c.ask.ensures.goes).limits

pub returns-in_default : goal.returns-in_default
returns-in_default c =
    let plain = plain_claim c.args.self.now.tried c.args.core.now c.args.step c.in_default.not-Ask in record {
      goes = rw (plain, c.in_parts-in_default.ensures) c.step.ensures.event.move;
      lists = rw (plain, c.in_parts-in_default.ensures) c.step.ensures.event.lists;
      words = c.step.ensures.words ∙ c.requires.words;
      limits = (goes_over Lock _ _ _ _ c.step.ensures.event.move).limits;
    }
