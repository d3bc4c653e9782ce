use Rattle.striped_map.proofs.HandSoundness.{sound_gathered}
use Rattle.striped_map.proofs.hand.Hand.gather.Goals as goal

pub invariant_of-self : goal.invariant_of-self
invariant_of-self c = record {
  sound = sound_gathered c.args.map.now c.args.self.now c.gather.new.seat c.gather.result c.requires.map c.gather.ensures.seat c.gather.ensures.shards c.gather.ensures.gathers;
  indexed = c.args.self.now.indexed;
}
