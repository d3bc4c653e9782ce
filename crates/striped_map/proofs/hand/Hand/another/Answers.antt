use Rattle.striped_map.proofs.HandSoundness.{sound_made}
use Rattle.striped_map.proofs.hand.Hand.another.Goals as goal

pub invariant_of-self : goal.invariant_of-self
invariant_of-self c = record {
  sound = sound_made c.args.map.now c.args.self.now c.another.new.seat c.requires.map c.another.ensures.seat c.another.ensures.shards c.another.ensures.same;
  indexed = c.args.self.now.indexed;
}
