use Rattle.std.proofs.Common.{[], ◌∷◌}
use Rattle.txn_words.specs.declared.entry.Entry.TheVariants.{Asked, Did}
use Rattle.striped_map.proofs.Ends.{moved_from}
use Rattle.striped_map.proofs.hand.Hand.work.Goals as goal

pub returns-in-Ok-clause-done : goal.returns-in-Ok-clause-done
returns-in-Ok-clause-done c = moved_from c.args.map.now c.args.self.now c.make_room.new.self c.apply.new.self (λ k. Asked k c.args.op ∷ Did k c.in-Ok.reply ∷ []) c.make_room.ensures.seat c.in-Ok.ensures.done
