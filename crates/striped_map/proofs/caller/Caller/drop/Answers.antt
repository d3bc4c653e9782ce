use Rattle.std.proofs.Common.{◌∷◌, None, sym, subst, ◌∙◌}
use Rattle.txn_words.specs.declared.entry.Entry.TheVariants.{Aborted, Leave}
use Rattle.striped_map.specs.declared.map.StripedMap.{StripedMap}
use Rattle.striped_map.specs.Callers.{changes_made, number}
use Rattle.striped_map.specs.Hands.{MovesHand}
use Rattle.striped_map.specs.Steps.{undoing}
use Rattle.striped_map.proofs.caller.Caller.drop.Goals as goal
use Rattle.striped_map.proofs.caller.Caller.drop.Goals.{then-is_open, else-is_open}

-- Only the hand after the abort is named.
pub returns : goal.returns
returns c = λ opened. let me = c.args.self in elim c.if-is_open.branch [
  | then-is_open w ↦ (
    w.leave.new.self,
    subst (λ (m : StripedMap). MovesHand m me.hand (Leave (number me) None ∷ undoing (number me) (changes_made me) (Aborted (number me))) w.leave.new.self) w.deref.ensures w.leave.ensures.moves,
    w.leave.ensures.idle,
  )
  | else-is_open w ↦ absurd (cc (sym opened ∙ w.if-is_open.false))
]
