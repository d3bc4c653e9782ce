use Rattle.std.proofs.Common.{◌≡◌, take}
use Rattle.txn_words.proofs.script.Script.of_actions.Given as goal

abbrev pub invariant-loop-action : goal.invariant-loop-action
invariant-loop-action l = l.packed.items ≡ take l.action-index l.fn.actions
