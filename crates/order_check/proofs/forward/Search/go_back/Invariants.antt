use Rattle.std.proofs.Common.{vec_len}
use Rattle.order_check.proofs.forward.Search.go_back.Given as goal

abbrev pub decreases-loop-choice : goal.decreases-loop-choice
decreases-loop-choice l = vec_len l.self.path
