use Rattle.split_key.proofs.SwapLemmas.{bit_at-swapped}
use Rattle.split_key.proofs.reversal.swap_groups.Goals as goal

pub returns : goal.returns
returns c place within = bit_at-swapped c.args.word c.args.width c.args.low place c.requires.some c.requires.groups within
