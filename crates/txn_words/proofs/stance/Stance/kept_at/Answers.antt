use Rattle.std.proofs.lemmas.Option.{unwrap_or-slice_get}
use Rattle.txn_words.proofs.stance.Stance.kept_at.Goals as goal

pub returns : goal.returns
returns c = rw (c.unwrap_or.ensures, c.kept.ensures) (unwrap_or-slice_get c.args.self.now.stance.kept c.args.level 0)
