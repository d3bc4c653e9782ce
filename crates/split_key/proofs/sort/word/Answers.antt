use Rattle.split_key.specs.SortAt.{word_of}
use Rattle.split_key.proofs.sort.word.Goals as goal

pub returns : goal.returns
unfolding word_of
returns c = c.from_le_bytes.ensures
