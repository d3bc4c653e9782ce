use Rattle.split_key.specs.SortAt.{bytes_of}
use Rattle.split_key.proofs.sort.bytes.Goals as goal

pub returns : goal.returns
unfolding bytes_of
returns c = c.to_le_bytes.ensures
