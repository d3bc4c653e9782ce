use Rattle.std.proofs.Common.{◌∙◌, ap}
use Rattle.split_key.specs.declared.sort.SortKey.{SortKey}
use Rattle.split_key.proofs.sort.SortKey.split.Goals as goal

pub returns : goal.returns
returns c = c.word.ensures ∙ ap (λ (at : SortKey). at.split) c.self.view_is
