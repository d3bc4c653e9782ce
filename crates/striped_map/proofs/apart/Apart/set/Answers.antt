use Rattle.std.proofs.Common.{◌∙◌, ap, slice_set}
use Rattle.std.proofs.lemmas.List.{drop-set-add}
use Rattle.striped_map.proofs.apart.Apart.set.Goals as goal

pub returns-clause-items : goal.returns-clause-items
returns-clause-items g c =
    drop-set-add g.row.PAD c.self.inside.places.items c.args.place c.args.item
    ∙ ap (λ list. slice_set list.items c.args.place c.args.item) c.self.view_is
