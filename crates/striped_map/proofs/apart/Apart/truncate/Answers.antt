use Rattle.std.proofs.Common.{◌∙◌, ap, take, drop}
use Rattle.std.proofs.lemmas.List.{drop-take}
use Rattle.striped_map.proofs.apart.Apart.truncate.Goals as goal

pub returns-clause-items : goal.returns-clause-items
returns-clause-items g c =
    ap (drop g.row.PAD) c.truncate.ensures.items
    ∙ drop-take g.row.PAD c.args.len c.self.inside.places.items
    ∙ ap (λ list. take c.args.len list.items) c.self.view_is
