use Rattle.std.proofs.Common.{ℕ, List, Option, ap, sym, ◌∙◌}
use Rattle.std.specs.Prelude.{slice_get}
use Rattle.history_check.proofs.CallerTable.{sits_at}
use Rattle.history_check.proofs.callers.Callers.newest_change.Goals as goal

pub returns : goal.returns
returns c h entered =
    let sits = sits_at h c.args.self.now c.args.caller c.index.result.now entered c.requires c.index.ensures in
    c.newest.ensures ∙ ap (λ (l : List (ℕ × Option ℕ)). slice_get l 0) (sym sits.log)
