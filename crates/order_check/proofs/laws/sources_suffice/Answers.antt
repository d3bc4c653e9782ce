use Rattle.order_check.proofs.Versions.{runs_by_sources}
use Rattle.order_check.proofs.laws.sources_suffice.Goals as goal

pub returns : goal.returns
returns c footprints source ts apart keeps = runs_by_sources footprints source ts apart keeps
