use Rattle.serde_json.specs.Data.{object}
use Rattle.piece_files.proofs.PlainLemmas.{its_some}
use Rattle.piece_files.proofs.members.members_in.Goals as goal

pub returns-in-Some : goal.returns-in-Some
returns-in-Some g c =
    let w = its_some _ c.in_ok-plain.plain c.in-Some.found c.in-Some.is c.in_ok-plain.ensures in
    (object w.0, w.1, w.2)
