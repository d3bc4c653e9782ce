use Rattle.bad_file.proofs.Viewed.{elements_are}
use Rattle.bad_file.proofs.values.elements_in.Goals as goal

pub returns-in-Some : goal.returns-in-Some
returns-in-Some c = elements_are _ c.as_slice.result.now c.in-Some.elements.now.items c.as_slice.ensures.value c.in-Some.ensures
