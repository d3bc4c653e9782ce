use Rattle.std.proofs.Common.{◌≡◌, ℕ, ap, subst, ◌∙◌, IfOk, nat_cmp}
use Rattle.boost_core.proofs.Vocabulary.{Map, get, now, State}
use Rattle.std.specs.BTreeMap.{get as value_at}
use Rattle.boost_core.proofs.machine.Core.map.Goals as goal

pub returns : goal.returns
returns c = subst (λ (m : Map). IfOk c.content.result (λ map. (key : ℕ) → value_at nat_cmp map key ≡ get m key)) (c.self.invariant.tells.content ∙ ap (λ (s : State). now s.history) c.self.view_is) c.content.ensures
