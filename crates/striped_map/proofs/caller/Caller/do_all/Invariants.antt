use Rattle.std.specs.Prelude.{◌≡◌, ℕ, List, Option, true, take}
use Rattle.striped_map.specs.Runs.{DoesAll, LieIn}
use Rattle.striped_map.proofs.caller.Caller.do_all.Given as goal

abbrev pub invariant-loop-place : goal.invariant-loop-place
invariant-loop-place g l = (told : List (Option ℕ)) × (l.self.map ≡ l.initial.self.map)
    × (l.initial.self.is_open ≡ true → l.self.is_open ≡ true) × (l.done ≡ l.place)
    × LieIn g.R.ReplyForm.form told l.initial.replies l.replies l.place
    × DoesAll l.strict (take l.place (g.O.Operations.ops_of l.ops)) told l.initial.self l.self
