use Rattle.std.specs.Prelude.{◌≡◌, ◌∷◌, false, map}
use Rattle.samples.specs.Vocabulary.{fold, have_made, numbers, seen_by, taken}
use Rattle.samples.specs.Visits.{ended}
use Rattle.samples.proofs.visits.merge_all.Given as goal

abbrev pub invariant-loop-answer : goal.invariant-loop-answer
invariant-loop-answer l = record {
  map_is : l.host.map ≡ l.fn.host.map;
  numbers_are : numbers l.host ≡ numbers l.fn.host;
  none_made : have_made l.host ≡ false;
  seen_is : seen_by l.host ≡ seen_by l.fn.host;
  taken_are : taken l.host ≡ fold (λ all d. ended d.me ∷ all) (taken l.fn.host) l.yielded;
  answered : l.answers.items ≡ map (λ d. d.answer) l.yielded;
}
