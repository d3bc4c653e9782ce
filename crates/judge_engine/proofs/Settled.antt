-- The first bad entry of a history is still the first bad one, whatever entries follow.
use Rattle.std.proofs.Common.{◌≡◌, ℕ, ◌+◌, List, [], ◌∷◌, ◌++◌, Option, Some, None, refl, ◌∙◌}
use Rattle.std.proofs.lemmas.Bool.{false≢true}
use Rattle.txn_words.specs.declared.entry.Entry.{Entry}
use Rattle.txn_words.specs.declared.holder.Holder.{Holder}
use Rattle.txn_trace.specs.Legal as legal
use Rattle.txn_trace.proofs.BadEntries.{legal_iff}
use Rattle.serial_check.specs.Serializable as serializable
use Rattle.serial_check.proofs.Judging.{serializable_iff}
use Rattle.history_check.specs.declared.verdict.Rule.{Rule}
use Rattle.history_check.specs.declared.verdict.Verdict.TheVariants.{Legal, Illegal}
use Rattle.history_check.specs.Verdicts.{number_of}
use Rattle.judge_engine.specs.declared.basis.Basis.{Basis}
use Rattle.judge_engine.specs.declared.basis.Basis.TheVariants.{Locks, Commits}
use Rattle.judge_engine.specs.Bases.{IsLegalBy, IsVerdictBy}

-- ---- the first bad entry, if more entries follow

goes_on : (r : Option ℕ) (i : ℕ) (a b : Option (ℕ × ℕ)) (bad : ℕ × ℕ) → (a ≡ Some bad → b ≡ Some bad) → (elim r [ Some rule ↦ Some (i, rule) | None ↦ a ]) ≡ Some bad → (elim r [ Some rule ↦ Some (i, rule) | None ↦ b ]) ≡ Some bad
goes_on None i a b bad f e = f e
goes_on (Some rule) i a b bad f e = e

locks_stay : (holder : Holder) (stripes : ℕ) (g h more : List Entry) (i : ℕ) (bad : ℕ × ℕ) → legal.first_bad holder stripes g h i ≡ Some bad → legal.first_bad holder stripes g (h ++ more) i ≡ Some bad
locks_stay holder stripes g [] more i bad e = absurd (cc)
locks_stay holder stripes g (x ∷ h) more i bad e = goes_on (legal.broken holder stripes g x) i _ _ bad (locks_stay holder stripes (g ++ x ∷ []) h more (i + 1) bad) e

commits_stay : (g h more : List Entry) (i : ℕ) (bad : ℕ × ℕ) → serializable.first_bad g h i ≡ Some bad → serializable.first_bad g (h ++ more) i ≡ Some bad
commits_stay g [] more i bad e = absurd (cc)
commits_stay g (x ∷ h) more i bad e = goes_on (serializable.broken g x) i _ _ bad (commits_stay (g ++ x ∷ []) h more (i + 1) bad) e

-- ---- verdicts

verdict_from : Option (ℕ × ℕ) → ℕ → ℕ → legal.Verdict
verdict_from None commits running = legal.Legal commits running
verdict_from (Some bad) commits running = legal.Illegal bad.0 bad.1

-- If a verdict is illegal, the search found a bad entry, which is the one of the verdict.
pub found : (r : Option (ℕ × ℕ)) (commits running entry rule : ℕ) → legal.Illegal entry rule ≡ (elim r [ None ↦ legal.Legal commits running | Some bad ↦ legal.Illegal bad.0 bad.1 ]) → (bad : ℕ × ℕ) × (r ≡ Some bad) × (legal.Illegal entry rule ≡ legal.Illegal bad.0 bad.1)
found None commits running entry rule e = absurd (cc)
found (Some bad) commits running entry rule e = (bad, refl, e)

made : (r : Option (ℕ × ℕ)) (commits running : ℕ) (bad : ℕ × ℕ) → r ≡ Some bad → legal.Illegal bad.0 bad.1 ≡ (elim r [ None ↦ legal.Legal commits running | Some bad ↦ legal.Illegal bad.0 bad.1 ])
made r commits running bad e = rw e refl

pub illegal_stays : (basis : Basis) (h more : List Entry) (entry : ℕ) (rule : Rule) → IsVerdictBy basis h (Illegal entry rule) → IsVerdictBy basis (h ++ more) (Illegal entry rule)
illegal_stays (Locks stripes holder) h more entry rule v =
    let f = found (legal.first_bad holder stripes [] h 0) _ _ entry (number_of rule) v.meaning in
    let there = locks_stay holder stripes [] h more 0 f.0 f.1 in
    record {
      meaning = f.2 ∙ made (legal.first_bad holder stripes [] (h ++ more) 0) _ _ f.0 there;
      legal = (λ no. absurd (false≢true no), λ all. let none = (legal_iff stripes (h ++ more)).0 all in absurd (cc (there, none)));
    }
illegal_stays Commits h more entry rule v =
    let f = found (serializable.first_bad [] h 0) _ _ entry (number_of rule) v.meaning in
    let there = commits_stay [] h more 0 f.0 f.1 in
    record {
      meaning = f.2 ∙ made (serializable.first_bad [] (h ++ more) 0) _ _ f.0 there;
      serializable = (λ no. absurd (false≢true no), λ all. let none = (serializable_iff (h ++ more)).0 all in absurd (cc (there, none)));
    }

-- If the verdict on a history is `Legal`, the history is legal.
pub legal_said : (basis : Basis) (h : List Entry) (commits running : ℕ) → IsVerdictBy basis h (Legal commits running) → IsLegalBy basis h
legal_said (Locks stripes holder) h commits running v = v.legal.0 refl
legal_said Commits h commits running v = v.serializable.0 refl
