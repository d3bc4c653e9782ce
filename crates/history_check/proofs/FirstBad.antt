-- The first bad entry after one more entry is added to a history, and what a verdict says.
use Rattle.std.proofs.Common.{◌≡◌, ℕ, suc, ◌+◌, true, false, List, [], ◌∷◌, ◌++◌, length, refl, ap, sym, ◌∙◌, Some, None, Option, is_some, arith, append_assoc}
use Rattle.std.specs.Prelude.{◌↔◌}
use Rattle.std.specs.Option.{SomeIff}
use Rattle.std.proofs.lemmas.Bool.{false≢true}
use Rattle.std.proofs.lemmas.List.{append-nil}
use Rattle.txn_words.specs.declared.entry.Entry.{Entry}
use Rattle.txn_words.specs.Kinds.{is_commit}
use Rattle.txn_words.specs.Shape.{how_many}
use Rattle.txn_trace.specs.Legal as legal
use Rattle.txn_trace.specs.Legal.{callers_in, running}
use Rattle.history_check.specs.declared.verdict.Rule.{Rule}
use Rattle.history_check.specs.declared.verdict.Verdict.{Verdict}
use Rattle.history_check.specs.declared.verdict.Verdict.TheVariants.{Legal, Illegal}
use Rattle.history_check.specs.Verdicts.{number_of, meaning_of, SaysLegal}
use Rattle.txn_trace.specs.Legal.{first_bad_by, verdict_by}
use Rattle.history_check.specs.FirstBad.{FedBy}

pub none_there : {A : Type 0} (o : Option A) → is_some o ≡ false → o ≡ None
none_there None is = refl
none_there (Some a) is = absurd (cc is)

pub next_is : (o : Option ℕ) (P : Type 0) (v x : ℕ) → SomeIff o P v → o ≡ Some x → x ≡ v
next_is None P v x may is = absurd (cc is)
next_is (Some y) P v x may is = let same : y ≡ x = cc is in sym same ∙ may.1

-- The first bad entry of a history to which an entry with the index `i` was added. If there was a
-- bad entry before, it remains the first one. If there was none and the added entry breaks a rule
-- (`rule`), the added entry is the first bad one.
abbrev then_bad : Option (ℕ × ℕ) → Option ℕ → ℕ → Option (ℕ × ℕ)
then_bad (Some bad) rule i = Some bad
then_bad None (Some rule) i = Some (i, rule)
then_bad None None i = None

module _ (broken : List Entry → Entry → Option ℕ) where
  first_bad_by-push : (g h : List Entry) (e : Entry) (i : ℕ) → first_bad_by broken g (h ++ e ∷ []) i ≡ then_bad (first_bad_by broken g h i) (broken (g ++ h) e) (i + length h)
  first_bad_by-push g [] e i =
      let same : i ≡ i + 0 = omega arith in
      alone (broken g e) ∙ (λ j. then_bad None (broken (sym (append-nil g) j) e) (same j))
    where
      alone : (o : Option ℕ) → (elim o as (λ o. Option (ℕ × ℕ)) [ Some rule ↦ Some (i, rule) | None ↦ None ]) ≡ then_bad None o i
      alone None = refl
      alone (Some rule) = refl
  first_bad_by-push g (x ∷ h) e i =
      (elim (broken g x) as (λ o. (elim o as (λ o. Option (ℕ × ℕ)) [ Some rule ↦ Some (i, rule) | None ↦ first_bad_by broken (g ++ x ∷ []) (h ++ e ∷ []) (i + 1) ])
      ≡ then_bad (elim o as (λ o. Option (ℕ × ℕ)) [ Some rule ↦ Some (i, rule) | None ↦ first_bad_by broken (g ++ x ∷ []) h (i + 1) ]) (broken (g ++ x ∷ h) e) (i + suc (length h))) [
        | Some rule ↦ refl
        | None ↦
            let next : i + 1 + length h ≡ i + suc (length h) = omega arith in
            first_bad_by-push (g ++ x ∷ []) h e (i + 1) ∙ (λ j. then_bad (first_bad_by broken (g ++ x ∷ []) h (i + 1)) (broken (append_assoc g (x ∷ []) h j) e) (next j))
      ])

  -- The first bad entry stays the first one when an entry is added.
  pub bad_stays : (told after : Type 0) (h : List Entry) (e : Entry) (fed : ℕ) (bad : Option (ℕ × Rule)) → is_some bad ≡ true → FedBy broken told h fed bad → FedBy broken after (h ++ e ∷ []) fed bad
  bad_stays told after h e fed None some is = absurd (false≢true some)
  bad_stays told after h e fed (Some bad) some is = first_bad_by-push [] h e 0 ∙ ap (λ o. then_bad o (broken h e) (0 + length h)) is

  -- An entry that breaks a rule, after entries that break none, is the first bad one.
  pub bad_now : (h : List Entry) (e : Entry) (i rule : ℕ) → first_bad_by broken [] h 0 ≡ None → i ≡ length h → broken h e ≡ Some rule → first_bad_by broken [] (h ++ e ∷ []) 0 ≡ Some (i, rule)
  bad_now h e i rule none index breaks =
      let here : 0 + length h ≡ i = omega (arith, index) in
      first_bad_by-push [] h e 0 ∙ (λ j. then_bad (none j) (breaks j) (here j))

  -- If no entry is bad, the checker's state is the one after all entries (`told`).
  pub told_of : (told : Type 0) (h : List Entry) (fed : ℕ) (bad : Option (ℕ × Rule)) → first_bad_by broken [] h 0 ≡ None → FedBy broken told h fed bad → told
  told_of told h fed None none is = is.0
  told_of told h fed (Some bad) none is = absurd (cc (sym none ∙ is))

  -- If no entry is bad, the verdict is `Legal`, with the number of commits and the number of
  -- callers in a transaction.
  pub verdict_by-none : (h : List Entry) (commits count : ℕ) → first_bad_by broken [] h 0 ≡ None → commits ≡ how_many is_commit h → count ≡ length (running (callers_in h) h) → legal.Legal commits count ≡ verdict_by broken h
  verdict_by-none h commits count none commits_are count_is = (λ i. legal.Legal (commits_are i) (count_is i)) ∙ sym (rw (none, verdict_by) refl)

  pub verdict_by-some : (h : List Entry) (bad : ℕ × ℕ) → first_bad_by broken [] h 0 ≡ Some bad → legal.Illegal bad.0 bad.1 ≡ verdict_by broken h
  verdict_by-some h bad is = sym (rw (is, verdict_by) refl)

  -- Assume that a history is good exactly if no entry is bad. Then its verdict says legal exactly
  -- if the history is good.
  pub says : (good : Type 0) (h : List Entry) (v : Verdict) → good ↔ (first_bad_by broken [] h 0 ≡ None) → meaning_of v ≡ verdict_by broken h → SaysLegal v ↔ good
  says good h (Legal commits count) iff is = (λ u. iff.1 (none (first_bad_by broken [] h 0) refl), λ g. refl)
    where
      none : (o : Option (ℕ × ℕ)) → first_bad_by broken [] h 0 ≡ o → first_bad_by broken [] h 0 ≡ None
      none None found = found
      none (Some bad) found = absurd (let differ : legal.Legal commits count ≡ legal.Illegal bad.0 bad.1 = is ∙ sym (verdict_by-some h bad found) in cc differ)
  says good h (Illegal entry rule) iff is =
      (λ u. absurd (false≢true u), λ g. absurd (let differ : legal.Illegal entry (number_of rule) ≡ legal.Legal (how_many is_commit h) (length (running (callers_in h) h)) = is ∙ sym (verdict_by-none h _ _ (iff.0 g) refl refl) in cc differ))
