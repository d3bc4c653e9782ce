-- The bytes that a watcher was given, and the verdict on them.
use Rattle.std.proofs.Common.{◌≡◌, ℕ, ◌+◌, true, false, List, [], ◌∷◌, ◌++◌, Option, Some, None, is_some, refl, sym, ap, subst, ◌∙◌, append-nil}
use Rattle.std.proofs.lemmas.Bool.{false≢true}
use Rattle.txn_words.specs.declared.entry.Entry.{Entry}
use Rattle.piece_files.specs.declared.file_fault.FileFault.{FileFault}
use Rattle.history_check.specs.declared.verdict.Rule.{Rule}
use Rattle.history_check.specs.declared.verdict.Verdict.{Verdict}
use Rattle.history_check.specs.declared.verdict.Verdict.TheVariants.{Legal, Illegal}
use Rattle.txn_files.specs.EntryLines.{history_from, history_of_lines, split_lines}
use Rattle.judge_engine.specs.declared.basis.Basis.{Basis}
use Rattle.judge_engine.specs.declared.watcher.Watcher.{Watcher}
use Rattle.judge_engine.specs.Bases.{IsVerdictBy, IsLegalBy}
use Rattle.judge_engine.specs.Watchers.{ahead, HasWatched, TookIn}
use Rattle.judge_engine.specs.Watching.{IsJudged, IsJudgedLines, IsRefusedLine}
use Rattle.judge_engine.proofs.LineLemmas.{stands_refused, history-empty, last_line}
use Rattle.judge_engine.proofs.Settled.{illegal_stays, legal_said}

module _ (bytes : List ℕ) (h : List Entry) (part : List ℕ) (n : ℕ) where
  pub none_yet : (refused : Option (ℕ × FileFault)) → is_some refused ≡ false → HasWatched bytes h part n refused → HasWatched bytes h part n None
  none_yet None e s = s
  none_yet (Some r) e s = absurd (cc e)

  pub none_here : (refused : Option (ℕ × FileFault)) → refused ≡ None → HasWatched bytes h part n refused → HasWatched bytes h part n None
  none_here None e s = s
  none_here (Some r) e s = absurd (cc e)

  pub refused_already : (refused : Option (ℕ × FileFault)) (piece : List ℕ) → is_some refused ≡ true → HasWatched bytes h part n refused → HasWatched (bytes ++ piece) h part n refused
  refused_already None piece e s = absurd (cc e)
  refused_already (Some r) piece e s = stands_refused bytes h part n r piece part n s

  goes_past : (refused : Option (ℕ × FileFault)) (more : List ℕ) → HasWatched bytes h part n refused → (rest : List Entry) × ((history_of_lines (bytes ++ more)).0 ≡ h ++ rest)
  goes_past None more s = ((history_from n (split_lines (part ++ more))).0, ap (λ (x : List Entry × Option (ℕ × FileFault)). x.0) (s.1 more))
  goes_past (Some r) more s = ([], ap (λ (x : List Entry × Option (ℕ × FileFault)). x.0) (s more) ∙ sym (append-nil h))

pub settled : (basis : Basis) (bytes more : List ℕ) (w : Watcher) (outcome : Verdict) (entry : ℕ) (rule : Rule) → outcome ≡ Illegal entry rule → (t : TookIn basis bytes w) → IsVerdictBy basis t.entries outcome → IsJudgedLines basis (bytes ++ more) outcome
settled basis bytes more w outcome entry rule is t v =
    let past = goes_past bytes t.entries w.part.items w.number w.refused more t.place in
    let bad : IsVerdictBy basis t.entries (Illegal entry rule) = subst (IsVerdictBy basis t.entries) is v in
    let stays = illegal_stays basis t.entries past.0 entry rule bad in
    let there : IsVerdictBy basis (history_of_lines (bytes ++ more)).0 (Illegal entry rule) = subst (λ es. IsVerdictBy basis es (Illegal entry rule)) (sym past.1) stays in
    subst (IsJudgedLines basis (bytes ++ more)) (sym is) (record { verdict = there; whole = λ no. absurd (false≢true no) })

-- After a line is read, the watcher is at the start of the next line.
pub line_done : (bytes : List ℕ) (h : List Entry) (part : List ℕ) (n next : ℕ) (refused : Option (ℕ × FileFault)) → part ≡ [] → next ≡ n + 1 → is_some refused ≡ false → HasWatched bytes h [] (n + 1) None → HasWatched bytes h part next refused
line_done bytes h part n next None empty is e s = rw (empty, is) s
line_done bytes h part n next (Some r) empty is e s = absurd (cc e)

-- If a line is refused and the verdict on the entries before it is legal, `IsRefusedLine` holds.
pub refused_line : (basis : Basis) (bytes more : List ℕ) (h : List Entry) (part : List ℕ) (n number : ℕ) (fault : FileFault) (refused : Option (ℕ × FileFault)) (outcome : Verdict) (commits running : ℕ) → refused ≡ Some (number, fault) → outcome ≡ Legal commits running → HasWatched bytes h part n refused → IsVerdictBy basis h outcome → IsRefusedLine basis (history_of_lines (bytes ++ more)) number fault
refused_line basis bytes more h part n number fault refused outcome commits running is said s v =
    let there : HasWatched bytes h part n (Some (number, fault)) = subst (HasWatched bytes h part n) is s in
    let legal : IsLegalBy basis h = legal_said basis h commits running (subst (IsVerdictBy basis h) said v) in
    subst (λ found. IsRefusedLine basis found number fault) (sym (there more)) (record { line = refl; legal = legal })

-- If a line feed and no more bytes follow, the entries do not change.
pub all_taken : (bytes : List ℕ) → history_of_lines ((bytes ++ 10 ∷ []) ++ []) ≡ history_of_lines bytes
all_taken bytes = ap history_of_lines (append-nil (bytes ++ 10 ∷ [])) ∙ last_line bytes

pub judged_whole : (basis : Basis) (bytes : List ℕ) (h : List Entry) (part : List ℕ) (n : ℕ) (refused : Option (ℕ × FileFault)) (outcome : Verdict) → refused ≡ None → part ≡ [] → HasWatched (bytes ++ 10 ∷ []) h part n refused → IsVerdictBy basis h outcome → IsJudgedLines basis bytes outcome
judged_whole basis bytes h part n refused outcome is empty s v =
    let there = none_here (bytes ++ 10 ∷ []) h part n refused is s in
    let found : history_of_lines ((bytes ++ 10 ∷ []) ++ []) ≡ (h ++ [], None) = there.1 [] ∙ ap (λ (l : List ℕ). ahead h (history_from n (split_lines (l ++ [])))) empty ∙ ap (ahead h) (history-empty n) in
    let whole : history_of_lines bytes ≡ (h, None) = sym (all_taken bytes) ∙ found ∙ ap (λ (es : List Entry). (es, None)) (append-nil h) in
    subst (λ f. IsJudged basis f outcome) (sym whole) (record { verdict = v; whole = λ said. refl })
