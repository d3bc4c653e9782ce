-- If a script has the outcome `Committed`, a transaction plays the script and commits. If the
-- history has the right shape (`IsShaped`), this transaction has a number.
use Rattle.std.proofs.Common.{◌≡◌, ℕ, ◌+◌, true, List, [], ◌∷◌, ◌++◌, take, drop, Some, refl, sym, ap, subst, ◌∙◌, not, append-nil}
use Rattle.std.specs.Prelude.{slice_get}
use Rattle.std.specs.List.{fold}
use Rattle.std.proofs.lemmas.List.{take_more, take-append-drop}
use Rattle.std.proofs.lemmas.List.Elements.{filter-append}
use Rattle.std.proofs.lemmas.Option.{slice_get_within, get_or_from_slice_get}
use Rattle.txn_words.specs.declared.action.Action.{Action}
use Rattle.txn_words.specs.declared.entry.Entry.{Entry}
use Rattle.txn_words.specs.declared.entry.Entry.TheVariants as entries
use Rattle.txn_words.specs.declared.entry.Entry.TheVariants.{Began, Undone}
use Rattle.txn_trace.specs.History.{ends_in, of, is_committed}
use Rattle.txn_words.specs.Kinds.{is_commit}
use Rattle.txn_words.specs.Shape.{own, is_shaped, IsShaped}
use Rattle.txn_trace.specs.Plays.{without_undone, is_undone, IsPlayed, Plays, part_after, parts_of}
use Rattle.txn_trace.proofs.Pushes.{txn_in, txn_in-push, of-push_in, ends_in-push}
use Rattle.txn_trace.proofs.Callers.{ended}
use Rattle.txn_trace.proofs.Shaped.{callers_of, ended_in, ended_whole, shape_front}
use Rattle.txn_trace.proofs.Running.{has_txn}
use Rattle.txn_trace.proofs.Playing.{last_part}
use Rattle.script_worker.specs.Outcomes.{grown, latest_entries, CommitsScript}

-- The second argument has the entries of each transaction of a caller, the newest transaction
-- first. `part` has the entries of the newest one, except those that take changes back.
abbrev Matches : List Entry → List (List Entry) → Type 0
Matches part [] = Unit {0}
Matches part (p ∷ ps) = part ≡ without_undone p

matches_step : (part : List Entry) (ps : List (List Entry)) (e : Entry) → Matches part ps → Matches (grown part e) (part_after ps e)
matches_step part [] (Began c t) m = refl
matches_step part [] e m = tt
matches_step part (p ∷ ps) (Began c t) m = refl
matches_step part (p ∷ ps) (Undone c) m = m ∙ sym (filter-append (λ e. not (is_undone e)) p (Undone c ∷ []) ∙ append-nil (without_undone p))
matches_step part (p ∷ ps) e m = ap (λ x. x ++ e ∷ []) m ∙ sym (filter-append (λ e. not (is_undone e)) p (e ∷ []))

matches_fold : (es part : List Entry) (ps : List (List Entry)) → Matches part ps → Matches (fold grown part es) (fold part_after ps es)
matches_fold [] part ps m = m
matches_fold (e ∷ es) part ps m = matches_fold es (grown part e) (part_after ps e) (matches_step part ps e m)

pub last_is : (c : ℕ) (g p : List Entry) (ps : List (List Entry)) → parts_of (own c g) ≡ p ∷ ps → latest_entries c g ≡ without_undone p
last_is c g p ps is = subst (Matches (latest_entries c g)) is (matches_fold (own c g) [] [] tt)

pub commit_plays : (c place entry : ℕ) (script : List Action) (h : List Entry) → IsShaped h → CommitsScript c script place entry h → (t : ℕ) × (before : List Entry) × (of t h ≡ before ++ entries.Committed c place ∷ []) × Plays t script h × (is_committed t h ≡ true)
commit_plays c place entry script h shape commits =
    let next : take (entry + 1) h ≡ take entry h ++ entries.Committed c place ∷ [] =
    take_more h entry (entries.Committed c place) (slice_get_within h entry (entries.Committed c place) commits.at)
    ∙ ap (λ x. take entry h ++ x ∷ []) (get_or_from_slice_get h entry (entries.Committed c place) (entries.Committed c place) commits.at) in
    go (take entry h) (drop (entry + 1) h) next (ap (λ x. x ++ drop (entry + 1) h) (sym next) ∙ take-append-drop (entry + 1) h)
  where
    go : (g rest : List Entry) → take (entry + 1) h ≡ g ++ entries.Committed c place ∷ [] → (g ++ entries.Committed c place ∷ []) ++ rest ≡ h → (t : ℕ) × (before : List Entry) × (of t h ≡ before ++ entries.Committed c place ∷ []) × Plays t script h × (is_committed t h ≡ true)
    go g rest next whole =
        let now = g ++ entries.Committed c place ∷ [] in
        let shape1 : IsShaped now = shape_front h now shape (rest, whole) in
        let shape0 : IsShaped g = shape_front now g shape1 (entries.Committed c place ∷ [], refl) in
        let shaped : is_shaped g (entries.Committed c place) ≡ true = shape1 g (entries.Committed c place) ([], append-nil now) in
        let (t, at) = has_txn g (entries.Committed c place) shape0 shaped in
        let (parts, is) = last_part c now shape1 t (ap (λ f. f c) (txn_in-push g (entries.Committed c place)) ∙ at) in
        let done : ended t now ≡ true = ended_in g (entries.Committed c place) (callers_of g shape0) shaped t at in
        let stays : of t h ≡ of t now = ap (of t) (sym whole) ∙ ended_whole t now rest (callers_of now shape1) (subst IsShaped (sym whole) shape) done in (
          t,
          of t g,
          stays ∙ of-push_in t g (entries.Committed c place) at,
          subst (λ es. IsPlayed script (without_undone es)) (sym stays) (subst (IsPlayed script) (ap (latest_entries c) next ∙ last_is c now (of t now) parts is) commits.plays),
          ap (ends_in is_commit) (stays ∙ of-push_in t g (entries.Committed c place) at) ∙ ends_in-push is_commit (of t g) (entries.Committed c place),
        )
