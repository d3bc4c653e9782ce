-- If a caller's committed transactions play its scripts in order, each of these transactions is
-- counted for a script.
use Rattle.std.proofs.Common.{◌≡◌, ℕ, ◌<◌, ◌==◌, ◌&&◌, Bool, true, false, cond, List, [], ◌∷◌, ◌++◌, length, map, not, Some, None, if◌then◌else◌, refl, sym, ap, subst, ◌∙◌}
use Prim.Native.Nat.{suc}
use Rattle.std.specs.List.{AllByRecursion, cons_option, fold}
use Rattle.std.proofs.lemmas.Bool.{eqb-true, false≢true}
use Rattle.std.proofs.lemmas.List.{append-nil, map-append}
use Rattle.std.proofs.lemmas.List.Elements.{filter-append}
use Rattle.txn_words.specs.declared.action.Action.{Action}
use Rattle.txn_words.specs.declared.entry.Entry.{Entry}
use Rattle.txn_words.specs.declared.entry.Entry.TheVariants.{Committed}
use Rattle.txn_trace.specs.History.{ends_in, of}
use Rattle.txn_words.specs.Kinds.{caller_of, is_commit}
use Rattle.txn_words.specs.Shape.{own, is_shaped, IsShaped}
use Rattle.txn_trace.specs.Plays.{without_undone, is_undone, is_commit_of, commits_of, PlayRising, PlayScripts}
use Rattle.txn_trace.proofs.Pushes.{txn_in, txn_at, of-push_in}
use Rattle.txn_trace.proofs.Callers.{Callers, at_is, ended, is_end, not_began_is}
use Rattle.txn_trace.proofs.Inductions.{by_entries}
use Rattle.txn_trace.proofs.Playing.{last_part}
use Rattle.txn_trace.proofs.Running.{has_txn}
use Rattle.txn_trace.proofs.Shaped.{ended_in, ended_stays}
use Rattle.txn_trace.proofs.Steps.{txns_of-push}
use Rattle.script_worker.specs.declared.outcome.Outcome.{Outcome}
use Rattle.script_worker.specs.Outcomes.{CommitsCounted, AreOutcomes, PlayInOrder, committed_by, committed_from, grown, latest_entries}
use Rattle.script_worker.proofs.Numbering.{last_is}

-- ---- the committed parts with one more entry

turn : (c : ℕ) (e x : Entry) (g part : List Entry)
    → committed_from c (grown part x) (g ++ e ∷ []) ≡ committed_from c (grown part x) g ++ committed_from c (fold grown (grown part x) (own c g)) (e ∷ [])
    → committed_from c part (g ++ e ∷ []) ≡ committed_from c part g ++ committed_from c (fold grown part (own c g)) (e ∷ [])
    → (b k : Bool)
    → (if b then (if k then grown part x ∷ committed_from c (grown part x) (g ++ e ∷ []) else committed_from c (grown part x) (g ++ e ∷ [])) else committed_from c part (g ++ e ∷ []))
    ≡ (if b then (if k then grown part x ∷ committed_from c (grown part x) g else committed_from c (grown part x) g) else committed_from c part g)
    ++ committed_from c (fold grown part (cond b (x ∷ own c g) (own c g))) (e ∷ [])
turn c e x g part mine other true true = ap (λ (ps : List (List Entry)). grown part x ∷ ps) mine
turn c e x g part mine other true false = mine
turn c e x g part mine other false k = other

from_push : (c : ℕ) (e : Entry) (g part : List Entry) → committed_from c part (g ++ e ∷ []) ≡ committed_from c part g ++ committed_from c (fold grown part (own c g)) (e ∷ [])
from_push c e [] part = refl
from_push c e (x ∷ g) part = turn c e x g part (from_push c e g (grown part x)) (from_push c e g part) (caller_of x == c) (is_commit x)

none_noted : (b k : Bool) (part : List Entry) → (k && b) ≡ false → (if b then (if k then part ∷ [] else []) else []) ≡ []
none_noted true true part is = absurd (false≢true (sym is))
none_noted true false part is = refl
none_noted false k part is = refl

-- ---- the committed transactions

abbrev entries_of : List Entry → List ℕ → List (List Entry)
entries_of h ts = map (λ t. without_undone (of t h)) ts

-- The committed transactions of a caller have ended, and their entries are those of `committed_by`.
record Told (c : ℕ) (h : List Entry) : Type 0 where
  parts_are : entries_of h (commits_of c h) ≡ committed_by c h
  all_ended : AllByRecursion (λ t. ended t h ≡ true) (commits_of c h)

all_and_one : (P : ℕ → Type 0) (ts : List ℕ) (t : ℕ) → AllByRecursion P ts → P t → AllByRecursion P (ts ++ t ∷ [])
all_and_one P [] t all one = (one, tt)
all_and_one P (x ∷ ts) t all one = (all.0, all_and_one P ts t all.1 one)

module _ (c : ℕ) (g : List Entry) (e : Entry) (owners : Callers g) (shaped : is_shaped g e ≡ true) where
  kept : (ts : List ℕ) → AllByRecursion (λ t. ended t g ≡ true) ts → entries_of (g ++ e ∷ []) ts ≡ entries_of g ts
  kept [] all = refl
  kept (t ∷ ts) all = (λ i. without_undone (ended_stays g e owners shaped t all.0 i) ∷ kept ts all.1 i)

  still_ended : (ts : List ℕ) → AllByRecursion (λ t. ended t g ≡ true) ts → AllByRecursion (λ t. ended t (g ++ e ∷ []) ≡ true) ts
  still_ended [] all = tt
  still_ended (t ∷ ts) all = (ap (ends_in is_end) (ended_stays g e owners shaped t all.0) ∙ all.0, still_ended ts all.1)

  quiet : is_commit_of c e ≡ false → Told c g → Told c (g ++ e ∷ [])
  quiet is told =
      let same : commits_of c (g ++ e ∷ []) ≡ commits_of c g =
      txns_of-push (is_commit_of c) g e ∙ ap (λ b. commits_of c g ++ cons_option (cond b (txn_at g e) None) []) is ∙ append-nil (commits_of c g) in
      record {
        parts_are = ap (entries_of (g ++ e ∷ [])) same ∙ kept (commits_of c g) told.all_ended ∙ told.parts_are ∙ sym (append-nil (committed_by c g))
            ∙ ap (λ (ps : List (List Entry)). committed_by c g ++ ps) (sym (none_noted (caller_of e == c) (is_commit e) (grown (latest_entries c g) e) is)) ∙ sym (from_push c e g []);
        all_ended = subst (AllByRecursion (λ t. ended t (g ++ e ∷ []) ≡ true)) (sym same) (still_ended (commits_of c g) told.all_ended);
      }

commit : (c : ℕ) (g : List Entry) (d p : ℕ) → IsShaped g → Callers g → is_shaped g (Committed d p) ≡ true → (d == c) ≡ true → Told c g → Told c (g ++ Committed d p ∷ [])
commit c g d p shape owners shaped its told =
    let e = Committed d p in
    let now = g ++ e ∷ [] in
    let (t, at) = has_txn g e shape shaped in
    let (parts, is) = last_part c g shape t (subst (λ x. txn_in g x ≡ Some t) (eqb-true d c its) (not_began_is g e t refl (at_is g e t at))) in
    let more : commits_of c now ≡ commits_of c g ++ t ∷ [] =
    txns_of-push (is_commit_of c) g e ∙ ap (λ b. commits_of c g ++ cons_option (cond b (txn_at g e) None) []) its ∙ ap (λ o. commits_of c g ++ cons_option o []) at in
    let part : without_undone (of t now) ≡ latest_entries c g ++ e ∷ [] =
    ap without_undone (of-push_in t g e at) ∙ filter-append (λ x. not (is_undone x)) (of t g) (e ∷ []) ∙ ap (λ es. es ++ e ∷ []) (sym (last_is c g (of t g) parts is)) in
    let noted : committed_from c (latest_entries c g) (e ∷ []) ≡ (latest_entries c g ++ e ∷ []) ∷ [] = ap (λ b. if b then (latest_entries c g ++ e ∷ []) ∷ [] else []) its in
    record {
      parts_are = ap (entries_of now) more ∙ map-append (λ x. without_undone (of x now)) (commits_of c g) (t ∷ [])
          ∙ (λ i. (kept c g e owners shaped (commits_of c g) told.all_ended ∙ told.parts_are) i ++ part i ∷ [])
          ∙ ap (λ (ps : List (List Entry)). committed_by c g ++ ps) (sym noted) ∙ sym (from_push c e g []);
      all_ended = subst (AllByRecursion (λ x. ended x now ≡ true)) (sym more)
          (all_and_one (λ x. ended x now ≡ true) (commits_of c g) t (still_ended c g e owners shaped (commits_of c g) told.all_ended) (ended_in g e owners shaped t at));
    }

told_push : (c : ℕ) (g : List Entry) (e : Entry) → IsShaped g → Callers g → is_shaped g e ≡ true → Told c g → Told c (g ++ e ∷ [])
told_push c g (Committed d p) shape owners shaped told = elim (d == c) as (λ b. (d == c) ≡ b → Told c (g ++ Committed d p ∷ [])) [
  | true ↦ λ its. commit c g d p shape owners shaped its told
  | false ↦ λ other. quiet c g (Committed d p) owners shaped other told
] refl
told_push c g e shape owners shaped told = quiet c g e owners shaped refl told

told : (c : ℕ) (h : List Entry) → IsShaped h → Told c h
told c = by_entries (Told c) (told_push c) (record { parts_are = refl; all_ended = tt })

-- ---- the scripts that the committed transactions play

in_order : (callers : ℕ) (scripts : List (List Action)) (c : ℕ) (h : List Entry) (low high : ℕ) (ts : List ℕ) → PlayRising callers scripts c h low high ts → PlayInOrder callers scripts c low (entries_of h ts)
in_order callers scripts c h low high [] rising = tt
in_order callers scripts c h low high (t ∷ ts) rising =
    (rising.0, rising.1, rising.2, rising.4, rising.5, in_order callers scripts c h (suc rising.0) high ts rising.6)

pub all_counted : (callers : ℕ) (scripts : List (List Action)) (h : List Entry) (outcomes : List Outcome) → IsShaped h → PlayScripts callers scripts h → AreOutcomes callers scripts h outcomes
    → (c : ℕ) → c < callers → CommitsCounted callers c (length h) h outcomes
all_counted callers scripts h outcomes shape plays are c below =
    (are.of c below).all (subst (PlayInOrder callers scripts c 0) (told c h shape).parts_are (in_order callers scripts c h 0 (length scripts) (commits_of c h) (plays c below)))
