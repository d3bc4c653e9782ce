-- A history that is serializable in the order of its commits is serializable in some order.
use Rattle.std.proofs.Common.{◌≡◌, ℕ, true, false, cond, List, [], ◌∷◌, ◌++◌, refl, ap, sym, subst, ◌∙◌, Some, None, IsSome, is_some, append_assoc}
use Rattle.std.specs.List.{fold, cons_option, AllByRecursion}
use Rattle.std.proofs.lemmas.List.{append-nil}
use mathlib.Core.Logic.{◌⊎◌, inl, inr}
use mathlib.Core.List.{IsPrefix}
use Rattle.txn_words.specs.declared.entry.Entry.{Entry}
use Rattle.txn_words.specs.declared.entry.Entry.TheVariants.{Committed}
use Rattle.txn_words.specs.Map.{Map, empty}
use Rattle.txn_words.specs.Kinds.{is_commit}
use Rattle.txn_words.specs.Shape.{is_shaped, IsShaped}
use Rattle.txn_trace.specs.History.{of, txns_of, commits, is_committed}
use Rattle.txn_trace.specs.Alone.{alone, map_after}
use Rattle.txn_trace.specs.Serial.{serial}
use Rattle.txn_trace.proofs.Pushes.{txn_in, txn_at, of-push_in, alone-push}
use Rattle.txn_trace.proofs.Callers.{Callers, not_after_end}
use Rattle.txn_trace.proofs.Shaped.{ended_stays, committed_ended}
use Rattle.txn_trace.proofs.Steps.{txns_of-push, are_committed, commits_are}
use Rattle.txn_trace.proofs.Inductions.{by_entries}
use Rattle.txn_trace.proofs.Running.{has_txn}
use Rattle.txn_trace.proofs.Committing.{commits_so}
use Rattle.txn_trace.proofs.BadEntries.{shape_push}
use Rattle.serial_check.specs.Serializable.{IsSerializableByCommits, CommitsHold}
use Rattle.order_check.specs.Lists.{IsIn, AreApart}
use Rattle.order_check.specs.Serializable.{RunAlone, IsSerialOrder, IsSerializable}
use Rattle.order_check.proofs.Places.{apart_push}

members : (P : ℕ → Type 0) (ts : List ℕ) → AllByRecursion P ts → (t : ℕ) → IsIn t ts → P t
members P [] all t is_in = absurd is_in
members P (x ∷ xs) all t is_in = elim is_in [
  | inl same ↦ subst P same all.0
  | inr rest ↦ members P xs all.1 t rest
]

-- Runs depend only on the entries of the transactions.
run_same : (g h : List Entry) (m : Map) (ts : List ℕ) → ((t : ℕ) → IsIn t ts → of t h ≡ of t g) → RunAlone g m ts → RunAlone h m ts
run_same g h m [] same runs = tt
run_same g h m (t ∷ ts) same runs =
    let is = same t (inl refl) in (
      ap (λ es. is_some (alone m es)) is ∙ runs.0,
      subst (λ es. RunAlone h (map_after m es) ts) (sym is) (run_same g h (map_after m (of t g)) ts (λ u is_in. same u (inr is_in)) runs.1),
    )

abbrev leave : List Entry → Map → List ℕ → Map
leave h m ts = fold (λ m t. map_after m (of t h)) m ts

leave_same : (g h : List Entry) (m : Map) (ts : List ℕ) → ((t : ℕ) → IsIn t ts → of t h ≡ of t g) → leave h m ts ≡ leave g m ts
leave_same g h m [] same = refl
leave_same g h m (t ∷ ts) same =
    ap (λ es. leave h (map_after m es) ts) (same t (inl refl)) ∙ leave_same g h (map_after m (of t g)) ts (λ u is_in. same u (inr is_in))

run_push : (h : List Entry) (m : Map) (ts : List ℕ) (t : ℕ) → RunAlone h m ts → IsSome (alone (leave h m ts) (of t h)) → RunAlone h m (ts ++ t ∷ [])
run_push h m [] t runs last = (last, tt)
run_push h m (x ∷ xs) t runs last = (runs.0, run_push h (map_after m (of x h)) xs t runs.1 last)

-- The committed transactions are different, and run alone in the order of their commits if each of
-- them had the right replies.
pub record CommitsRun (g : List Entry) : Type 0 where
  pub apart : AreApart (commits g)
  pub runs : CommitsHold g → RunAlone g empty (commits g)

commit_or_not : (e : Entry) → ((c : ℕ) × (p : ℕ) × (e ≡ Committed c p)) ⊎ (is_commit e ≡ false)
commit_or_not (Committed c p) = inl (c, p, refl)
commit_or_not _ = inr refl

front_holds : (g : List Entry) (e : Entry) → CommitsHold (g ++ e ∷ []) → CommitsHold g
front_holds g e hold k c p t front in_t = hold k c p t (front.0 ++ e ∷ [], sym (append_assoc (k ++ Committed c p ∷ []) front.0 (e ∷ [])) ∙ ap (λ es. es ++ e ∷ []) front.1) in_t

module _ (g : List Entry) (e : Entry) (shape : IsShaped g) (callers : Callers g) (shaped : is_shaped g e ≡ true) (was : CommitsRun g) where
  pub commits-push : commits (g ++ e ∷ []) ≡ commits g ++ cons_option (cond (is_commit e) (txn_at g e) None) []
  commits-push =
      commits_are (g ++ e ∷ []) (shape_push g e shape shaped) ∙ txns_of-push is_commit g e
      ∙ ap (λ ts. ts ++ cons_option (cond (is_commit e) (txn_at g e) None) []) (sym (commits_are g shape))

  pub committed_in : (t : ℕ) → IsIn t (commits g) → is_committed t g ≡ true
  committed_in t is_in = members (λ u. is_committed u g ≡ true) (txns_of is_commit g) (are_committed g shape) t (subst (IsIn t) (commits_are g shape) is_in)

  pub same_of : (t : ℕ) → IsIn t (commits g) → of t (g ++ e ∷ []) ≡ of t g
  same_of t is_in = ended_stays g e callers shaped t (committed_ended t g (committed_in t is_in))

  before : CommitsHold (g ++ e ∷ []) → RunAlone (g ++ e ∷ []) empty (commits g)
  before hold = run_same g (g ++ e ∷ []) empty (commits g) same_of (was.runs (front_holds g e hold))

  other_entry : is_commit e ≡ false → CommitsRun (g ++ e ∷ [])
  other_entry other =
      let same : commits (g ++ e ∷ []) ≡ commits g = commits-push ∙ ap (λ b. commits g ++ cons_option (cond b (txn_at g e) None) []) other ∙ append-nil (commits g) in
      record {
        apart = subst AreApart (sym same) was.apart;
        runs = λ hold. subst (RunAlone (g ++ e ∷ []) empty) (sym same) (before hold);
      }

  commit_entry : (c p t : ℕ) → e ≡ Committed c p → is_commit e ≡ true → txn_at g e ≡ Some t → CommitsRun (g ++ e ∷ [])
  commit_entry c p t e_is commit at =
      let same : commits (g ++ e ∷ []) ≡ commits g ++ t ∷ [] = commits-push ∙ ap (λ b. commits g ++ cons_option (cond b (txn_at g e) None) []) commit ∙ ap (λ o. commits g ++ cons_option o []) at in
      record {
        apart = subst AreApart (sym same) (apart_push t (commits g) was.apart (λ is_in. not_after_end g e t callers shaped (committed_ended t g (committed_in t is_in)) at));
        runs = λ hold. subst (RunAlone (g ++ e ∷ []) empty) (sym same) (run_push (g ++ e ∷ []) empty (commits g) t (before hold) (last hold));
      }
    where
      last : CommitsHold (g ++ e ∷ []) → IsSome (alone (leave (g ++ e ∷ []) empty (commits g)) (of t (g ++ e ∷ [])))
      last hold =
          let in_t : txn_in g c ≡ Some t = ap (λ f. txn_at g f) (sym e_is) ∙ at in
          let there : IsPrefix (g ++ Committed c p ∷ []) (g ++ e ∷ []) = ([], append-nil (g ++ Committed c p ∷ []) ∙ ap (λ f. g ++ f ∷ []) (sym e_is)) in
          ap (λ m. is_some (alone m (of t (g ++ e ∷ [])))) (leave_same g (g ++ e ∷ []) empty (commits g) same_of)
          ∙ ap (λ es. is_some (alone (serial g) es)) (of-push_in t g e at ∙ ap (λ f. of t g ++ f ∷ []) e_is)
          ∙ ap is_some (alone-push (serial g) (of t g) (Committed c p))
          ∙ commits_so c p (alone (serial g) (of t g)) (hold g c p t there in_t)

  one_more : CommitsRun (g ++ e ∷ [])
  one_more = elim (commit_or_not e) [
    | inl is ↦ let there = has_txn g e shape shaped in commit_entry is.0 is.1 there.0 is.2 (ap is_commit is.2) there.1
    | inr other ↦ other_entry other
  ]

pub commits_run : (h : List Entry) → IsShaped h → CommitsRun h
commits_run h shape = by_entries CommitsRun one_more (record { apart = tt; runs = λ hold. tt }) h shape

-- The order of the commits is an order of the history.
pub serializable_in_order : (h : List Entry) → IsSerializableByCommits h → IsSerialOrder h (commits h)
serializable_in_order h is =
    let run = commits_run h is.shape in
    record {
      each = record { apart = run.apart; all = λ t is_in. is_in; only = λ t is_in. is_in };
      replies = run.runs is.replies;
    }

pub serializable_in_some : (h : List Entry) → IsSerializableByCommits h → IsSerializable h
serializable_in_some h is = record { shape = is.shape; order = commits h; in_order = serializable_in_order h is }
