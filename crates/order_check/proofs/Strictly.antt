-- A history that is serializable in the order of its commits is strictly serializable, because the
-- commits before a Began stay the first ones, and its transaction is not among them.
use Rattle.std.proofs.Common.{◌≡◌, ℕ, ◌<◌, true, cond, List, [], ◌∷◌, ◌++◌, length, Some, refl, ap, sym, ◌∙◌, subst, arith, append_assoc}
use Rattle.std.proofs.lemmas.Bool.{cases_lt, eq-eqb}
use Rattle.std.proofs.lemmas.List.{append-nil}
use mathlib.Core.Logic.{inl, inr}
use Rattle.txn_words.specs.declared.entry.Entry.{Entry}
use Rattle.txn_words.specs.declared.entry.Entry.TheVariants.{Began}
use Rattle.txn_words.specs.Shape.{IsShaped}
use Rattle.txn_trace.specs.History.{commits}
use Rattle.txn_trace.proofs.Callers.{not_after_end}
use Rattle.txn_trace.proofs.Pushes.{txn_at, txn_in}
use Rattle.txn_trace.proofs.Shaped.{callers_of, committed_ended, shape_front}
use Rattle.serial_check.specs.Serializable.{IsSerializableByCommits}
use Rattle.order_check.specs.Lists.{place}
use Rattle.order_check.specs.RealTime.{IsEarlier, IsStrictlySerializable}
use Rattle.order_check.specs.Serializable.{IsCommitted, IsSerializable}
use Rattle.order_check.proofs.Beginnings.{commits_now, added}
use Rattle.order_check.proofs.ByCommits.{commits_run, committed_in, serializable_in_order}
use Rattle.order_check.proofs.Places.{in_left-place, place-left}

-- The first commits stay the first.
commits_front : (g rest : List Entry) → IsShaped (g ++ rest) → (more : List ℕ) × (commits (g ++ rest) ≡ commits g ++ more)
commits_front g [] shape = ([], ap commits (append-nil g) ∙ sym (append-nil (commits g)))
commits_front g (e ∷ rest) shape =
    let whole = append_assoc g (e ∷ []) rest in
    let front = shape_front (g ++ e ∷ rest) g shape (e ∷ rest, refl) in
    let shaped = shape g e (rest, whole) in
    let later = commits_front (g ++ e ∷ []) rest (subst IsShaped (sym whole) shape) in
    let more = added true g e front shaped in
    (more ++ later.0, ap commits (sym whole) ∙ later.1 ∙ ap (λ ts. ts ++ later.0) (commits_now true g e front shaped) ∙ append_assoc (commits g) more later.0)

in_time : (h : List Entry) → IsShaped h → (t u : ℕ) → IsEarlier h t u → place t (commits h) < place u (commits h)
in_time h shape t u is =
    let g = is.before in
    let e = Began is.caller u in
    let whole : g ++ (e ∷ is.there.0) ≡ h = sym (append_assoc g (e ∷ []) is.there.0) ∙ is.there.1 in
    let front = commits_front g (e ∷ is.there.0) (subst IsShaped (sym whole) shape) in
    let split : commits h ≡ commits g ++ front.0 = ap commits (sym whole) ∙ front.1 in
    let early = place-left t (commits g) front.0 is.committed in
    let shape_g = shape_front h g shape (e ∷ is.there.0, whole) in
    let shaped = shape g e is.there in
    let not_yet : IsCommitted g u → ⊥ = λ in_u.
    not_after_end g e u (callers_of g shape_g) shaped (committed_ended u g (committed_in g e shape_g (callers_of g shape_g) shaped (commits_run g shape_g) u in_u)) (begins g is.caller) in
    subst (λ ts. place t ts < place u ts) (sym split) (elim (cases_lt (place u (commits g ++ front.0)) (length (commits g))) [
      | inl below ↦ absurd (not_yet (in_left-place u (commits g) front.0 below))
      | inr past ↦ omega arith
    ])
  where
    begins : (g : List Entry) (c : ℕ) → txn_at g (Began c u) ≡ Some u
    begins g c = ap (λ b. cond b (Some u) (txn_in g c)) (eq-eqb c c refl)

pub strictly_in_order : (h : List Entry) → IsSerializableByCommits h → IsStrictlySerializable h
strictly_in_order h is = record {
  shape = is.shape;
  order = commits h;
  in_order = serializable_in_order h is;
  in_time = λ t u committed earlier. in_time h is.shape t u earlier;
}

pub strictly_serializable : (h : List Entry) → IsStrictlySerializable h → IsSerializable h
strictly_serializable h is = record { shape = is.shape; order = is.order; in_order = is.in_order }
