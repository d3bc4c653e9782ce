-- The entries before the first bad entry.
use Rattle.std.proofs.Common.{◌≡◌, ℕ, suc, ◌+◌, ◌<◌, List, [], ◌∷◌, ◌++◌, length, take, Option, Some, None, refl, sym, ap, subst, ◌∙◌, arith, length-append}
use Rattle.std.specs.Prelude.{slice_get}
use Rattle.std.proofs.lemmas.List.{take_at}
use Rattle.std.specs.List.{All}
use Rattle.std.proofs.lemmas.Option.{get_or_from_slice_get}
use Rattle.txn_words.specs.declared.entry.Entry.{Entry}
use Rattle.txn_trace.specs.Legal as legal
use Rattle.txn_trace.proofs.Verdicts.{first_bad_is}
use Rattle.history_check.specs.declared.verdict.Rule.{Rule}
use Rattle.history_check.specs.declared.verdict.Verdict.TheVariants.{Illegal}
use Rattle.txn_trace.specs.Legal.{first_bad_by}
use Rattle.history_check.specs.Verdicts.{number_of}
use Rattle.serial_check.specs.Serializable as serializable
use Rattle.serial_check.specs.Serializable.{IsSerializableByCommits}
use Rattle.serial_check.proofs.Judging.{serializable_iff}
use Rattle.serial_check.proofs.Law.{legal_serializable}
use Rattle.judge_engine.specs.declared.basis.Basis.{Basis}
use Rattle.judge_engine.specs.declared.basis.Basis.TheVariants.{Locks, Commits}
use Rattle.judge_engine.specs.Bases.{IsLegalBy, IsVerdictBy}
use Rattle.judge_engine.proofs.Settled.{found}

-- Entry `i` of a history is the first bad one: the entries before it are legal.
pub record IsFirstBad (basis : Basis) (h : List Entry) (i : ℕ) : Type 0 where
  pub front : List Entry
  pub entry : Entry
  pub back : List Entry
  pub is : h ≡ front ++ entry ∷ back
  pub index : i ≡ length front
  pub legal : IsLegalBy basis front

-- The search by commits found no bad entry before the one that it found.
record Cut (broken : List Entry → Entry → Option ℕ) (g h : List Entry) (i n : ℕ) : Type 0 where
  front : List Entry
  entry : Entry
  back : List Entry
  is : h ≡ front ++ entry ∷ back
  index : n ≡ i + length front
  none : first_bad_by broken g front i ≡ None

module _ (broken : List Entry → Entry → Option ℕ) where
  cut_by : (g h : List Entry) (i : ℕ) (bad : ℕ × ℕ) → first_bad_by broken g h i ≡ Some bad → Cut broken g h i bad.0
  cut_by g [] i bad is = absurd (cc is)
  cut_by g (e ∷ h) i bad is =
      (elim (broken g e) as (λ o. broken g e ≡ o → (elim o as (λ o. Option (ℕ × ℕ)) [ Some rule ↦ Some (i, rule) | None ↦ first_bad_by broken (g ++ e ∷ []) h (i + 1) ]) ≡ Some bad → Cut broken g (e ∷ h) i bad.0) [
        | Some rule ↦ λ fails here.
            let pair : ◌≡◌ {A = ℕ × ℕ} (i, rule) bad = cc here in
            let first : i ≡ bad.0 = ap (λ (p : ℕ × ℕ). p.0) pair in
            record { front = []; entry = e; back = h; is = refl; index = omega (arith, first); none = refl }
        | None ↦ λ fine later.
            let c = cut_by (g ++ e ∷ []) h (i + 1) bad later in
            let index : bad.0 ≡ i + suc (length c.front) = (let n = c.index in omega arith) in
            record { front = e ∷ c.front; entry = c.entry; back = c.back; is = ap (λ w. e ∷ w) c.is; index = index; none = rw (fine, first_bad_by) c.none }
      ]) refl is

pub first_bad_in : (basis : Basis) (h : List Entry) (i : ℕ) (rule : Rule) → IsVerdictBy basis h (Illegal i rule) → IsFirstBad basis h i
first_bad_in (Locks stripes holder) h i rule v =
    let f = found (legal.first_bad holder stripes [] h 0) _ _ i (number_of rule) v.meaning in
    let b = first_bad_is stripes h f.0.0 f.0.1 f.1 in
    let same : i ≡ f.0.0 = cc f.2 in
    record { front = b.front; entry = b.entry; back = b.back; is = b.is; index = same ∙ b.index; legal = b.legal }
first_bad_in Commits h i rule v =
    let f = found (serializable.first_bad [] h 0) _ _ i (number_of rule) v.meaning in
    let c = cut_by serializable.broken [] h 0 f.0 f.1 in
    let same : i ≡ f.0.0 = cc f.2 in
    let index : i ≡ length c.front = (let n = c.index in omega (arith, same)) in
    record { front = c.front; entry = c.entry; back = c.back; is = c.is; index = index; legal = (serializable_iff c.front).1 c.none }

pub bad_within : (basis : Basis) (h : List Entry) (i : ℕ) (rule : Rule) → IsVerdictBy basis h (Illegal i rule) → i < length h
bad_within basis h i rule v =
    let b = first_bad_in basis h i rule v in
    omega (arith, b.index, ap length b.is, length-append b.front (b.entry ∷ b.back))

-- The entries before the bad one are legal.
pub legal_before : (basis : Basis) (h : List Entry) (i : ℕ) (rule : Rule) → IsVerdictBy basis h (Illegal i rule) → IsLegalBy basis (take i h)
legal_before basis h i rule v =
    let b = first_bad_in basis h i rule v in
    subst (IsLegalBy basis) (sym (ap (take i) b.is ∙ take_at b.front (b.entry ∷ b.back) i (sym b.index))) b.legal

-- A history that is legal by any rules is serializable.
pub serial_by : (basis : Basis) (h : List Entry) → IsLegalBy basis h → IsSerializableByCommits h
serial_by (Locks stripes holder) h is = legal_serializable holder stripes h is
serial_by Commits h is = is

-- If `P` holds for all elements of a list, it holds for the element at an index.
pub holds_at : (P : Entry → Type 0) (h : List Entry) (i : ℕ) (e : Entry) → All P h → i < length h → slice_get h i ≡ Some e → P e
holds_at P h i e all within is = subst P (get_or_from_slice_get h i e e is) (all i e within)
