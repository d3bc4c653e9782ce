-- Shows that no two callers are in the same transaction, because a Began takes a new number, and
-- that a caller runs exactly while its transaction is open.
use Rattle.std.proofs.Common.{[], ◌≡◌, ℕ, ◌-◌, take, slice_index, ◌+◌, ◌≤◌, Bool, true, false, cond, not, ◌&&◌, ◌||◌, ◌==◌, List, ◌∷◌, ◌++◌, length, refl, ap, sym, subst, ◌∙◌, Some, None, Option, is_some, arith}
use Rattle.std.specs.Option.{option_and_then}
use Rattle.std.specs.Prelude.{nat_lt}
use Rattle.std.specs.List.{fold, AllByRecursion}
use Rattle.std.proofs.lemmas.Bool.{false≢true, eqb-true, eq-eqb, and_parts, cases_eq, ne_eqb}
use mathlib.Core.Logic.{◌⊎◌, inl, inr}
use Rattle.txn_words.specs.declared.entry.Entry.{Entry}
use Rattle.txn_words.specs.declared.entry.Entry.TheVariants.{Began, Asked, Did, Saved, Leave, Undone, Returned, Committed, Busy, Aborted}
use Rattle.txn_trace.specs.History.{Line, txn_after, lines_of, of, ends_in, is_open}
use Rattle.txn_words.specs.Kinds.{caller_of, is_began, is_commit, is_abort}
use Rattle.txn_words.specs.declared.stance.Phase.{Phase}
use Rattle.txn_words.specs.declared.stance.Phase.TheVariants.{Closed, Opened, Waiting, LeavingTo, LeavingToEnd}
use Rattle.txn_words.specs.Shape.{Stance, row, stance_after, closed_stance, own, how_many, is_shaped, is_numbered}
use Rattle.txn_trace.specs.Legal.{runs, is_running}
use Rattle.txn_trace.proofs.Pushes.{txn_in, txn_at, txn_in-push, stance_after-push, own-push_in, how_many-push}

abbrev pub is_end : Entry → Bool
is_end e = is_commit e || is_abort e

-- Whether a transaction has committed or aborted.
abbrev pub ended : ℕ → List Entry → Bool
ended t g = ends_in is_end (of t g)

pub ends_either : (es : List Entry) (a b : Bool) → fold (λ x e. is_end e) (a || b) es ≡ (fold (λ x e. is_commit e) a es || fold (λ x e. is_abort e) b es)
ends_either [] a b = refl
ends_either (e ∷ es) a b = ends_either es (is_commit e) (is_abort e)

pub is_open-ended : (t : ℕ) (g : List Entry) → is_open t g ≡ not (ended t g)
is_open-ended t g = ap not (sym (ends_either (of t g) false false))

-- If the transaction of a line has not ended, the line's caller is in that transaction.
abbrev pub IsOwned : List Entry → Line → Type 0
IsOwned g line = (t : ℕ) → line.txn ≡ Some t → ended t g ≡ false → txn_in g (caller_of line.entry) ≡ Some t

pub record Callers (g : List Entry) : Type 0 where
  pub numbers : (c t : ℕ) → txn_in g c ≡ Some t → t ≤ how_many is_began g
  pub ended_numbers : (t : ℕ) → ended t g ≡ true → t ≤ how_many is_began g
  pub one : (c d t : ℕ) → txn_in g c ≡ Some t → txn_in g d ≡ Some t → c ≡ d
  pub closed : (c t : ℕ) → txn_in g c ≡ Some t → ended t g ≡ true → stance_after (own c g) ≡ Some closed_stance
  pub running : (c t : ℕ) → txn_in g c ≡ Some t → ended t g ≡ false → is_running (stance_after (own c g)) ≡ true
  pub owned : AllByRecursion (IsOwned g) (lines_of g)

pub callers_none : Callers []
callers_none = record {
  numbers = λ c t is. absurd (cc (is));
  ended_numbers = λ t is. absurd (false≢true is);
  one = λ c d t is js. absurd (cc (is));
  closed = λ c t is js. refl;
  running = λ c t is js. absurd (cc (is));
  owned = tt;
}

-- `t` is the transaction of an entry that follows `g`. If the entry is a `Began`, `t` is the
-- transaction that it begins. Otherwise `t` is the transaction that the entry's caller is in after
-- `g`.
abbrev pub IsIn : List Entry → Entry → ℕ → Type 0
IsIn g (Began c u) t = u ≡ t
IsIn g e t = txn_in g (caller_of e) ≡ Some t

pub some_same : (a b : ℕ) → Some a ≡ Some b → a ≡ b
some_same a b is = cc (is)

pub at_is : (g : List Entry) (e : Entry) (t : ℕ) → txn_at g e ≡ Some t → IsIn g e t
at_is g (Began c u) t is = some_same u t (subst (λ b. cond b (Some u) (txn_in g c) ≡ Some t) (eq-eqb c c refl) is)
at_is g _ t is = is

-- If caller `x` is in transaction `t` after an entry, there are two cases. Either the entry is by
-- `x` and belongs to `t`, or it is by another caller and `x` was in `t` before.
pub after_is : (g : List Entry) (e : Entry) (x t : ℕ) → txn_after (txn_in g) e x ≡ Some t → ((x ≡ caller_of e) × (txn_at g e ≡ Some t)) ⊎ ((x ≡ caller_of e → ⊥) × (txn_in g x ≡ Some t))
after_is g e x t is = elim (cases_eq x (caller_of e)) [
  | inl same ↦ inl (same, subst (λ y. txn_after (txn_in g) e y ≡ Some t) same is)
  | inr other ↦ inr (other, from e other is)
]
  where
    from : (f : Entry) → (x ≡ caller_of f → ⊥) → txn_after (txn_in g) f x ≡ Some t → txn_in g x ≡ Some t
    from (Began c u) other got = subst (λ b. cond b (Some u) (txn_in g x) ≡ Some t) (ne_eqb c x (λ k. other (sym k))) got
    from _ other got = got

-- The only entry that a closed caller may add is a `Began`.
pub closed_begins : (e : Entry) → is_some (row closed_stance closed_stance.phase e) ≡ true → is_began e ≡ true
closed_begins (Began c t) h = refl
closed_begins _ h = absurd (false≢true h)

pub began_number : (g : List Entry) (e : Entry) (t : ℕ) → is_began e ≡ true → is_numbered g e ≡ true → IsIn g e t → t ≡ how_many is_began g + 1
began_number g (Began c u) t b n is = sym is ∙ eqb-true u (how_many is_began g + 1) n
began_number g _ t b n is = absurd (false≢true b)

pub not_began_is : (g : List Entry) (e : Entry) (t : ℕ) → is_began e ≡ false → IsIn g e t → txn_in g (caller_of e) ≡ Some t
not_began_is g (Began c u) t b is = absurd (false≢true (sym b))
not_began_is g _ t b is = is

pub in_or_out : (o : Option ℕ) (t : ℕ) → (o ≡ Some t) ⊎ (o ≡ Some t → ⊥)
in_or_out None t = inr (λ is. cc (is))
in_or_out (Some u) t = elim (cases_eq u t) [ inl same ↦ inl (ap Some same) | inr other ↦ inr (λ is. other (some_same u t is)) ]

pub more : (g : List Entry) (e : Entry) → how_many is_began g ≤ how_many is_began (g ++ e ∷ [])
more g e = omega (arith, how_many-push is_began g e)

pub shaped_stance : (g : List Entry) (e : Entry) → is_shaped g e ≡ true → is_some (option_and_then (λ s. row s s.phase e) (stance_after (own (caller_of e) g))) ≡ true
shaped_stance g e is =
    let both = and_parts (is_some (stance_after (own (caller_of e) (g ++ e ∷ [])))) (is_numbered g e) is in
    subst (λ s. is_some s ≡ true) (ap stance_after (own-push_in (caller_of e) g e refl) ∙ stance_after-push (own (caller_of e) g) e) both.0

pub shaped_number : (g : List Entry) (e : Entry) → is_shaped g e ≡ true → is_numbered g e ≡ true
shaped_number g e is = (and_parts (is_some (stance_after (own (caller_of e) (g ++ e ∷ [])))) (is_numbered g e) is).1

pub began_or_not : (e : Entry) → (is_began e ≡ true) ⊎ (is_began e ≡ false)
began_or_not (Began c t) = inl refl
began_or_not _ = inr refl

-- If an entry has the right shape, the number of its transaction is at most the number of Began
-- entries up to this entry.
pub number_in : (g : List Entry) (e : Entry) (t : ℕ) → Callers g → is_shaped g e ≡ true → txn_at g e ≡ Some t → t ≤ how_many is_began (g ++ e ∷ [])
number_in g e t callers shaped at = elim (began_or_not e) [
  | inl b ↦
      let n = began_number g e t b (shaped_number g e shaped) (at_is g e t at) in
      let p : how_many is_began (g ++ e ∷ []) ≡ how_many is_began g + 1 = how_many-push is_began g e ∙ ap (λ a. how_many is_began g + cond a 1 0) b in
      omega arith
  | inr b ↦ let n = callers.numbers (caller_of e) t (not_began_is g e t b (at_is g e t at)) in omega (arith, more g e)
]

-- A transaction has no entry after its end.
pub not_after_end : (g : List Entry) (e : Entry) (t : ℕ) → Callers g → is_shaped g e ≡ true → ended t g ≡ true → txn_at g e ≡ Some t → ⊥
not_after_end g e t callers shaped done at = elim (began_or_not e) [
  | inl b ↦
      let n = began_number g e t b (shaped_number g e shaped) (at_is g e t at) in
      let m = callers.ended_numbers t done in
      omega arith
  | inr b ↦
      let stance = callers.closed (caller_of e) t (not_began_is g e t b (at_is g e t at)) done in
      let some : is_some (row closed_stance closed_stance.phase e) ≡ true = subst (λ s. is_some (option_and_then (λ s. row s s.phase e) s) ≡ true) stance (shaped_stance g e shaped) in
      false≢true (sym b ∙ closed_begins e some)
]

pub end_not_began : (e : Entry) → is_end e ≡ true → is_began e ≡ false
end_not_began (Began c t) h = absurd (false≢true h)
end_not_began _ h = refl

-- The entries `Committed` and `Aborted` close their caller. No other entry closes a caller.
pub end_closes : (e : Entry) (o : Option Stance) → is_end e ≡ true → is_some (option_and_then (λ s. row s s.phase e) o) ≡ true → option_and_then (λ s. row s s.phase e) o ≡ Some closed_stance
end_closes e None c h = absurd (false≢true h)
end_closes e (Some s) c h = at e s.phase c h
  where
    at : (f : Entry) (q : Phase) → is_end f ≡ true → is_some (row s q f) ≡ true → row s q f ≡ Some closed_stance
    at (Committed x p) Opened c h = refl
    at (Committed x p) _ c h = absurd (false≢true h)
    at (Aborted x) LeavingToEnd c h =
        (elim (s.standing == 0) as (λ b. is_some (cond b (Some closed_stance) None) ≡ true → cond b (Some closed_stance) None ≡ Some closed_stance) [ true ↦ λ k. refl | false ↦ λ k. absurd (false≢true k) ]) h
    at (Aborted x) _ c h = absurd (false≢true h)
    at _ q c h = absurd (false≢true c)

runs_if : (b : Bool) (s : Stance) → runs s.phase ≡ true → is_some (cond b (Some s) None) ≡ true → is_running (cond b (Some s) None) ≡ true
runs_if true s r h = r
runs_if false s r h = absurd (false≢true h)

runs_still : (s q : Phase) → s ≡ q → runs q ≡ true → runs s ≡ true
runs_still s q is r = ap runs is ∙ r

pub other_runs : (e : Entry) (o : Option Stance) → is_end e ≡ false → is_some (option_and_then (λ s. row s s.phase e) o) ≡ true → is_running (option_and_then (λ s. row s s.phase e) o) ≡ true
other_runs e None c h = absurd (false≢true h)
other_runs e (Some s) c h = at e s.phase refl c h
  where
    at : (f : Entry) (q : Phase) → s.phase ≡ q → is_end f ≡ false → is_some (row s q f) ≡ true → is_running (row s q f) ≡ true
    at (Committed x p) q is c h = absurd (false≢true (sym c))
    at (Aborted x) q is c h = absurd (false≢true (sym c))
    at (Began x t) Closed is c h = refl
    at (Asked x op) Opened is c h = refl
    at (Busy x op y) Opened is c h = refl
    at (Saved x) Opened is c h = runs_still s.phase Opened is refl
    at (Leave x None) Opened is c h = refl
    at (Leave x (Some n)) Opened is c h = runs_if (nat_lt n (length s.kept)) (record s { phase = LeavingTo n }) refl h
    at (Did x r) (Waiting op) is c h = refl
    at (Leave x None) (Waiting op) is c h = refl
    at (Undone x) (LeavingTo n) is c h = runs_if (nat_lt (slice_index s.kept n) s.standing) (record s { standing = s.standing - 1 }) (runs_still s.phase (LeavingTo n) is refl) h
    at (Returned x m) (LeavingTo n) is c h = runs_if ((n == m) && (slice_index s.kept n == s.standing)) (record s { phase = Opened; kept = take (n + 1) s.kept }) refl h
    at (Undone x) LeavingToEnd is c h = runs_if (nat_lt 0 s.standing) (record s { standing = s.standing - 1 }) (runs_still s.phase LeavingToEnd is refl) h
    at _ q is c h = absurd (false≢true h)

-- Only a closed caller may begin a transaction.
pub began_was_closed : (e : Entry) (o : Option Stance) → is_began e ≡ true → is_some (option_and_then (λ s. row s s.phase e) o) ≡ true → is_running o ≡ false
began_was_closed e None b h = refl
began_was_closed e (Some s) b h = at e s.phase b h
  where
    at : (f : Entry) (q : Phase) → is_began f ≡ true → is_some (row s q f) ≡ true → runs q ≡ false
    at (Began x t) Closed b h = refl
    at (Began x t) _ b h = absurd (false≢true h)
    at _ q b h = absurd (false≢true b)

pub not_equal : (a b : ℕ) → (a ≡ b → ⊥) → (b == a) ≡ false
not_equal a b h = ne_eqb b a (λ k. h (sym k))

-- A caller stays in its transaction until it begins another.
pub txn_stays : (g : List Entry) (e : Entry) (x t : ℕ) → (is_began e ≡ true → x ≡ caller_of e → ⊥) → txn_in g x ≡ Some t → txn_in (g ++ e ∷ []) x ≡ Some t
txn_stays g e x t other is = ap (λ f. f x) (txn_in-push g e) ∙ at e other
  where
    at : (f : Entry) → (is_began f ≡ true → x ≡ caller_of f → ⊥) → txn_after (txn_in g) f x ≡ Some t
    at (Began c u) other = subst (λ b. cond b (Some u) (txn_in g x) ≡ Some t) (sym (not_equal x c (other refl))) is
    at _ other = is

pub ByRecursion-append : {X : Type 0} (P Q : X → Type 0) → ((x : X) → P x → Q x) → (xs ys : List X) → AllByRecursion P xs → AllByRecursion Q ys → AllByRecursion Q (xs ++ ys)
ByRecursion-append P Q to [] ys ps qs = qs
ByRecursion-append P Q to (x ∷ xs) ys ps qs = (to x ps.0, ByRecursion-append P Q to xs ys ps.1 qs)
