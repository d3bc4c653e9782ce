-- The effect of one more entry on the committed transactions and on the map that they leave.
use Rattle.std.proofs.Common.{◌≡◌, ℕ, ◌==◌, Bool, true, false, cond, ◌||◌, List, [], ◌∷◌, ◌++◌, refl, ap, sym, subst, ◌∙◌, Some, None, Option, append_assoc}
use Rattle.std.specs.Option.{option_and_then}
use Rattle.std.specs.List.{filter, filter_map, cons_option, fold, list_any, AllByRecursion}
use Rattle.std.proofs.lemmas.Bool.{false≢true, eq-eqb, or_left, or_right}
use Rattle.std.proofs.lemmas.List.{append-nil}
use Rattle.std.proofs.lemmas.List.Elements.{filter_map-append}
use Rattle.std.proofs.lemmas.List.Sums.{fold-append}
use mathlib.Core.Logic.{inl, inr}
use Rattle.txn_words.specs.declared.entry.Entry.{Entry}
use Rattle.txn_words.specs.declared.entry.Entry.TheVariants.{Committed}
use Rattle.txn_words.specs.Map.{Map, empty}
use Rattle.txn_trace.specs.History.{Line, lines_of, of, txns_of, ends_in, is_committed, commits}
use Rattle.txn_words.specs.Kinds.{caller_of, is_began, is_commit}
use Rattle.txn_trace.specs.Alone.{AloneRun, act, alone, last_map, map_after}
use Rattle.txn_trace.specs.Serial.{serial}
use Rattle.txn_words.specs.Shape.{is_shaped, IsShaped}
use Rattle.txn_trace.proofs.Lists.{fold_filter}
use Rattle.txn_trace.proofs.Pushes.{txn_in, txn_at, lines_of-push, txn_in-push, of-push_in, ends_in-push, alone-push}
use Rattle.txn_trace.proofs.Callers.{Callers, callers_none, after_is, began_or_not, not_began_is, at_is, ByRecursion-append}
use Rattle.txn_trace.proofs.Shaped.{callers_push, ended_stays, committed_ended}

abbrev pub AreCommitted : List Entry → List ℕ → Type 0
AreCommitted g ts = AllByRecursion (λ t. is_committed t g ≡ true) ts

pub filter_all : {X : Type 0} (p : X → Bool) (xs : List X) → AllByRecursion (λ x. p x ≡ true) xs → filter p xs ≡ xs
filter_all p [] all = refl
filter_all p (x ∷ xs) all = ap (λ b. cond b (x ∷ filter p xs) (filter p xs)) all.0 ∙ ap (λ ys. x ∷ ys) (filter_all p xs all.1)

-- If one more entry passes the test, `txns_of` gets the entry's transaction as its last element.
-- Otherwise `txns_of` is unchanged.
pub txns_of-push : (test : Entry → Bool) (g : List Entry) (e : Entry) → txns_of test (g ++ e ∷ []) ≡ txns_of test g ++ cons_option (cond (test e) (txn_at g e) None) []
txns_of-push test g e =
    let f : Line → Option ℕ = λ l. cond (test l.entry) l.txn None in
    ap (filter_map f) (lines_of-push g e) ∙ filter_map-append f (lines_of g) _

committed_push : (g : List Entry) (e : Entry) → Callers g → is_shaped g e ≡ true → AreCommitted g (txns_of is_commit g) → AreCommitted (g ++ e ∷ []) (txns_of is_commit (g ++ e ∷ []))
committed_push g e callers shaped all =
    subst (AreCommitted (g ++ e ∷ [])) (sym (txns_of-push is_commit g e))
    (ByRecursion-append (λ t. is_committed t g ≡ true) (λ t. is_committed t (g ++ e ∷ []) ≡ true)
    (λ t is. ap (ends_in is_commit) (ended_stays g e callers shaped t (committed_ended t g is)) ∙ is)
    (txns_of is_commit g) _ all (last (is_commit e) refl (txn_at g e) refl))
  where
    last : (b : Bool) → is_commit e ≡ b → (o : Option ℕ) → txn_at g e ≡ o → AreCommitted (g ++ e ∷ []) (cons_option (cond b o None) [])
    last false is o at = tt
    last true is None at = tt
    last true is (Some t) at = (ap (ends_in is_commit) (of-push_in t g e at) ∙ ends_in-push is_commit (of t g) e ∙ is, tt)

committed_all : (g rest : List Entry) → Callers g → AreCommitted g (txns_of is_commit g) → IsShaped (g ++ rest) → AreCommitted (g ++ rest) (txns_of is_commit (g ++ rest))
committed_all g [] callers all shape = subst (λ h. AreCommitted h (txns_of is_commit h)) (sym (append-nil g)) all
committed_all g (e ∷ rest) callers all shape =
    let shaped = shape g e (rest, append_assoc g (e ∷ []) rest) in
    subst (λ h. AreCommitted h (txns_of is_commit h)) (append_assoc g (e ∷ []) rest)
    (committed_all (g ++ e ∷ []) rest (callers_push g e callers shaped) (committed_push g e callers shaped all) (subst IsShaped (sym (append_assoc g (e ∷ []) rest)) shape))

pub are_committed : (g : List Entry) → IsShaped g → AreCommitted g (txns_of is_commit g)
are_committed g shape = committed_all [] g callers_none tt shape

-- In a history of the right shape, `commits` lists the transactions of all Committed entries.
pub commits_are : (g : List Entry) → IsShaped g → commits g ≡ txns_of is_commit g
commits_are g shape = filter_all (λ t. is_committed t g) (txns_of is_commit g) (are_committed g shape)

module _ (g : List Entry) (e : Entry) (callers : Callers g) (shape : IsShaped g) (shaped : is_shaped g e ≡ true) (shape_after : IsShaped (g ++ e ∷ [])) where
  commits-push : commits (g ++ e ∷ []) ≡ commits g ++ cons_option (cond (is_commit e) (txn_at g e) None) []
  commits-push = commits_are (g ++ e ∷ []) shape_after ∙ txns_of-push is_commit g e ∙ ap (λ ts. ts ++ cons_option (cond (is_commit e) (txn_at g e) None) []) (sym (commits_are g shape))

  -- One more entry does not change the map that the earlier commits leave.
  same_fold : fold (λ m t. map_after m (of t (g ++ e ∷ []))) empty (commits g) ≡ serial g
  same_fold = fold_filter (λ t. is_committed t g) (λ m t. map_after m (of t (g ++ e ∷ []))) (λ m t. map_after m (of t g))
      (λ m t is. ap (map_after m) (ended_stays g e callers shaped t (committed_ended t g is))) empty (txns_of is_commit g)

  -- An entry that commits nothing leaves the committed map unchanged.
  pub serial-push_other : is_commit e ≡ false → serial (g ++ e ∷ []) ≡ serial g
  serial-push_other is =
      ap (fold (λ m t. map_after m (of t (g ++ e ∷ []))) empty) (commits-push ∙ ap (λ b. commits g ++ cons_option (cond b (txn_at g e) None) []) is ∙ append-nil (commits g))
      ∙ same_fold

  -- Let a transaction commit. The new committed map is the last map of this transaction if it runs
  -- alone on the old committed map.
  pub serial-push_commit : (t : ℕ) → is_commit e ≡ true → txn_at g e ≡ Some t → serial (g ++ e ∷ []) ≡ map_after (serial g) (of t (g ++ e ∷ []))
  serial-push_commit t is at =
      let f : Map → ℕ → Map = λ m t. map_after m (of t (g ++ e ∷ [])) in
      ap (fold f empty) (commits-push ∙ ap (λ b. commits g ++ cons_option (cond b (txn_at g e) None) []) is ∙ ap (λ o. commits g ++ cons_option o []) at)
      ∙ fold-append f empty (commits g) (t ∷ [])
      ∙ ap (λ m. f m t) same_fold

same_run : (e : Entry) → is_commit e ≡ true → (o : Option AloneRun) → option_and_then (λ r. act r e) o ≡ o
same_run (Committed c p) is None = refl
same_run (Committed c p) is (Some r) = refl
same_run _ is o = absurd (false≢true is)

-- The Committed entry itself changes no map.
pub map_after-commit : (m : Map) (es : List Entry) (e : Entry) → is_commit e ≡ true → map_after m (es ++ e ∷ []) ≡ map_after m es
map_after-commit m es e is = ap (last_map m) (alone-push m es e ∙ same_run e is (alone m es))

abbrev pub IsListed : List Entry → Type 0
IsListed g = (c t : ℕ) → txn_in g c ≡ Some t → list_any (λ u. u == t) (txns_of is_began g) ≡ true

pub any-append_left : (p : ℕ → Bool) (xs ys : List ℕ) → list_any p xs ≡ true → list_any p (xs ++ ys) ≡ true
any-append_left p [] ys is = absurd (false≢true is)
any-append_left p (x ∷ xs) ys is = (elim (p x) as (λ b. (b || list_any p xs) ≡ true → (b || list_any p (xs ++ ys)) ≡ true) [ true ↦ λ k. refl | false ↦ λ k. any-append_left p xs ys k ]) is

any-append_last : (p : ℕ → Bool) (xs : List ℕ) (y : ℕ) → p y ≡ true → list_any p (xs ++ y ∷ []) ≡ true
any-append_last p [] y is = or_left (p y) false is
any-append_last p (x ∷ xs) y is = or_right (p x) (list_any p (xs ++ y ∷ [])) (any-append_last p xs y is)

-- If a caller is in a transaction, this transaction has a Began entry.
pub listed_push : (g : List Entry) (e : Entry) → IsListed g → IsListed (g ++ e ∷ [])
listed_push g e listed c t is =
    subst (λ ts. list_any (λ u. u == t) ts ≡ true) (sym (txns_of-push is_began g e))
    (elim (after_is g e c t (subst (λ f. f c ≡ Some t) (txn_in-push g e) is)) [
      | inr w ↦ any-append_left (λ u. u == t) (txns_of is_began g) _ (listed c t w.1)
      | inl w ↦ elim (began_or_not e) [
        | inl b ↦
            ap (λ x. list_any (λ u. u == t) (txns_of is_began g ++ cons_option (cond x (txn_at g e) None) [])) b
            ∙ ap (λ o. list_any (λ u. u == t) (txns_of is_began g ++ cons_option o [])) w.1
            ∙ any-append_last (λ u. u == t) (txns_of is_began g) t (eq-eqb t t refl)
        | inr b ↦ any-append_left (λ u. u == t) (txns_of is_began g) _ (listed (caller_of e) t (not_began_is g e t b (at_is g e t w.1)))
      ]
    ])

pub listed_all : (g rest : List Entry) → IsListed g → IsListed (g ++ rest)
listed_all g [] listed = subst IsListed (sym (append-nil g)) listed
listed_all g (e ∷ rest) listed = subst IsListed (append_assoc g (e ∷ []) rest) (listed_all (g ++ e ∷ []) rest (listed_push g e listed))

pub are_listed : (g : List Entry) → IsListed g
are_listed g = listed_all [] g (λ c t is. absurd (cc (is)))
