-- The effect of an operation: only a change alters the map, and only at the operation's key.
use Rattle.std.proofs.Common.{◌≡◌, ℕ, ◌==◌, ◌≢◌, true, false, cond, refl, ap, sym, subst, ◌∙◌, Some, None}
use Rattle.std.specs.Prelude.{nat_eq}
use Rattle.std.specs.Option.{option_eq}
use Rattle.std.proofs.lemmas.Bool.{false≢true, cases_eq, eq-eqb, ne_eqb}
use mathlib.Core.Logic.{inl, inr}
use Rattle.txn_words.specs.declared.op.Op.{Op}
use Rattle.txn_words.specs.declared.op.Op.TheVariants.{Put, Take, Get, PutIf}
use Rattle.txn_words.specs.Map.{Map, get, insert, remove, after, reply_of, key_of, is_change}
use Rattle.txn_words.specs.Shape.{changes}
use Rattle.txn_words.proofs.Maps.{same_map, none_is, get-insert, get-remove}

-- If `is_change` is false for an operation on a map, the operation leaves the map unchanged.
pub after_unchanged : (m : Map) (op : Op) → is_change m op ≡ false → after m op ≡ m
after_unchanged m (Put k v) h = absurd (false≢true (sym h))
after_unchanged m (Take k) h = same_map (remove m k) m (λ q. get-remove m k q ∙ at q)
  where
    at : (q : ℕ) → cond (q == k) None (get m q) ≡ get m q
    at q = elim (cases_eq q k) [
      | inl same ↦ ap (λ b. cond b None (get m q)) (eq-eqb q k same) ∙ sym (ap (get m) same ∙ none_is (get m k) h)
      | inr other ↦ ap (λ b. cond b None (get m q)) (ne_eqb q k other)
    ]
after_unchanged m (Get k) h = refl
after_unchanged m (PutIf k expected v) h = ap (λ b. cond b (insert m k v) m) h

-- An operation leaves the value at every key but its own unchanged.
pub get-after_other : (m : Map) (op : Op) (q : ℕ) → q ≢ key_of op → get (after m op) q ≡ get m q
get-after_other m (Put k v) q other = get-insert m k v q ∙ ap (λ b. cond b (Some v) (get m q)) (ne_eqb q k other)
get-after_other m (Take k) q other = get-remove m k q ∙ ap (λ b. cond b None (get m q)) (ne_eqb q k other)
get-after_other m (Get k) q other = refl
get-after_other m (PutIf k expected v) q other =
    elim (option_eq nat_eq (get m k) expected) as (λ b. get (cond b (insert m k v) m) q ≡ get m q) [
      | true ↦ get-insert m k v q ∙ ap (λ b. cond b (Some v) (get m q)) (ne_eqb q k other)
      | false ↦ refl
    ]

-- If two maps agree at the key `q` and at the operation's key, they agree at `q` after the
-- operation.
pub get-after_same : (m n : Map) (op : Op) (q : ℕ) → get m q ≡ get n q → get m (key_of op) ≡ get n (key_of op) → get (after m op) q ≡ get (after n op) q
get-after_same m n (Put k v) q same at = get-insert m k v q ∙ ap (cond (q == k) (Some v)) same ∙ sym (get-insert n k v q)
get-after_same m n (Take k) q same at = get-remove m k q ∙ ap (cond (q == k) None) same ∙ sym (get-remove n k q)
get-after_same m n (Get k) q same at = same
get-after_same m n (PutIf k expected v) q same at =
    subst (λ c. get (cond (option_eq nat_eq (get m k) expected) (insert m k v) m) q ≡ get (cond c (insert n k v) n) q) (ap (λ o. option_eq nat_eq o expected) at)
    (elim (option_eq nat_eq (get m k) expected) as (λ b. get (cond b (insert m k v) m) q ≡ get (cond b (insert n k v) n) q) [
      | true ↦ get-insert m k v q ∙ ap (cond (q == k) (Some v)) same ∙ sym (get-insert n k v q)
      | false ↦ same
    ])

-- If an operation gets the reply that the map gives, `changes` and `is_change` agree.
pub changes-reply : (m : Map) (op : Op) → changes op (reply_of m op) ≡ is_change m op
changes-reply m (Put k v) = refl
changes-reply m (Take k) = refl
changes-reply m (Get k) = refl
changes-reply m (PutIf k expected v) = refl
