-- What a transaction needs and leaves at one key.
use Rattle.std.proofs.Common.{◌≡◌, ℕ, Bool, true, false, Option, Some, None, refl, ap, sym, ◌∙◌, subst}
use Rattle.std.specs.Option.{IfSome, option_eq}
use Rattle.std.specs.Prelude.{nat_eq}
use Rattle.std.proofs.lemmas.Bool.{false≢true}
use mathlib.Core.Logic.{◌⊎◌, inl, inr}
use Rattle.txn_trace.proofs.Now.{same_option, same_is}
use Rattle.order_check.specs.Footprints.{Cell, Footprint, Values, Meets, value_seen, leaves}
use Rattle.order_check.specs.Dependencies.{Needs, Writes, Replaces}

-- Two options of numbers are equal, or they are not.
pub cases_option : (a b : Option ℕ) → (a ≡ b) ⊎ (a ≡ b → ⊥)
cases_option a b = at (option_eq nat_eq b a) refl
  where
    at : (t : Bool) → option_eq nat_eq b a ≡ t → (a ≡ b) ⊎ (a ≡ b → ⊥)
    at true is = inl (sym (same_option b a is))
    at false is = inr (λ same. false≢true (sym is ∙ same_is b a (sym same)))

-- A transaction that runs finds the value that its cell needs.
pub found : (footprint : Footprint) (vs : Values) (k : ℕ) (cell : Cell) → Meets footprint vs → footprint k ≡ Some cell → vs k ≡ cell.need
found footprint vs k cell meets there = subst (λ o. IfSome o (λ (c : Cell). vs k ≡ c.need)) there (meets k)

pub left_is : (footprint : Footprint) (vs : Values) (k : ℕ) (cell : Cell) → footprint k ≡ Some cell → leaves footprint vs k ≡ cell.now
left_is footprint vs k cell there = ap (value_seen (vs k)) there

pub same_left : (footprint : Footprint) (vs : Values) (k : ℕ) → footprint k ≡ None → leaves footprint vs k ≡ vs k
same_left footprint vs k none = ap (value_seen (vs k)) none

pub met : (footprint : Footprint) (vs : Values) (k : ℕ) (v : Option ℕ) → Meets footprint vs → Needs footprint k v → vs k ≡ v
met footprint vs k v meets needs = found footprint vs k needs.cell meets needs.there ∙ needs.need_is

-- If a key has the value `v` after a transaction but not before it, the transaction writes `v`.
pub wrote : (footprint : Footprint) (vs : Values) (k : ℕ) (v : Option ℕ) → Meets footprint vs → (vs k ≡ v → ⊥) → leaves footprint vs k ≡ v → Writes footprint k v
wrote footprint vs k v meets other now = at (footprint k) refl
  where
    at : (o : Option Cell) → footprint k ≡ o → Writes footprint k v
    at None is = absurd (other (sym (same_left footprint vs k is) ∙ now))
    at (Some cell) is = record {
      cell = cell;
      there = is;
      now_is = sym (left_is footprint vs k cell is) ∙ now;
      changed = λ same. other (found footprint vs k cell meets is ∙ same);
    }

-- After a transaction that replaces `v`, the key has another value.
pub replaced : (footprint : Footprint) (vs : Values) (k : ℕ) (v : Option ℕ) → Replaces footprint k v → leaves footprint vs k ≡ v → ⊥
replaced footprint vs k v replaces now = replaces.changed (sym (left_is footprint vs k replaces.cell replaces.there) ∙ now)

pub needs_replaced : (footprint : Footprint) (k : ℕ) (v : Option ℕ) → Replaces footprint k v → Needs footprint k v
needs_replaced footprint k v replaces = record { cell = replaces.cell; there = replaces.there; need_is = replaces.need_is }
