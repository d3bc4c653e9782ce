-- A helper's path from bucket 0 to a bucket, step by step.
use Prim.Native.Nat.{zero, suc}
use Rattle.std.proofs.Common.{◌≡◌, ◌≢◌, ℕ, ◌+◌, ◌-◌, ◌^◌, ◌<◌, ◌≤◌, ◌==◌, if◌then◌else◌, refl, ap, sym, ◌∙◌, arith, eq-eqb, pow-suc, inl, inr}
use Rattle.std.proofs.lemmas.Bool.{cases_lt, ne_eqb}
use Rattle.std.proofs.lemmas.Bool.Decides.{eqb_tells, leb_tells}
use Rattle.std.proofs.lemmas.Nat.{pow_pos}
use Rattle.std.proofs.Math.Nat.{pow-le-pow_right}
use Rattle.split_key.specs.Split.{parent_of, highest_cleared, ancestor_of, IsAncestor}
use Rattle.txn_drive.specs.Ways.{child_within, child_towards}

-- Bucket 0 is its own parent.
pub parent_of-zero : parent_of 0 ≡ 0
unfolding parent_of highest_cleared
parent_of-zero = refl

-- One round of the search for the bucket that follows `last` on a path. If the present bucket's
-- parent is `last`, the present bucket is the result. Otherwise the search continues at the parent,
-- with one round less.
pub child_within-step : (taken last bucket : ℕ) → taken < 32
    → child_within (32 - taken) last bucket ≡ (if parent_of bucket == last then bucket else child_within (32 - (taken + 1)) last (parent_of bucket))
unfolding child_within
child_within-step taken last bucket less =
    let one_more : 32 - taken ≡ suc (32 - (taken + 1)) = omega arith in
    ap (λ steps. child_within steps last bucket) one_more

pub child_within-zero : (last bucket : ℕ) → child_within 0 last bucket ≡ bucket
unfolding child_within
child_within-zero last bucket = refl

pub child_towards-is : (last bucket : ℕ) → child_towards last bucket ≡ child_within 32 last bucket
unfolding child_towards
child_towards-is last bucket = refl

pub child_within-found : (taken last bucket : ℕ) → taken < 32 → parent_of bucket ≡ last → child_within (32 - taken) last bucket ≡ bucket
child_within-found taken last bucket less is =
    child_within-step taken last bucket less ∙ ap (λ b. if b then bucket else child_within (32 - (taken + 1)) last (parent_of bucket)) (eq-eqb (parent_of bucket) last is)

pub child_within-missed : (taken last bucket : ℕ) → taken < 32 → (parent_of bucket ≡ last → ⊥) → child_within (32 - taken) last bucket ≡ child_within (32 - (taken + 1)) last (parent_of bucket)
child_within-missed taken last bucket less differs =
    child_within-step taken last bucket less ∙ ap (λ b. if b then bucket else child_within (32 - (taken + 1)) last (parent_of bucket)) (ne_eqb (parent_of bucket) last differs)

-- If the highest 1 bit of a number is cleared, the result is not larger than the number.
highest_cleared-le : (width number : ℕ) → highest_cleared width number ≤ number
unfolding highest_cleared
highest_cleared-le zero number = omega arith
highest_cleared-le (suc width) number =
    elim (leb_tells (2 ^ width) number) [
      | inl over ↦ rw (over.0) (omega arith)
      | inr under ↦ rw (under.0) (highest_cleared-le width number)
    ]

highest_cleared-below : (width bit number : ℕ) → number < 2 ^ width → number < 2 ^ suc bit → highest_cleared width number < 2 ^ bit
unfolding highest_cleared
highest_cleared-below zero bit number small below = omega (arith, pow_pos bit)
highest_cleared-below (suc width) bit number small below =
    elim (leb_tells (2 ^ width) number) [
      | inl over ↦
          elim (cases_lt width bit) [
            | inl less ↦ let power : 2 ^ width ≤ 2 ^ bit = pow-le-pow_right {n = 2} (omega arith) (omega arith) in rw (over.0) (omega (arith, pow-suc 2 width))
            | inr more ↦ let power : 2 ^ bit ≤ 2 ^ width = pow-le-pow_right {n = 2} (omega arith) more in rw (over.0) (omega (arith, pow-suc 2 bit, pow_pos bit))
          ]
      | inr under ↦ rw (under.0) (highest_cleared-below width bit number (omega arith) below)
    ]

parent_of-le : (bucket : ℕ) → parent_of bucket ≤ bucket
unfolding parent_of
parent_of-le bucket = highest_cleared-le 32 bucket

parent_of-below : (bit bucket : ℕ) → bucket < 2 ^ 32 → bucket < 2 ^ suc bit → parent_of bucket < 2 ^ bit
unfolding parent_of
parent_of-below bit bucket small below = highest_cleared-below 32 bit bucket small below

-- Going up `steps + 1` steps from a bucket leads to the same ancestor as going up `steps` steps
-- from its parent.
ancestor_of-parent_of : (steps bucket : ℕ) → ancestor_of (suc steps) bucket ≡ ancestor_of steps (parent_of bucket)
unfolding ancestor_of
ancestor_of-parent_of zero bucket = refl
ancestor_of-parent_of (suc steps) bucket = ap parent_of (ancestor_of-parent_of steps bucket)

-- Bucket 0 is an ancestor of each bucket.
ancestor_of-root : (steps bucket : ℕ) → bucket < 2 ^ 32 → bucket < 2 ^ steps → ancestor_of steps bucket ≡ 0
unfolding ancestor_of
ancestor_of-root zero bucket small below = omega arith
ancestor_of-root (suc steps) bucket small below =
    let le = parent_of-le bucket in
    ancestor_of-parent_of steps bucket ∙ ancestor_of-root steps (parent_of bucket) (omega arith) (parent_of-below steps bucket small below)

pub IsAncestor-root : (bucket : ℕ) → bucket < 2 ^ 32 → IsAncestor 0 bucket
IsAncestor-root bucket small = record { steps = 32; reached = sym (ancestor_of-root 32 bucket small small) }

-- An ancestor other than the bucket itself is 1 to 32 steps away.
ancestor_steps : (last bucket : ℕ) → bucket < 2 ^ 32 → IsAncestor last bucket → last ≢ bucket → (steps : ℕ) × (steps < 32) × (ancestor_of (suc steps) bucket ≡ last)
unfolding ancestor_of
ancestor_steps last bucket small is other = counted is.steps is.reached
  where
    counted : (steps : ℕ) → last ≡ ancestor_of steps bucket → (steps : ℕ) × (steps < 32) × (ancestor_of (suc steps) bucket ≡ last)
    counted zero same = absurd (other same)
    counted (suc steps) same =
        elim (cases_lt steps 32) [
          | inl less ↦ (steps, less, sym same)
          | inr more ↦
              let power : 2 ^ 32 ≤ 2 ^ suc steps = pow-le-pow_right {n = 2} (omega arith) {i = 32} (omega arith) in
              let far = ancestor_of-root (suc steps) bucket small (omega arith) in
              (31, omega arith, ancestor_of-root 32 bucket small small ∙ sym (same ∙ far))
        ]

child_within-child : (rounds last bucket steps : ℕ) → steps < rounds → ancestor_of (suc steps) bucket ≡ last → parent_of (child_within rounds last bucket) ≡ last
unfolding child_within ancestor_of
child_within-child zero last bucket steps less is = absurd (omega arith)
child_within-child (suc rounds) last bucket zero less is = rw (eq-eqb (parent_of bucket) last is) is
child_within-child (suc rounds) last bucket (suc steps) less is =
    elim (eqb_tells (parent_of bucket) last) [
      | inl found ↦ rw (found.0) (found.1)
      | inr missed ↦ rw (missed.0) (child_within-child rounds last (parent_of bucket) steps (omega arith) (sym (ancestor_of-parent_of (suc steps) bucket) ∙ is))
    ]

child_within-ancestor : (rounds last bucket : ℕ) → IsAncestor (child_within rounds last bucket) bucket
unfolding child_within ancestor_of
child_within-ancestor zero last bucket = record { steps = 0; reached = refl }
child_within-ancestor (suc rounds) last bucket =
    elim (eqb_tells (parent_of bucket) last) [
      | inl found ↦ rw (found.0) (record { steps = 0; reached = refl })
      | inr missed ↦
          let rest = child_within-ancestor rounds last (parent_of bucket) in
          rw (missed.0) (record { steps = suc rest.steps; reached = rest.reached ∙ sym (ancestor_of-parent_of rest.steps bucket) })
    ]

child_within-le : (rounds last bucket : ℕ) → child_within rounds last bucket ≤ bucket
unfolding child_within
child_within-le zero last bucket = omega arith
child_within-le (suc rounds) last bucket =
    elim (eqb_tells (parent_of bucket) last) [
      | inl found ↦ rw (found.0) (omega arith)
      | inr missed ↦ rw (missed.0) (let le = parent_of-le bucket in let rest = child_within-le rounds last (parent_of bucket) in omega arith)
    ]

pub parent_of-child_towards : (last bucket : ℕ) → bucket < 2 ^ 32 → IsAncestor last bucket → last ≢ bucket → parent_of (child_towards last bucket) ≡ last
unfolding child_towards
parent_of-child_towards last bucket small is other =
    let there = ancestor_steps last bucket small is other in
    child_within-child 32 last bucket (there.0) (there.1) (there.2)

pub IsAncestor-child_towards : (last bucket : ℕ) → IsAncestor (child_towards last bucket) bucket
unfolding child_towards
IsAncestor-child_towards last bucket = child_within-ancestor 32 last bucket

pub child_towards-le : (last bucket : ℕ) → child_towards last bucket ≤ bucket
unfolding child_towards
child_towards-le last bucket = child_within-le 32 last bucket
