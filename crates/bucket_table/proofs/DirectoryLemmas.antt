-- The changes of a `Directory` that keep it sound.
use Prim.Native.Nat.{zero, suc}
use Rattle.std.proofs.Common.{◌≡◌, ◌≢◌, ℕ, ◌+◌, ◌*◌, ◌-◌, ◌^◌, ◌<◌, ◌≤◌, inl, inr, List, Option, Some, None, true, All, replicate, is_some, refl, sym, ◌∙◌, ap, subst, arith, get_or, pow-suc, length-set}
use Rattle.std.proofs.Math.Nat.{pow-le-pow_right}
use Rattle.std.proofs.lemmas.Bool.{cases_eq, cases_lt}
use Rattle.std.proofs.lemmas.List.{get_or-set_same, get_or-set_other, length-replicate}
use Rattle.std.proofs.lemmas.List.Elements.{All-set, All-weaker, All-replicate, All-get_or}
use Rattle.std.proofs.lemmas.Option.{slice_get_within, get_or_from_slice_get}
use Rattle.std.specs.List.{slice_get}
use Rattle.split_key.specs.Split.{parent_of, IsPowerOfTwo}
use Rattle.bucket_table.specs.declared.helper.Helper.{Helper}
use Rattle.bucket_table.specs.declared.helper.Helper.TheVariants.{Idle, Seeking, Holding}
use Rattle.bucket_table.specs.Directory.{Directory, dummy_of, is_stored, limit_of, with_helper, with_dummy, with_size, beginning, MayBeStored, IsReadyHelper, IsSound}

-- If a statement is true for all helpers, it is true for the helper with a given number.
pub helper_found : (P : Helper → Type 0) (helpers : List Helper) (number : ℕ) (helper : Helper) → All P helpers → slice_get helpers number ≡ Some helper → P helper
helper_found P helpers number helper each is =
    subst P (get_or_from_slice_get helpers number helper helper is) (All-get_or P helpers number helper (slice_get_within helpers number helper is) each)

-- If the size does not fall and each stored bucket stays stored, then `MayBeStored` still holds for
-- each bucket for which it held.
pub ready_kept : (old new : Directory) → old.size ≤ new.size → ((bucket : ℕ) → is_stored old bucket ≡ true → is_stored new bucket ≡ true) → (bucket : ℕ) → MayBeStored old bucket → MayBeStored new bucket
ready_kept old new more kept bucket ready = record {
  within = omega (arith, ready.within);
  above = ready.above;
  parent = kept (parent_of bucket) ready.parent;
}

in_order_kept : (old new : Directory) → old.size ≤ new.size → ((bucket : ℕ) → is_stored old bucket ≡ true → is_stored new bucket ≡ true) → (helper : Helper) → IsReadyHelper old helper → IsReadyHelper new helper
in_order_kept old new more kept Idle order = tt
in_order_kept old new more kept (Seeking bucket cursor) order = ready_kept old new more kept bucket order
in_order_kept old new more kept (Holding bucket dummy) order = ready_kept old new more kept bucket order

pub sound_with_helper : (d : Directory) (helper : ℕ) (now : Helper) → IsSound d → IsReadyHelper d now → IsSound (with_helper d helper now)
sound_with_helper d helper now sound order = record {
  size = sound.size;
  limit = sound.limit;
  least = sound.least;
  most = sound.most;
  fits = sound.fits;
  first = sound.first;
  within = sound.within;
  parents = sound.parents;
  helpers =
      let new = with_helper d helper now in
      let kept = in_order_kept d new (omega arith) (λ bucket stored. stored) in
      All-set (IsReadyHelper new) d.helpers helper now (kept now order) (All-weaker (IsReadyHelper d) (IsReadyHelper new) kept d.helpers sound.helpers);
}

-- If a bucket is stored, `is_stored` is true for it, and the dummies of all other buckets are
-- unchanged.
pub stored_here : (d : Directory) (bucket place : ℕ) → bucket < limit_of d → is_stored (with_dummy d bucket place) bucket ≡ true
stored_here d bucket place within = ap is_some (get_or-set_same d.entries bucket (Some place) None within)

pub stored_elsewhere : (d : Directory) (bucket place other : ℕ) → other ≢ bucket → dummy_of (with_dummy d bucket place) other ≡ dummy_of d other
stored_elsewhere d bucket place other apart = get_or-set_other d.entries bucket other (Some place) None apart

stored_more : (d : Directory) (bucket place : ℕ) → bucket < limit_of d → (other : ℕ) → is_stored d other ≡ true → is_stored (with_dummy d bucket place) other ≡ true
stored_more d bucket place within other stored = elim (cases_eq other bucket) [
  | inl here ↦ rw here (stored_here d bucket place within)
  | inr apart ↦ ap is_some (stored_elsewhere d bucket place other apart) ∙ stored
]

pub sound_with_dummy : (d : Directory) (bucket place : ℕ) → IsSound d → MayBeStored d bucket → IsSound (with_dummy d bucket place)
sound_with_dummy d bucket place sound ready =
    let new = with_dummy d bucket place in
    let inside : bucket < limit_of d = omega (arith, ready.within, sound.most) in
    let same_length : limit_of new ≡ limit_of d = length-set d.entries bucket (Some place) in
    let more = stored_more d bucket place inside in
    record {
      size = sound.size;
      limit = rw same_length sound.limit;
      least = sound.least;
      most = rw same_length sound.most;
      fits = rw same_length sound.fits;
      first = more 0 sound.first;
      within = λ other stored. elim (cases_eq other bucket) [
        | inl here ↦ rw here ready.within
        | inr apart ↦ sound.within other (sym (ap is_some (stored_elsewhere d bucket place other apart)) ∙ stored)
      ];
      parents = λ other above stored. elim (cases_eq other bucket) [
        | inl here ↦ rw here (more (parent_of bucket) ready.parent)
        | inr apart ↦ more (parent_of other) (sound.parents other above (sym (ap is_some (stored_elsewhere d bucket place other apart)) ∙ stored))
      ];
      helpers = All-weaker (IsReadyHelper d) (IsReadyHelper new) (in_order_kept d new (omega arith) more) d.helpers sound.helpers;
    }

power_doubled : (a : ℕ) → 2 ^ (a + 1) ≡ 2 * 2 ^ a
power_doubled a = let next : a + 1 ≡ suc a = omega arith in rw next (omega (arith, pow-suc 2 a))

-- If one power of two is less than another, then twice the smaller one is at most the greater one.
pub doubled_within : (a b : ℕ) → 2 ^ a < 2 ^ b → 2 * 2 ^ a ≤ 2 ^ b
doubled_within a b less = elim (cases_lt a b) [
  | inl below ↦ let power : 2 ^ (a + 1) ≤ 2 ^ b = pow-le-pow_right {n = 2} (omega arith) (omega arith) in
      omega (arith, power_doubled a)
  | inr above ↦ let power : 2 ^ b ≤ 2 ^ a = pow-le-pow_right {n = 2} (omega arith) above in absurd (omega arith)
]

pub double_within : (d : Directory) → IsSound d → d.size ≢ limit_of d → 2 * d.size ≤ limit_of d
double_within d sound apart =
    let a = sound.size.exponent in
    let b = sound.limit.exponent in
    let less : 2 ^ a < 2 ^ b = omega (arith, sound.most, sound.size.is, sound.limit.is) in
    omega (arith, doubled_within a b less, sound.size.is, sound.limit.is)

pub sound_with_size : (d : Directory) → IsSound d → d.size ≢ limit_of d → IsSound (with_size d (2 * d.size))
sound_with_size d sound apart =
    let new = with_size d (2 * d.size) in
    let more : d.size ≤ 2 * d.size = omega arith in
    record {
      size = record { exponent = sound.size.exponent + 1; is = ap (λ n. 2 * n) sound.size.is ∙ sym (power_doubled sound.size.exponent) };
      limit = sound.limit;
      least = omega (arith, sound.least);
      most = double_within d sound apart;
      fits = sound.fits;
      first = sound.first;
      within = λ bucket stored. let below = sound.within bucket stored in omega (arith, below);
      parents = sound.parents;
      helpers = All-weaker (IsReadyHelper d) (IsReadyHelper new) (in_order_kept d new more (λ bucket stored. stored)) d.helpers sound.helpers;
    }

none_there : (count at : ℕ) → get_or (replicate {A = Option ℕ} count None) at None ≡ None
none_there zero at = refl
none_there (suc count) zero = refl
none_there (suc count) (suc at) = none_there count at

-- At the beginning only bucket 0 is stored.
pub dummy_first : (limit helpers head bucket place : ℕ) → dummy_of (beginning limit helpers head) bucket ≡ Some place → (bucket ≡ 0) × (head ≡ place)
dummy_first limit helpers head zero place is = (refl, cc)
dummy_first limit helpers head (suc bucket) place is = absurd (cc (none_there (limit - 1) bucket))

stored_first : (limit helpers head bucket : ℕ) → is_stored (beginning limit helpers head) bucket ≡ true → bucket ≡ 0
stored_first limit helpers head zero stored = refl
stored_first limit helpers head (suc bucket) stored = absurd (cc (ap is_some (none_there (limit - 1) bucket)))

pub sound_beginning : (limit helpers head : ℕ) → IsPowerOfTwo limit → 2 ≤ limit → limit < 2 ^ 32 → IsSound (beginning limit helpers head)
sound_beginning limit helpers head power least fits =
    let d = beginning limit helpers head in
    let whole : limit_of d ≡ limit = omega (arith, length-replicate {A = Option ℕ} (limit - 1) None) in
    record {
      size = record { exponent = 1; is = refl };
      limit = rw whole power;
      least = omega arith;
      most = rw whole least;
      fits = rw whole fits;
      first = refl;
      within = λ bucket stored. let zero_is = stored_first limit helpers head bucket stored in omega (arith, zero_is);
      parents = λ bucket above stored. let zero_is = stored_first limit helpers head bucket stored in absurd (omega (arith, zero_is));
      helpers = All-replicate (IsReadyHelper d) helpers Idle tt;
    }
