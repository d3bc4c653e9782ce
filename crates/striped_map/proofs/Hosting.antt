-- The records that a host has.
use Rattle.std.proofs.Common.{◌≡◌, ◌≢◌, ℕ, zero, suc, ◌+◌, ◌-◌, ◌<◌, List, [], ◌∷◌, Option, None, Some, slice_get, get_or, set, length, replicate, sym, refl, ap, subst, ◌∙◌, arith, true, cond, eq-eqb, ne_eqb, get_or-set_same, get_or-set_other}
use Rattle.std.proofs.lemmas.Option.{same_Some}
use mathlib.Core.Logic.{dite}
use native.Mathlib.Decide.{ℕ_discrete}
use Rattle.txn_words.specs.declared.entry.Entry.{Entry}
use Rattle.striped_map.specs.Apart.{Listed}
use Rattle.striped_map.specs.declared.record.Record.{Record}
use Rattle.striped_map.specs.Steps.{marks}
use Rattle.striped_map.specs.Records.{spread}
use Rattle.striped_map.specs.Gathered.{HasRecords, is_taken}
use Rattle.striped_map.proofs.RuleSteps.{nothing_at}
use Rattle.striped_map.proofs.Merging.{Theirs}

abbrev Their : Type 0
Their = Option (Listed Record)

empty_at : (n c : ℕ) → get_or (replicate n (let p : Their = None in p)) c None ≡ None
empty_at zero c = refl
empty_at (suc n) zero = refl
empty_at (suc n) (suc c) = empty_at n c

-- No caller is merged at the start.
pub none_merged : (n : ℕ) (theirs : Theirs) → theirs ≡ replicate n None → HasRecords [] theirs
none_merged n theirs is =
    let none : (c : ℕ) → get_or theirs c None ≡ None = λ c. ap (λ (l : Theirs). get_or l c None) is ∙ empty_at n c in
    record { kept = λ j r has. absurd (nothing_at j r has); marked = λ j r has. absurd (nothing_at j r has); made = λ c some. absurd (some (none c)) }

-- One more caller is merged, with the number `number`.
module _ (retired : List (ℕ × List Entry)) (theirs : Theirs) (number : ℕ) (seen : List Entry) (records : Listed Record) (some : 0 < number) (room : number - 1 < length theirs) where
  abbrev after : Theirs
  after = set theirs (number - 1) (Some records)

  here : get_or after (number - 1) None ≡ Some records
  here = get_or-set_same theirs (number - 1) (Some records) None room

  there : (c : ℕ) → c ≢ number - 1 → get_or after c None ≡ get_or theirs c None
  there c ne = get_or-set_other theirs (number - 1) c (Some records) None (λ z. ne (omega arith))

  now_kept : ((j : ℕ) (r : ℕ × List Entry) → slice_get retired j ≡ Some r → (r.0 ≢ number) × (0 < r.0)) → HasRecords retired theirs → (j : ℕ) (r : ℕ × List Entry) → slice_get ((number, seen) ∷ retired) j ≡ Some r → get_or after (r.0 - 1) None ≢ None
  now_kept apart has zero r at = subst (λ (x : ℕ × List Entry). get_or after (x.0 - 1) None ≢ None) (same_Some _ r at) (λ none. absurd (cc (sym here ∙ none)))
  now_kept apart has (suc j) r at = λ none. let a = apart j r at in let ne : r.0 ≢ number = a.0 in let pos : 0 < r.0 = a.1 in
      has.kept j r at (sym (there (r.0 - 1) (λ e. ne (omega arith))) ∙ none)

  now_marked : ((j : ℕ) (r : ℕ × List Entry) → slice_get retired j ≡ Some r → (r.0 ≢ number) × (0 < r.0)) → marks number 0 seen ≡ spread number records.items → HasRecords retired theirs
      → (j : ℕ) (r : ℕ × List Entry) → slice_get ((number, seen) ∷ retired) j ≡ Some r → (rs : Listed Record) → get_or after (r.0 - 1) None ≡ Some rs → marks r.0 0 r.1 ≡ spread r.0 rs.items
  now_marked apart marked has zero r at rs is =
      let one = same_Some _ r at in let same : records ≡ rs = same_Some records rs (sym here ∙ ap (λ (x : ℕ × List Entry). get_or after (x.0 - 1) None) one ∙ is) in
      subst (λ (x : ℕ × List Entry). marks x.0 0 x.1 ≡ spread x.0 rs.items) one (marked ∙ ap (λ (v : Listed Record). spread number v.items) same)
  now_marked apart marked has (suc j) r at rs is = let a = apart j r at in let ne : r.0 ≢ number = a.0 in let pos : 0 < r.0 = a.1 in
      has.marked j r at rs (sym (there (r.0 - 1) (λ e. ne (omega arith))) ∙ is)

  pub one_merged : ((j : ℕ) (r : ℕ × List Entry) → slice_get retired j ≡ Some r → (r.0 ≢ number) × (0 < r.0)) → marks number 0 seen ≡ spread number records.items → HasRecords retired theirs → HasRecords ((number, seen) ∷ retired) after
  one_merged apart marked has = record {
    kept = now_kept apart has;
    marked = now_marked apart marked has;
    made = λ c there_is. dite (ℕ_discrete number (c + 1))
        (λ (e : number ≡ c + 1). ap (λ b. cond b true (is_taken (c + 1) retired)) (eq-eqb number (c + 1) e))
        (λ ne. ap (λ b. cond b true (is_taken (c + 1) retired)) (ne_eqb number (c + 1) ne) ∙ has.made c (λ none. there_is (there c (λ e. ne (omega arith)) ∙ none)));
  }
