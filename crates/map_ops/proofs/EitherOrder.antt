-- The changes of two jobs with different keys can be taken back in either order.
use Rattle.std.proofs.Common.{◌≡◌, ◌≢◌, ℕ, inl, inr, Bool, true, false, cond, Option, Some, None, refl, sym, ap, ◌∙◌}
use Rattle.std.specs.Prelude.{◌==◌, is_some}
use Rattle.map_ops.specs.Vocabulary.{Map, get, set_at}
use Rattle.map_ops.proofs.Vocabulary.{cases_eq, eq-eqb, get-set_at, ne_eqb, same_map}
use Rattle.map_ops.specs.declared.job.MapJob.{MapJob}
use Rattle.map_ops.specs.declared.job.MapJob.TheVariants.{Unput, Restore, Relink}
use Rattle.map_ops.specs.TableAt.{TableAt, SpareAt, content, KeepsSpares, spare_out}
use Rattle.map_ops.specs.Jobs.{key_of_job, spare_of_job, value_before}
use Rattle.map_ops.specs.Changes.{AreApart, OwnsIf, ShowsAfter, Spends, TakesBack}
use Rattle.map_ops.specs.Laws.{TakesBackTwo}
use Rattle.map_ops.proofs.Laws.{still_owned, other_owned}

get-set_at-other : (m : Map) (j k : ℕ) (value : Option ℕ) → j ≢ k → get (set_at m j value) k ≡ get m k
get-set_at-other m j k value apart = get-set_at m j value k ∙ ap (λ b. cond b value (get m k)) (ne_eqb k j (λ same. apart (sym same)))

-- Two different keys may be set in either order.
set_at-swap : (m : Map) (j k : ℕ) (x y : Option ℕ) → j ≢ k → set_at (set_at m j x) k y ≡ set_at (set_at m k y) j x
set_at-swap m j k x y apart = same_map (set_at (set_at m j x) k y) (set_at (set_at m k y) j x) (λ q. one q ∙ swapped q ∙ sym (other q))
  where
    one : (q : ℕ) → get (set_at (set_at m j x) k y) q ≡ cond (q == k) y (cond (q == j) x (get m q))
    one q = get-set_at (set_at m j x) k y q ∙ ap (cond (q == k) y) (get-set_at m j x q)

    other : (q : ℕ) → get (set_at (set_at m k y) j x) q ≡ cond (q == j) x (cond (q == k) y (get m q))
    other q = get-set_at (set_at m k y) j x q ∙ ap (cond (q == j) x) (get-set_at m k y q)

    swapped : (q : ℕ) → cond (q == k) y (cond (q == j) x (get m q)) ≡ cond (q == j) x (cond (q == k) y (get m q))
    swapped q = elim (cases_eq q k) [
      | inl same ↦
          let is : (q == k) ≡ true = eq-eqb q k same in
          let not : (q == j) ≡ false = ne_eqb q j (λ there. apart (sym there ∙ same)) in
          ap (λ b. cond b y (cond (q == j) x (get m q))) is ∙ sym (ap (λ b. cond b x (cond (q == k) y (get m q))) not ∙ ap (λ b. cond b y (get m q)) is)
      | inr differs ↦
          let not : (q == k) ≡ false = ne_eqb q k differs in
          ap (λ b. cond b y (cond (q == j) x (get m q))) not ∙ sym (ap (λ b. cond (q == j) x (cond b y (get m q))) not)
    ]

-- If the changes of two jobs with different keys are taken back, both orders give the same content.
pub either-content : (old one other : TableAt) (first second : MapJob) → key_of_job first ≢ key_of_job second → TakesBackTwo old one first second → TakesBackTwo old other second first → content one ≡ content other
either-content old one other first second apart a b =
    a.two.content_is
    ∙ ap (λ (m : Map). set_at m (key_of_job second) (value_before second)) a.one.content_is
    ∙ set_at-swap (content old) (key_of_job first) (key_of_job second) (value_before first) (value_before second) apart
    ∙ sym (b.two.content_is ∙ ap (λ (m : Map). set_at m (key_of_job first) (value_before first)) b.one.content_is)

-- True if there is a spare and it is at this place.
abbrev is_at : Option SpareAt → ℕ → Bool
is_at None place = false
is_at (Some spare) place = place == spare.place

spent-at : (old new : TableAt) (spare : Option SpareAt) (place : ℕ) → Spends old new spare → spare_out new place ≡ cond (is_at spare place) None (spare_out old place)
spent-at old new None place spends = spends place
spent-at old new (Some spare) place spends = elim (cases_eq place spare.place) [
  | inl same ↦ ap (spare_out new) same ∙ spends.0 ∙ sym (ap (λ b. cond b None (spare_out old place)) (eq-eqb place spare.place same))
  | inr other ↦ spends.1 place other ∙ sym (ap (λ b. cond b None (spare_out old place)) (ne_eqb place spare.place other))
]

either_none : (b c : Bool) (out : Option ℕ) → cond b None (cond c None out) ≡ cond c None (cond b None out)
either_none true true out = refl
either_none true false out = refl
either_none false true out = refl
either_none false false out = refl

-- If the changes of two jobs are taken back, both orders leave the same spares given out.
pub either-spares : (old one other : TableAt) (first second : MapJob) → TakesBackTwo old one first second → TakesBackTwo old other second first → KeepsSpares other one
either-spares old one other first second a b place =
    let j = is_at (spare_of_job first) place in
    let k = is_at (spare_of_job second) place in
    spent-at a.between one (spare_of_job second) place a.two.spares
    ∙ ap (cond k None) (spent-at old a.between (spare_of_job first) place a.one.spares)
    ∙ either_none k j (spare_out old place)
    ∙ sym (spent-at b.between other (spare_of_job first) place b.two.spares ∙ ap (cond j None) (spent-at old b.between (spare_of_job second) place b.one.spares))

-- A spare still belongs to the table after a spare at another place is spent.
spent_owned : (old new : TableAt) (spent : Option SpareAt) (spare : SpareAt) → AreApart spent (Some spare) → Spends old new spent → OwnsIf old (Some spare) → OwnsIf new (Some spare)
spent_owned old new None spare apart spends owned = still_owned old new spare spends owned
spent_owned old new (Some gone) spare apart spends owned = other_owned old new spare gone.place spends.1 (λ same. apart (sym same)) owned

-- If `ShowsAfter` holds for a job, it still holds after the change of another job is taken back.
-- The two jobs must have different keys, and their spares must have different places.
pub either_due : (old new : TableAt) (first second : MapJob) → key_of_job first ≢ key_of_job second → AreApart (spare_of_job first) (spare_of_job second) → ShowsAfter second old → TakesBack old new first → ShowsAfter second new
either_due old new first second apart spares shows back = go second apart spares shows
  where
    kept : (k : ℕ) → key_of_job first ≢ k → get (content new) k ≡ get (content old) k
    kept k differs = ap (λ (m : Map). get m k) back.content_is ∙ get-set_at-other (content old) (key_of_job first) k (value_before first) differs

    go : (job : MapJob) → key_of_job first ≢ key_of_job job → AreApart (spare_of_job first) (spare_of_job job) → ShowsAfter job old → ShowsAfter job new
    go (Unput k) differs away was = (ap is_some (kept k differs) ∙ was.0, tt)
    go (Restore k before) differs away was = (ap is_some (kept k differs) ∙ was.0, tt)
    go (Relink k before spare) differs away was = (kept k differs ∙ was.0, spent_owned old new (spare_of_job first) spare away back.spares was.1)
