-- The effect of a tally's calls on its counts.
use Rattle.std.proofs.Common.{◌≡◌, ◌≢◌, ℕ, ◌+◌, ◌*◌, ◌/◌, ◌%◌, ◌^◌, ◌<◌, ◌≤◌, inl, inr, List, length, replicate, sym, ◌∙◌, ap, arith, get_or, set, get_or-set_other}
use Rattle.std.proofs.lemmas.Bool.{cases_lt}
use Rattle.std.proofs.lemmas.Bool.Decides.{eqb_tells}
use Rattle.std.proofs.lemmas.List.{get_or-set_same, get_or-replicate, get_or_past, length-set, length-replicate}
use Rattle.node_list.specs.Tally.{IsSummed, IsFirstOfRun, IsFirstCounted, one_in, region_of, run_sum}
use Rattle.node_list.proofs.RunLemmas.{count_in_run, run_of_zeros, run_elsewhere, run_changed}

-- The region of each split key is below 64 * 64.
pub region_within : (split : ℕ) → split < 2 ^ 64 → region_of split < 64 * 64
region_within split fits = omega arith

-- Each count in a list of zeros is 0, even past the end of the list.
pub zero_at : (many place : ℕ) → get_or {A = ℕ} (replicate many 0) place 0 ≡ 0
zero_at many place = elim (cases_lt place many) [
  | inl less ↦ get_or-replicate many place 0 0 less
  | inr past ↦ get_or_past (replicate many 0) place 0 (rw (length-replicate {A = ℕ} many 0) past)
]

pub nothing_summed : IsSummed 0 (replicate 64 0) (replicate (64 * 64) 0)
nothing_summed = record {
  groups_in = length-replicate {A = ℕ} 64 0;
  regions_in = length-replicate {A = ℕ} (64 * 64) 0;
  by_group = λ group small. zero_at 64 group ∙ sym (run_of_zeros (replicate (64 * 64) 0) (group * 64) 64 (λ place after before. zero_at (64 * 64) place));
  in_all = sym (run_of_zeros (replicate 64 0) 0 64 (λ place after before. zero_at 64 place));
}

-- If the count of a split key's region is raised by one, the counts of all other regions are
-- unchanged.
pub one_more_in : (counts : List ℕ) (split : ℕ) → region_of split < length counts → (region : ℕ) → get_or (set counts (region_of split) (get_or counts (region_of split) 0 + 1)) region 0 ≡ get_or counts region 0 + one_in split region
one_more_in counts split within region = elim (eqb_tells (region_of split) region) [
  | inl here ↦ rw (here.0, ← here.1) (get_or-set_same counts (region_of split) _ 0 within)
  | inr apart ↦ rw apart.0 (get_or-set_other counts (region_of split) region _ 0 (λ same. apart.1 (sym same)) ∙ omega arith)
]

pub one_less_in : (counts : List ℕ) (split less : ℕ) → region_of split < length counts → less + 1 ≡ get_or counts (region_of split) 0 → (region : ℕ) → get_or (set counts (region_of split) less) region 0 + one_in split region ≡ get_or counts region 0
one_less_in counts split less within fewer region = elim (eqb_tells (region_of split) region) [
  | inl here ↦ rw (here.0, ← here.1) (omega (arith, fewer, get_or-set_same counts (region_of split) less 0 within))
  | inr apart ↦ rw apart.0 (omega (arith, get_or-set_other counts (region_of split) region less 0 (λ same. apart.1 (sym same))))
]

module _ (total : ℕ) (groups regions : List ℕ) (is : IsSummed total groups regions) where
  module _ (region : ℕ) (small : region < 64 * 64) where
    -- The list of regions has a count for the region, and the list of groups has a count for the
    -- region's group.
    pub region_there : region < length regions
    region_there = omega (arith, is.regions_in, small)

    pub group_there : region / 64 < length groups
    group_there = omega (arith, is.groups_in, small)

    -- The count of a region is at most the count of its group, and the count of a group is at most
    -- the total.
    pub region_fits : get_or regions region 0 ≤ get_or groups (region / 64) 0
    region_fits = omega (arith, is.by_group (region / 64) (omega (arith, small)), count_in_run regions (region / 64 * 64) 64 region (omega arith) (omega arith))

    pub group_fits : get_or groups (region / 64) 0 ≤ total
    group_fits = omega (arith, is.in_all, count_in_run groups 0 64 (region / 64) (omega arith) (omega (arith, small)))

    -- If the count of a region, the count of its group and the total change by the same amount,
    -- `IsSummed` still holds.
    pub summed : (in_region in_group in_total less more : ℕ) → in_region + less ≡ get_or regions region 0 + more → in_group + less ≡ get_or groups (region / 64) 0 + more → in_total + less ≡ total + more → IsSummed in_total (set groups (region / 64) in_group) (set regions region in_region)
    summed in_region in_group in_total less more region_is group_is total_is = record {
      groups_in = length-set groups (region / 64) in_group ∙ is.groups_in;
      regions_in = length-set regions region in_region ∙ is.regions_in;
      by_group = each;
      in_all = omega (arith, is.in_all, total_is, group_is, run_changed groups 0 64 (region / 64) in_group group_there (omega arith) (omega (arith, small)));
    }
      where
        each : (group : ℕ) → group < 64 → get_or (set groups (region / 64) in_group) group 0 ≡ run_sum (set regions region in_region) (group * 64) 64
        each group within = elim (eqb_tells group (region / 64)) [
          | inl here ↦
              let now = run_changed regions (group * 64) 64 region in_region region_there (omega (arith, here.1)) (omega (arith, here.1)) in
              let set_there : get_or (set groups (region / 64) in_group) group 0 ≡ in_group = ap (λ k. get_or (set groups (region / 64) in_group) k 0) here.1 ∙ get_or-set_same groups (region / 64) in_group 0 group_there in
              let was_there : get_or groups group 0 ≡ get_or groups (region / 64) 0 = ap (λ k. get_or groups k 0) here.1 in
              omega (arith, now, set_there, was_there, region_is, group_is, is.by_group group within)
          | inr apart ↦
              let same = run_elsewhere regions (group * 64) 64 region in_region (λ other after before here. apart.1 (omega (arith, after, before, here))) in
              get_or-set_other groups (region / 64) group in_group 0 apart.1 ∙ is.by_group group within ∙ sym same
        ]

  -- If the total is not 0, the sum of the counts of all groups is not 0.
  pub some_group : total ≢ 0 → run_sum groups 0 64 ≢ 0
  some_group some none = some (is.in_all ∙ none)

  module _ (group : ℕ) (first : IsFirstOfRun groups 0 group) where
    pub some_region : run_sum regions (group * 64) 64 ≢ 0
    some_region none = first.some (is.by_group group (omega (arith, first.within)) ∙ none)

    pub first_counted : (region : ℕ) → IsFirstOfRun regions (group * 64) region → IsFirstCounted (record { total = total; counts = regions }) (region * 2 ^ 52 % 2 ^ 64)
    first_counted region found = record {
      region = region;
      is = omega (arith, found.within, first.within);
      some = found.some;
      none_before = none;
    }
      where
        none : (other : ℕ) → other < region → get_or regions other 0 ≡ 0
        none other before = elim (cases_lt other (group * 64)) [
          | inl less ↦
              let nothing = first.none_before (other / 64) (omega arith) (omega (arith, less)) in
              omega (arith, nothing, region_fits other (omega (arith, less, first.within)))
          | inr after ↦ found.none_before other after before
        ]
