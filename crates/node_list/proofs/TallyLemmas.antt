-- The marked nodes of a list, and their counts.
use Rattle.std.proofs.Common.{◌≡◌, ◌≢◌, ℕ, ◌+◌, ◌*◌, ◌^◌, ◌<◌, inl, inr, List, [], ◌∷◌, Option, Some, None, Bool, true, false, refl, sym, ◌∙◌, ap, arith, cond, ◌&&◌, ◌==◌, IfSome, IsSomeAnd, if◌then◌else◌}
use Rattle.std.proofs.lemmas.Bool.{cases_lt}
use Rattle.std.proofs.lemmas.Bool.Decides.{eqb_tells}
use Rattle.std.specs.List.{AllByRecursion}
use Rattle.split_key.proofs.SortLemmas.{split_before}
use Rattle.node_list.specs.Nodes.{NodeAt, node_of, next_of, IsLinked, linked_after, unlinked_after, marked_at, written_at, count_where}
use Rattle.node_list.specs.Order.{IsNodeBefore, IsRising}
use Rattle.node_list.specs.Tally.{TallyAt, IsTallied, IsFirstCounted, AreMarksFrom, count_in, first_marked, is_marked_in, one_in, region_of}
use Rattle.node_list.proofs.CountLemmas.{gain, count-linked, count-unlinked, count-changed}

unmarked_gain : (region : ℕ) (n : NodeAt) → n.marked ≡ false → gain (is_marked_in region) n ≡ 0
unmarked_gain region n unmarked = rw unmarked refl

marked_gain : (region : ℕ) (n : NodeAt) → n.marked ≡ true → gain (is_marked_in region) n ≡ one_in n.at.split region
marked_gain region n marked = rw marked refl

-- For a split key and its own region, `one_in` is 1.
one_here : (split : ℕ) → one_in split (region_of split) ≡ 1
one_here split = elim (eqb_tells (region_of split) (region_of split)) [
  | inl here ↦ rw here.0 refl
  | inr apart ↦ absurd (apart.1 refl)
]

-- If all counts are 0, they are right for a list of one unmarked node.
pub tallied_new : (t : TallyAt) (nodes : List NodeAt) (n : NodeAt) → ((region : ℕ) → count_in t region ≡ 0) → n.marked ≡ false → nodes ≡ n ∷ [] → IsTallied t nodes
unfolding count_where
tallied_new t nodes n none unmarked is region = rw is (omega (arith, none region, unmarked_gain region n unmarked))

-- If the nodes are unchanged, the tally's counts are still right.
pub tallied_same : (t : TallyAt) (old new : List NodeAt) → new ≡ old → IsTallied t old → IsTallied t new
tallied_same t old new same is = rw same is

-- If an unmarked node is linked, the tally's counts are still right.
pub tallied_linked : (t : TallyAt) (old new : List NodeAt) (pred : ℕ) (x : NodeAt) → IsTallied t old → IsLinked old pred → x.marked ≡ false → new ≡ linked_after old pred x → IsTallied t new
tallied_linked t old new pred x is linked unmarked new_is region =
    let more = count-linked (is_marked_in region) old pred x linked in
    rw new_is (omega (arith, is region, more, unmarked_gain region x unmarked))

-- If a node gets another value, the tally's counts are still right.
pub tallied_written : (t : TallyAt) (old new : List NodeAt) (place value : ℕ) (n : NodeAt) → IsTallied t old → node_of old place ≡ Some n → new ≡ written_at old place value → IsTallied t new
tallied_written t old new place value n is found new_is region =
    let now = count-changed (is_marked_in region) old place (λ m. record m { value = value }) n found in
    let same : gain (is_marked_in region) n ≡ gain (is_marked_in region) (record n { value = value }) = refl in
    rw new_is (omega (arith, is region, now, same))

-- If a node is marked and the count of its region rises by one, the counts are still right.
pub tallied_marked : (t u : TallyAt) (old new : List NodeAt) (place : ℕ) (n : NodeAt) → IsTallied t old → node_of old place ≡ Some n → n.marked ≡ false → ((region : ℕ) → count_in u region ≡ count_in t region + one_in n.at.split region) → new ≡ marked_at old place → IsTallied u new
tallied_marked t u old new place n is found unmarked added new_is region =
    let now = count-changed (is_marked_in region) old place (λ m. record m { marked = true }) n found in
    let one = marked_gain region (record n { marked = true }) refl in
    rw new_is (omega (arith, added region, is region, now, one, unmarked_gain region n unmarked))

module _ (t : TallyAt) (old : List NodeAt) (pred split : ℕ) (m : NodeAt) (is : IsTallied t old) (next : next_of old pred ≡ Some m) (marked : m.marked ≡ true) (split_is : m.at.split ≡ split) where
  one_of : (region : ℕ) → gain (is_marked_in region) m ≡ one_in split region
  one_of region = marked_gain region m marked ∙ ap (λ s. one_in s region) split_is

  -- If a marked node is unlinked and the count of its region falls by one, the counts are still
  -- right.
  pub tallied_unlinked : (u : TallyAt) (new : List NodeAt) → ((region : ℕ) → count_in u region + one_in split region ≡ count_in t region) → new ≡ unlinked_after old pred → IsTallied u new
  tallied_unlinked u new removed new_is region =
      let now = count-unlinked (is_marked_in region) old pred m next in
      rw new_is (omega (arith, removed region, is region, now, one_of region))

  -- The count of a marked node's region is not 0.
  pub tallied_some : count_in t (region_of split) ≢ 0
  tallied_some none =
      let now = count-unlinked (is_marked_in (region_of split)) old pred m next in
      omega (arith, none, is (region_of split), now, one_of (region_of split), one_here split)

-- If no region below `low` has a marked node, every marked node is in region `low` or above.
none_below : (low : ℕ) (nodes : List NodeAt) → ((region : ℕ) → region < low → count_where (is_marked_in region) nodes ≡ 0) → AreMarksFrom (low * 2 ^ 52) nodes
unfolding count_where
none_below low [] none = tt
none_below low (n ∷ rest) none = (
  λ marked. elim (cases_lt (region_of n.at.split) low) [
    | inl less ↦
        let here = none (region_of n.at.split) less in
        absurd (omega (arith, here, marked_gain (region_of n.at.split) n marked, one_here n.at.split))
    | inr more ↦ omega (arith, more)
  ],
  none_below low rest (λ region less. let both = none region less in omega (arith, both)),
)

-- A marked node of a region has a split key below the region's end.
gain_near : (region : ℕ) (n : NodeAt) → gain (is_marked_in region) n ≢ 0 → n.at.split < (region + 1) * 2 ^ 52
gain_near region n some = elim (eqb_tells (region_of n.at.split) region) [
  | inl here ↦ omega (arith, here.1)
  | inr apart ↦ absurd (some (none n.marked apart.0))
]
  where
    none : (b : Bool) → (region_of n.at.split == region) ≡ false → cond {A = ℕ} (b && region_of n.at.split == region) 1 0 ≡ 0
    none true other = rw other refl
    none false other = refl

-- If a node after `n` is marked and in a region, the split key of `n` is below the region's end.
before_near : (region : ℕ) (n : NodeAt) (rest : List NodeAt) → AllByRecursion (IsNodeBefore n) rest → count_where (is_marked_in region) rest ≢ 0 → n.at.split < (region + 1) * 2 ^ 52
unfolding count_where
before_near region n [] behind some = absurd (some refl)
before_near region n (m ∷ rest) behind some = elim (cases_lt 0 (gain (is_marked_in region) m)) [
  | inl here ↦ omega (arith, split_before n.at m.at behind.0, gain_near region m (λ none. omega (arith, here, none)))
  | inr none ↦ before_near region n rest behind.1 (λ nothing. some (omega (arith, none, nothing)))
]

-- If some node of a region is marked, the first marked node has a split key below the region's end.
first_near : (region : ℕ) (nodes : List NodeAt) → IsRising nodes → count_where (is_marked_in region) nodes ≢ 0 → IsSomeAnd (first_marked nodes) (λ n. n.at.split < (region + 1) * 2 ^ 52)
unfolding count_where first_marked IsRising
first_near region [] rising some = absurd (some refl)
first_near region (n ∷ rest) rising some = go (first_near region rest rising.1) n.marked refl
  where
    here : n.marked ≡ true → n.at.split < (region + 1) * 2 ^ 52
    here marked = elim (cases_lt 0 (gain (is_marked_in region) n)) [
      | inl one ↦ gain_near region n (λ none. omega (arith, one, none))
      | inr none ↦ before_near region n rest rising.0 (λ nothing. some (omega (arith, none, nothing)))
    ]

    go : (count_where (is_marked_in region) rest ≢ 0 → IsSomeAnd (first_marked rest) (λ m. m.at.split < (region + 1) * 2 ^ 52)) → (b : Bool) → n.marked ≡ b → IsSomeAnd (if b then Some n else first_marked rest) (λ m. m.at.split < (region + 1) * 2 ^ 52)
    go later true marked = here marked
    go later false unmarked = later (λ nothing. some (omega (arith, unmarked_gain region n unmarked, nothing)))

-- Each marked node is in the first region whose count is not 0, or in a later region.
pub marks_from : (t : TallyAt) (nodes : List NodeAt) (split : ℕ) → IsTallied t nodes → IsFirstCounted t split → AreMarksFrom split nodes
marks_from t nodes split is first = rw first.is (none_below first.region nodes (λ region less. sym (is region) ∙ first.none_before region less))

pub marks_near : (t : TallyAt) (nodes : List NodeAt) (split : ℕ) → IsTallied t nodes → IsRising nodes → IsFirstCounted t split → IsSomeAnd (first_marked nodes) (λ n. n.at.split < split + 2 ^ 52)
marks_near t nodes split is rising first =
    let end : split + 2 ^ 52 ≡ (first.region + 1) * 2 ^ 52 = omega (arith, first.is) in
    rw end (first_near first.region nodes rising (λ none. first.some (is first.region ∙ none)))

-- If `P` implies `Q` and `P` holds for the number in an option, `Q` holds for this number.
pub if_some : (P Q : ℕ → Type 0) (o : Option ℕ) → ((x : ℕ) → P x → Q x) → IfSome o P → IfSome o Q
if_some P Q None each is = tt
if_some P Q (Some x) each is = each x is
