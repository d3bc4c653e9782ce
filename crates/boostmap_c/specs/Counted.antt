-- How C gets the counts of a caller.
use Rattle.std.specs.Prelude.{◌≡◌, ℕ, Option, Some, None}
use Rattle.boostmap_c.specs.declared.counts.Counts.{Counts}
use Rattle.boostmap_c.specs.declared.member.Member.{Member}
use Rattle.boostmap_c.specs.Replies.{done, empty_handle}

-- C gets the counts of the caller's member, which is unchanged.
abbrev pub TellsCounts : Option Member → ℕ → Counts → Counts → Option Member → Type 0
TellsCounts (Some old) status before after (Some new) =
    (new ≡ old) × (status ≡ done) × (after ≡ old.counts)
TellsCounts None status before after None = (status ≡ empty_handle) × (after ≡ before)
TellsCounts old status before after new = ⊥
