-- The options of a striped map, as words that C writes and gets.
use Rattle.std.specs.Prelude.{◌≡◌, ℕ, nat_eq, nat_le, Bool, true, false, List, length, slice_get, Option, Some, None, unwrap_or, if◌then◌else◌}
use Rattle.txn_words.specs.declared.refusal.Refusal.TheVariants.{Limit}
use Rattle.striped_map.specs.declared.keep.Keep.{Keep}
use Rattle.striped_map.specs.declared.keep.Keep.TheVariants as keeps
use Rattle.striped_map.specs.declared.open.Opening.{Opening}
use Rattle.boostmap_c.specs.declared.member.Member.{Member}
use Rattle.boostmap_c.specs.Members.{Opens}
use Rattle.boostmap_c.specs.Replies.{done, empty_handle, full, refused}

-- The word with this index, or 0 if there are fewer words.
abbrev pub word_at : List ℕ → ℕ → ℕ
word_at words index = unwrap_or (slice_get words index) 0

-- A word, or the default if the word is 0.
abbrev pub or_default : ℕ → ℕ → ℕ
or_default word default = if nat_eq word 0 then default else word

-- A map is opened with the options that the words give, unless there are more words than options.
abbrev pub OpensIf : Bool → Option Member → List ℕ → ℕ → ℕ → ℕ → Option Member → Type 0
OpensIf true old words status before after new =
    Opens old (or_default (word_at words 0) 1) (or_default (word_at words 1) 1024) (word_at words 2)
    (word_at words 3) (word_at words 4) status before after new
OpensIf false None words status before after new =
    (status ≡ refused Limit) × (after ≡ before) × (new ≡ None)
OpensIf false (Some old) words status before after new =
    (status ≡ full) × (after ≡ before) × (new ≡ Some old)

abbrev pub OpensBy : Option Member → List ℕ → ℕ → ℕ → ℕ → Option Member → Type 0
OpensBy old words status before after new =
    OpensIf (nat_le (length words) 5) old words status before after new

-- The number in C of what a map keeps.
abbrev pub number_of_keep : Keep → ℕ
number_of_keep keeps.Nothing = 0
number_of_keep keeps.Commits = 1
number_of_keep keeps.Entries = 2

-- The option with this number, if there is one.
abbrev pub option_at : Opening → ℕ → Option ℕ
option_at opening option =
    if nat_eq option 0 then Some opening.callers
    else (if nat_eq option 1 then Some opening.stripes
    else (if nat_eq option 2 then Some opening.keys
    else (if nat_eq option 3 then Some (number_of_keep opening.keep)
    else (if nat_eq option 4 then Some opening.seed else None))))

-- The word is the option, if there is one.
abbrev pub TellsIf : Option ℕ → ℕ → ℕ → ℕ → Type 0
TellsIf None status before after = (status ≡ refused Limit) × (after ≡ before)
TellsIf (Some value) status before after = (status ≡ done) × (after ≡ value)

-- The option with this number is told to C. The member is unchanged.
abbrev pub TellsOption : ℕ → Option Member → ℕ → ℕ → ℕ → Option Member → Type 0
TellsOption option (Some old) status before after (Some new) =
    (new ≡ old) × TellsIf (option_at old.group.opening option) status before after
TellsOption option None status before after None = (status ≡ empty_handle) × (after ≡ before)
TellsOption option old status before after new = ⊥
