-- The texts of refusals.
use Rattle.std.specs.Prelude.{ℕ, List, codes}
use Rattle.bucket_table.specs.declared.answer.InitRefusal.{InitRefusal}
use Rattle.bucket_table.specs.declared.answer.InitRefusal.TheVariants.{NoSuchBucket, ParentMissing, NoSuchHelper, HelperOutOfOrder, NoMemory, StampsUsedUp}

-- The text of a refusal.
abbrev pub refusal_text : InitRefusal → List ℕ
refusal_text NoSuchBucket = codes "the bucket is not below the size"
refusal_text ParentMissing = codes "the bucket's parent is not stored"
refusal_text NoSuchHelper = codes "there is no such helper"
refusal_text HelperOutOfOrder = codes "the helper has no cursor to link at, or no dummy to store"
refusal_text NoMemory = codes "no memory for the dummy or for its bucket's segment"
refusal_text StampsUsedUp = codes "the list has no stamp left for the dummy"
