-- The result of reading a map for C.
use Rattle.std.specs.Prelude.{◌≡◌, ◌<◌, ◌⊎◌, ℕ, zero, suc, List, length, map, take, drop, Option, Some, None, Result, Ok, Err, Vec}
use Rattle.std.specs.Global.{Global}
use Rattle.txn_words.specs.declared.refusal.Refusal.TheVariants.{NoMemory}
use Rattle.txn_words.specs.declared.stop.Stop.{Stop}
use Rattle.txn_trace.specs.Now.{now}
use Rattle.txn_words.specs.Ordered.{ordered}
use Rattle.boostmap_c.specs.declared.held_map.HeldMap.{HeldMap}
use Rattle.boostmap_c.specs.declared.read.CPair.{CPair}
use Rattle.boostmap_c.specs.Replies.{empty_handle, short, refused}
use Rattle.boostmap_c.specs.Stops.{status_of_stop, word_of_stop}

abbrev pub c_pair_of : ℕ × ℕ → CPair
c_pair_of pair = record { key = pair.0; value = pair.1 }

-- The pairs lie at the front of an array, whose rest is unchanged.
pub record Lie (pairs : List (ℕ × ℕ)) (before after : List CPair) : Type 0 where
  pub front : take (length pairs) after ≡ map c_pair_of pairs
  pub rest : drop (length pairs) after ≡ drop (length pairs) before

-- If the status is 0, these pairs are at the front of the array, in this order. Otherwise the array
-- has too few places and is unchanged. In both cases the word is the number of pairs.
abbrev pub LaysOf : List (ℕ × ℕ) → ℕ → List CPair → List CPair → ℕ → Type 0
LaysOf pairs zero before after word = (word ≡ length pairs) × Lie pairs before after
LaysOf pairs (suc status) before after word =
    (suc status ≡ short) × (word ≡ length pairs) × (length before < length pairs)
    × (after ≡ before)

-- Either the pairs were read, as `LaysOf` says, or the status gives the reason why not. If not, the
-- array is unchanged.
abbrev pub LaysAnswer : Result (Vec (ℕ × ℕ) Global) Stop → ℕ → List CPair → List CPair → ℕ → ℕ
    → Type 0
LaysAnswer (Ok pairs) status before after was word = LaysOf pairs.items status before after word
LaysAnswer (Err stop) status before after was word =
    (status ≡ status_of_stop stop) × (word ≡ word_of_stop was stop) × (after ≡ before)

-- Either the pairs were read, as `LaysOf` says, or memory was refused. If memory was refused, the
-- array and the word are unchanged.
abbrev pub ReadsOf : List (ℕ × ℕ) → ℕ → List CPair → List CPair → ℕ → ℕ → Type 0
ReadsOf pairs status before after was word =
    LaysOf pairs status before after word
    ⊎ ((status ≡ refused NoMemory) × (after ≡ before) × (word ≡ was))

abbrev pub Reads : Option HeldMap → ℕ → List CPair → List CPair → ℕ → ℕ → Option HeldMap → Type 0
Reads (Some old) status before after was word (Some new) =
    (new ≡ old) × ReadsOf (ordered (now old.map.core.history)) status before after was word
Reads None status before after was word None =
    (status ≡ empty_handle) × (after ≡ before) × (word ≡ was)
Reads old status before after was word new = ⊥
