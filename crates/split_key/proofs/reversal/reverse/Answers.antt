use Rattle.std.proofs.Common.{◌≡◌, ◌∙◌, ℕ, ◌<◌, ◌-◌, ◌/◌, ◌%◌, refl, sym, rules}
use Rattle.std.proofs.lemmas.Nat.Bits.{same_from_bits_below}
use Rattle.std.specs.Int.{bit_at}
use Rattle.split_key.specs.Split.{reversed}
use Rattle.split_key.proofs.SplitLemmas.{bit_at-reversed, reversed_below, reversed_twice}
use Rattle.split_key.proofs.SwapLemmas.{same_at_places, bit_at-six_swaps}
use Rattle.split_key.proofs.reversal.reverse.Goals as goal
use Rattle.split_key.proofs.reversal.reverse.Goals.{After-swap_groups}

pub swap_groups-pairs-requires-clause-groups : goal.swap_groups-pairs-requires-clause-groups
swap_groups-pairs-requires-clause-groups c = same_at_places (bit_at 0x5555_5555_5555_5555) (λ place. 1 - place / 1 % 2) refl

pub swap_groups-nibbles-requires-clause-groups : goal.swap_groups-nibbles-requires-clause-groups
swap_groups-nibbles-requires-clause-groups c = same_at_places (bit_at 0x3333_3333_3333_3333) (λ place. 1 - place / 2 % 2) refl

pub swap_groups-bytes-requires-clause-groups : goal.swap_groups-bytes-requires-clause-groups
swap_groups-bytes-requires-clause-groups c = same_at_places (bit_at 0x0f0f_0f0f_0f0f_0f0f) (λ place. 1 - place / 4 % 2) refl

pub swap_groups-double_bytes-requires-clause-groups : goal.swap_groups-double_bytes-requires-clause-groups
swap_groups-double_bytes-requires-clause-groups c = same_at_places (bit_at 0x00ff_00ff_00ff_00ff) (λ place. 1 - place / 8 % 2) refl

pub swap_groups-halves-requires-clause-groups : goal.swap_groups-halves-requires-clause-groups
swap_groups-halves-requires-clause-groups c = same_at_places (bit_at 0x0000_ffff_0000_ffff) (λ place. 1 - place / 16 % 2) refl

pub swap_groups-requires-clause-groups : goal.swap_groups-requires-clause-groups
swap_groups-requires-clause-groups c = same_at_places (bit_at 0x0000_0000_ffff_ffff) (λ place. 1 - place / 32 % 2) refl

bits_of : (c : After-swap_groups) (place : ℕ) → place < 64 → bit_at c.swap_groups.result place ≡ bit_at c.args.word (63 - place)
bits_of c = bit_at-six_swaps c.args.word _ _ _ _ _ _ c.swap_groups-pairs.ensures c.swap_groups-nibbles.ensures c.swap_groups-bytes.ensures c.swap_groups-double_bytes.ensures c.swap_groups-halves.ensures c.swap_groups.ensures

value_of : (c : After-swap_groups) → c.swap_groups.result ≡ reversed c.args.word
value_of c = same_from_bits_below 64 _ _ (search rules) (reversed_below c.args.word) (λ place within. bits_of c place within ∙ sym (bit_at-reversed c.args.word place within))

pub returns-clause-value : goal.returns-clause-value
returns-clause-value c = value_of c

pub returns-clause-bits : goal.returns-clause-bits
returns-clause-bits c = bits_of c

pub returns-clause-again : goal.returns-clause-again
returns-clause-again c = rw (value_of c) (reversed_twice c.args.word (search rules))
