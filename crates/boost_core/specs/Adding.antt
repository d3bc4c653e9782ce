-- The requirements for adding the entry of a step, and the stance after the entry is added.
use Rattle.std.specs.Prelude.{◌≡◌, ℕ, ◌+◌, ◌-◌, ◌<◌, ◌≤◌, ◌^◌, true, Option, Some, None, List, [], ◌∷◌}
use Rattle.boost_core.specs.Vocabulary.{owed_in, Entry, Stance, RoomyStance, row, is_saved}
use Rattle.txn_words.specs.Packed.{is_small}

-- The entry that a step adds turns the first stance into the second. If the step adds no entry, the
-- two stances are equal.
abbrev pub Enters : RoomyStance → List Entry → RoomyStance → Type 0
Enters s [] s' = s' ≡ s
Enters s (e ∷ []) s' = row s.stance s.stance.phase e ≡ Some s'.stance
Enters s (e ∷ f ∷ es) s' = ⊥

-- The entry may be added: its caller's phase allows it, the caller numbers in it are small enough
-- for packing, and the stance and the history have room for it. `owed` is the number of entries that
-- all callers together owe.
pub record CanEnter (s : RoomyStance) (len cap owed : ℕ) (e : Entry) : Type 0 where
  pub next : Stance
  pub row_is : row s.stance s.stance.phase e ≡ Some next
  pub standing : s.stance.standing < 2 ^ 63
  pub saved : is_saved e ≡ true → 0 < s.room
  pub small : is_small e ≡ true
  pub room : len < cap
  pub before : owed_in s.stance.standing s.stance.phase ≤ owed
  pub owed_fits : owed < 2 ^ 63
  pub fits : owed - owed_in s.stance.standing s.stance.phase + owed_in next.standing next.phase < 2 ^ 63

-- If a step has an entry, this entry may be added. In any case the caller owes at most `owed`
-- entries.
abbrev pub CanAdd : RoomyStance → ℕ → ℕ → ℕ → Option Entry → Type 0
CanAdd s len cap owed None = owed_in s.stance.standing s.stance.phase ≤ owed
CanAdd s len cap owed (Some e) = CanEnter s len cap owed e
