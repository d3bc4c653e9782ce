-- A probe for a key: the places that it visits, one after the other, and where it stops. The keys
-- at the places are given by a function, so nothing here depends on how they are stored.
use Rattle.std.specs.Prelude.{◌≡◌, ℕ, ◌==◌, ◌<◌, ◌≤◌, ◌⊎◌, Bool, true, false, Option, Some, None}

-- True if a probe for `key` stops at a place: the place is empty, or its key is `key`. The option
-- is the place's key, or None if the place is empty.
abbrev pub stops : Option ℕ → ℕ → Bool
stops None key = true
stops (Some other) key = other == key

-- A probe that begins at `home`, and continues at place 0 after the last place, reaches `j` before
-- `i`.
abbrev pub ReachesBefore : ℕ → ℕ → ℕ → Type 0
ReachesBefore home j i =
    ((home ≤ j) × (j < i)) ⊎ (((j < i) × (i < home)) ⊎ ((i < home) × (home ≤ j)))

-- Among the first `count` places, a probe for `key` does not stop at any place that it reaches
-- before `i`.
abbrev pub LeadsTo : (ℕ → Option ℕ) → ℕ → ℕ → ℕ → ℕ → Type 0
LeadsTo keys count home key i =
    (j : ℕ) → j < count → ReachesBefore home j i → stops (keys j) key ≡ false

-- Each place that has a key is reached by the probe for this key.
abbrev pub IsProbed : (ℕ → Option ℕ) → ℕ → (ℕ → ℕ) → Type 0
IsProbed keys count home =
    (i key : ℕ) → keys i ≡ Some key → LeadsTo keys count (home key) key i
