-- Which transaction must come before which, whatever the order.
use Rattle.std.specs.Prelude.{ℕ, ◌≡◌, ◌≢◌, Option, Some, None}
use Rattle.order_check.specs.Footprints.{Cell, Footprint}

-- The transaction needs this value at the key.
pub record Needs (footprint : Footprint) (k : ℕ) (v : Option ℕ) : Type 0 where
  pub cell : Cell
  pub there : footprint k ≡ Some cell
  pub need_is : cell.need ≡ v

-- The transaction leaves this value at the key, and needs another value there. A transaction that
-- leaves the value that it needs writes nothing.
pub record Writes (footprint : Footprint) (k : ℕ) (v : Option ℕ) : Type 0 where
  pub cell : Cell
  pub there : footprint k ≡ Some cell
  pub now_is : cell.now ≡ v
  pub changed : cell.need ≢ v

-- The transaction needs this value at the key, and leaves another value there.
pub record Replaces (footprint : Footprint) (k : ℕ) (v : Option ℕ) : Type 0 where
  pub cell : Cell
  pub there : footprint k ≡ Some cell
  pub need_is : cell.need ≡ v
  pub changed : cell.now ≢ v

-- The key gets this value at most once: a value is written by at most one transaction, and no
-- transaction makes the key absent, since all keys are absent at the beginning.
pub record ComesOnce (footprints : ℕ → Footprint) (k : ℕ) (v : Option ℕ) : Type 0 where
  pub one : (x y : ℕ) → Writes (footprints x) k v → Writes (footprints y) k v → x ≡ y
  pub fresh : v ≡ None → (x : ℕ) → Writes (footprints x) k v → ⊥

-- `u` reads what `t` writes: `u` needs this value at the key, and only `t` writes it.
pub record ReadsFrom (footprints : ℕ → Footprint) (t u k : ℕ) (value : Option ℕ) : Type 0 where
  pub once : ComesOnce footprints k value
  pub writes : Writes (footprints t) k value
  pub needs : Needs (footprints u) k value

-- `u` replaces what `t` reads: `t` and `u` need this value at the key, and `u` replaces it. The key
-- gets this value only once.
pub record ReplacesFor (footprints : ℕ → Footprint) (t u k : ℕ) (value : Option ℕ) : Type 0 where
  pub once : ComesOnce footprints k value
  pub apart : t ≢ u
  pub needs : Needs (footprints t) k value
  pub replaces : Replaces (footprints u) k value
