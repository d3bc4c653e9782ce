-- What contracts see of a list that lies apart from its neighbours in memory, and how it is stored.
use Rattle.std.specs.Prelude.{ℕ, ◌+◌, ◌-◌, ◌<◌, ◌≤◌, List, drop, Vec, vec_len, vec_capacity}
use Rattle.std.specs.Global.{Global}

-- The items, and how many more can be added before more memory is needed.
pub record Listed (T : Type 0) : Type 0 where
  pub items : List T
  pub room : ℕ

-- The list that these places hold, of which the first `pad` are blank.
abbrev pub listed : {T : Type 0} → ℕ → Vec T Global → Listed T
listed pad places = record {
  items = drop pad places.items;
  room = vec_capacity places - (vec_len places + pad);
}

-- If there is memory, the first `pad` places of it are blank, and the last `pad` places are not in
-- use.
pub record IsPadded {T : Type 0} (pad : ℕ) (places : Vec T Global) : Type 0 where
  pub few : pad ≤ 4096
  pub before : 0 < vec_capacity places → pad ≤ vec_len places
  pub behind : 0 < vec_capacity places → vec_len places + pad ≤ vec_capacity places
