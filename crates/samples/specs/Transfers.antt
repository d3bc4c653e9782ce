-- Transfers between accounts.
use Rattle.std.specs.Prelude.{ℕ, ◌≡◌, ◌≢◌, ◌+◌, unwrap_or}
use Rattle.samples.specs.Vocabulary.{Map, get}

-- The balance of an account. It is 0 if the map has no value for the account.
abbrev pub balance : Map → ℕ → ℕ
balance m account = unwrap_or (get m account) 0

-- A sum was moved from one account to the other. The two balances together are the same as before,
-- and every other account is unchanged.
pub record IsTransfer (from to sum : ℕ) (old new : Map) : Type 0 where
  pub both : balance new from + balance new to ≡ balance old from + balance old to
  pub to_more : balance new to ≡ balance old to + sum
  pub others : (k : ℕ) → k ≢ from → k ≢ to → get new k ≡ get old k
