-- What is said of a proxy that had nothing to take.
use Rattle.std.specs.Prelude.{ℕ}

-- which proxy, and after how many entries
pub record IdleAt : Type 0 where
  pub proxy : ℕ
  pub entries : ℕ
