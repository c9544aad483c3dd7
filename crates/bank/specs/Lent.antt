-- A bank in words that a caller lends.
use Rattle.std.specs.Prelude.{ℕ, List}

-- three blocks of 64-bit words: settings, states, and counts and stamps
pub record Words : Type 0 where
  pub settings : List ℕ
  pub states : List ℕ
  pub marks : List ℕ
