-- How a severity acts.
use Rattle.std.specs.Prelude.{ℕ, Bool, ◌&&◌, ◌||◌, cond, leb, ltb, eqb}

-- a severity, a DINT in its 32 bits: below 1, that is 0 or negative; above 1000
abbrev pub severity_low : ℕ → Bool
severity_low s = eqb s 0 || ltb 2147483647 s

abbrev pub severity_high : ℕ → Bool
severity_high s = ltb 1000 s && leb s 2147483647

-- below 1 it acts as 1, above 1000 as 1000
unfoldable pub acting : ℕ → ℕ
acting s = cond (severity_low s) 1 (cond (severity_high s) 1000 s)

-- SeverityInv's part
abbrev pub severity_invalid : ℕ → Bool
severity_invalid s = severity_low s || severity_high s
