-- The rate sample as a step keeps it.
use Rattle.std.specs.Prelude.{ℕ, ◌-◌, Bool, not, ◌&&◌, cond, leb}
use Rattle.std.proofs.Math.Option.{Option}
use Rattle.settings.specs.Numbers.{Numbers, value_of}

-- a stored reading, its scan's time, and the rate
pub record Sample (X : Type 0) : Type 0 where
  pub value : X
  pub rate : X
  pub at : ℕ

-- what a scan says to the sample; `held`: the scan before was enabled and left a sample
pub record Sampling (X : Type 0) : Type 0 where
  pub period : ℕ
  pub enabled : Bool
  pub held : Bool
  pub time : ℕ
  pub reading : Option X

module _ {X : Type 0} (n : Numbers X) where
  -- the sample after a scan: the first enabled scan, or the first after a disabled one, stores it, and a scan at least ROCPeriod after it
  unfoldable pub sample_after : Sampling X → Sample X → Sample X
  sample_after g s =
      let due : Bool = leb g.period (g.time - s.at) in
      record {
        value = cond (g.held && not due) s.value (value_of n g.reading);
        at = cond (g.held && not due) s.at g.time;
        rate = cond (g.enabled && g.held) (cond due (n.rated g.period s.value (value_of n g.reading)) s.rate) n.nought;
      }

  -- before the first scan
  abbrev pub no_sample : Sample X
  no_sample = record { value = n.nought; rate = n.nought; at = 0 }
