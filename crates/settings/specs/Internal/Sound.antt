-- What is true of every alarm of accepted settings, for the layers that use them.
use Rattle.std.specs.Prelude.{ℕ, ◌<◌, ◌≤◌, ◌≡◌, true, ◌||◌}
use Rattle.settings.specs.Condition.{Condition, HH, H, L, LL, ROCPos, ROCNeg, on}
use Rattle.settings.specs.Numbers.{Numbers, reals, real_limit}
use Rattle.settings.specs.Rules.{non_negative, low_of, high_of}
use Rattle.settings.specs.declared.types.Alarm.{Alarm}
use Rattle.settings.specs.declared.types.Limits.{Limits}
use Rattle.settings.specs.declared.types.Kind.{Kind}
use Rattle.settings.specs.declared.types.Kind.TheVariants.{Digital, Analog}
use Rattle.settings.specs.declared.types.Form.{Form}
use Rattle.settings.specs.declared.types.Form.TheVariants.{Digital as DigitalForm, Analog as AnalogForm}

pub record SoundDigital (flags duration : ℕ) : Type 0 where
  pub known : flags < 8
  pub duration-range : duration ≤ 2147483647

-- ---- an analog alarm of any form of numbers

module _ {X : Type 0} (n : Numbers X) where
  -- each number inside its range
  pub record Bounded (limit : Condition → X) (d : X) : Type 0 where
    pub hh : n.inside (limit HH) ≡ true
    pub h : n.inside (limit H) ≡ true
    pub l : n.inside (limit L) ≡ true
    pub ll : n.inside (limit LL) ≡ true
    pub deadband : n.inside d ≡ true
    pub rocpos : n.inside (limit ROCPos) ≡ true
    pub rocneg : n.inside (limit ROCNeg) ≡ true

  -- an enabled level stands below each enabled one above it
  abbrev pub Below : ℕ → (Condition → X) → Condition → Condition → Type 0
  Below flags limit c d = on flags c ≡ true → on flags d ≡ true → n.below (limit c) (limit d) ≡ true

  pub record Rising (flags : ℕ) (limit : Condition → X) : Type 0 where
    pub ll-l : Below flags limit LL L
    pub ll-h : Below flags limit LL H
    pub ll-hh : Below flags limit LL HH
    pub l-h : Below flags limit L H
    pub l-hh : Below flags limit L HH
    pub h-hh : Below flags limit H HH

  -- the two Deadband inequalities, where both sides have an enabled level
  pub record Banded (flags : ℕ) (limit : Condition → X) (deadband : X) : Type 0 where
    pub below : on flags HH || on flags H ≡ true → on flags L || on flags LL ≡ true
        → n.below (low_of n flags limit) (n.minus (high_of n flags limit) deadband) ≡ true
    pub above : on flags HH || on flags H ≡ true → on flags L || on flags LL ≡ true
        → n.below (n.plus (low_of n flags limit) deadband) (high_of n flags limit) ≡ true

  pub record SoundAnalog (flags : ℕ) (limit : Condition → X) (deadband : X) (period duration : ℕ) : Type 0 where
    pub known : flags < 32
    pub within : Bounded limit deadband
    pub deadband-sign : non_negative n deadband ≡ true
    pub rocpos-sign : non_negative n (limit ROCPos) ≡ true
    pub rocneg-sign : non_negative n (limit ROCNeg) ≡ true
    pub rises : Rising flags limit
    pub bands : Banded flags limit deadband
    pub period-range : period ≤ 3600000
    pub duration-range : duration ≤ 2147483647

abbrev pub BoundedReals : Limits → Type 0
BoundedReals g = Bounded reals (real_limit g) g.deadband

-- an alarm of its section's kind, with that kind's facts
abbrev pub Sound : Form → Kind → ℕ → ℕ → Type 0
Sound DigitalForm (Digital severity) flags duration = SoundDigital flags duration
Sound DigitalForm (Analog g s period) flags duration = ⊥
Sound AnalogForm (Digital severity) flags duration = ⊥
Sound AnalogForm (Analog g s period) flags duration = SoundAnalog reals flags (real_limit g) g.deadband period duration

abbrev pub SoundAlarm : Form → Alarm → Type 0
SoundAlarm form a = Sound form a.kind a.flags a.duration
