-- Laws of an analog alarm's step: what is packed is read back, how many events a scan has, what a disabled alarm keeps and writes, and
-- what suppression changes. Assumes nothing.
use mathlib.Core.Path.{◌≡◌, refl, fun_ext}
use mathlib.Core.Bool.{Bool, true, false, cond}
use mathlib.Core.List.{List, [], ◌∷◌}
use Prim.Native.Nat.{ℕ, ◌+◌, ◌≤◌, ◌<◌, ◌-◌}
use lib.ListN.{take, drop}
use Rattle.wire.specs.Bits.{bit}
use Rattle.wire.specs.Internal.Words.{how_many}
use native.Mathlib.Omega.{arith}
use Rattle.settings.specs.Numbers.{Numbers, AnalogOf, reals, value_of, new_rate, real_of}
use Rattle.settings.specs.declared.types.Reading.{Reading}
use Rattle.condition.specs.Internal.Mode.{disabled_after, suppressed_after}
use lib.Dec.{T, leb}
use lib.Ieee.{Float, binary32, fits, to_bits, of_bits}
use lib.Ieee.Bits.{to_bits-lt, of_bits-fits}
use Rattle.level.specs.Internal.Sample.{sample_after}
use lib.Ieee.Fits.{cond-fits}
use Rattle.settings.specs.declared.types.Reading.TheVariants.{Digital, Level}
use Rattle.state.specs.Internal.State.{State}
use Rattle.state.specs.Internal.Held.{Six, HH, H, L, LL, ROCPos, ROCNeg, Side, High, Low, of_six, AnalogHeld, real_patterns, look_analog, analog_flags}
use Rattle.analog.specs.Internal.Analog.{analog_enabled, analog_sample, analog_told, cell_after, analog_after, cell_events, analog_events, sample_stays}
use Rattle.analog.specs.Internal.Analog.{sample_pattern, rate_pattern, analog_step}
use Rattle.state.proofs.Back.{Small, flags-small}
use Rattle.state.proofs.Held.{look-packed}
use Rattle.state.proofs.Most.{whole-most, condition-most, no_bits}
use Rattle.state.proofs.Suppression.{SameCommands}
use Rattle.sample.proofs.Patterns.{rate-fits, rate-back, value-back}

-- ---- what is packed is read back

-- a reading that a record can carry: a REAL of 32 bits
abbrev pub InRecord : Reading → Type 0
InRecord (Digital input) = Unit {0}
InRecord (Level x) = T (fits binary32 x)

value-fits : (x : Reading) → InRecord x → T (fits binary32 (value_of reals (real_of x)))
value-fits (Digital input) h = of_bits-fits binary32 0
value-fits (Level x) h = h

-- the sample's value after a scan
pub sample-fits : (a : AnalogOf Float) (s : State) (x : Reading) (word time : ℕ) → InRecord x
    → T (fits binary32 (analog_sample reals a x word time (look_analog real_patterns s)).value)
unfolding sample_after
sample-fits a s x word time h =
    cond-fits binary32 (sample_stays reals a x word time (look_analog real_patterns s)) (of_bits binary32 s.sample) (value_of reals (real_of x))
    (of_bits-fits binary32 s.sample) (value-fits x h)

pub look-analog : (a : AnalogOf Float) (s : State) (x : Reading) (word time : ℕ) → InRecord x
    → look_analog real_patterns (analog_step reals real_patterns a s x word time).state ≡ analog_after reals a x word time (look_analog real_patterns s)
unfolding analog_step sample_after
look-analog a s x word time h =
    let held = look_analog real_patterns s in
    let y : Float = value_of reals (real_of x) in
    look-packed real_patterns (analog_after reals a x word time held) (sample_pattern reals real_patterns a s x word time)
    (rate_pattern reals real_patterns a s x word time)
    (value-back (sample_stays reals a x word time held) s.sample y (value-fits x h))
    (rate-back (analog_enabled reals a x word time held) (bit s.flags 3) (leb a.period (time - s.sampled)) s.rate
    (new_rate a.period (of_bits binary32 s.sample) y) (rate-fits a.period (of_bits binary32 s.sample) y))

-- ---- how many events a scan has

module _ {X : Type 0} (n : Numbers X) (a : AnalogOf X) (x : Reading) (word time : ℕ) (h : AnalogHeld X) where
  abbrev cell-bits : Six → List Bool → List Bool
  cell-bits = cell_events n a x word time h

  cell-most : (c : Six) (rest : List Bool) → how_many (cell-bits c rest) ≤ 2 + how_many rest
  cell-most c rest = condition-most (analog_told n a x word time h c) (h.cell c).alarm (h.cell c).unacked rest

  six-most : how_many (cell-bits HH (cell-bits H (cell-bits L (cell-bits LL (cell-bits ROCPos (cell-bits ROCNeg [])))))) ≤ 12
  six-most =
      omega (
        arith,
        cell-most HH (cell-bits H (cell-bits L (cell-bits LL (cell-bits ROCPos (cell-bits ROCNeg []))))),
        cell-most H (cell-bits L (cell-bits LL (cell-bits ROCPos (cell-bits ROCNeg [])))),
        cell-most L (cell-bits LL (cell-bits ROCPos (cell-bits ROCNeg []))),
        cell-most LL (cell-bits ROCPos (cell-bits ROCNeg [])),
        cell-most ROCPos (cell-bits ROCNeg []),
        cell-most ROCNeg [],
        no_bits,
      )

  pub analog-most : how_many (analog_events n a x word time h) ≤ 15
  analog-most =
      let w =
      whole-most h.disabled h.suppressed word h.previous
      (cell-bits HH (cell-bits H (cell-bits L (cell-bits LL (cell-bits ROCPos (cell-bits ROCNeg [])))))) in
      omega (arith, w, six-most)

  pub no-events-analog : disabled_after word h.disabled ≡ true → (c : Six) (rest : List Bool)
      → (cell_events n a x word time h c rest ≡ false ∷ false ∷ false ∷ rest)
      × (((analog_after n a x word time h).cell c).alarm ≡ false)
      × (((analog_after n a x word time h).cell c).unacked ≡ false)
      × (((analog_after n a x word time h).cell c).row ≡ false)
  no-events-analog e c rest = rw e (refl, refl, refl, refl)

  pub no-rows-analog : disabled_after word h.disabled ≡ true
      → ((analog_after n a x word time h).held ≡ false)
      × ((s : Side) → ((analog_after n a x word time h).run s).on ≡ false)
      × ((analog_after n a x word time h).sample.rate ≡ n.nought)
  unfolding sample_after
  no-rows-analog e = rw e (refl, λ s. refl, refl)

-- ---- suppression

module _ {X : Type 0} (n : Numbers X) (a : AnalogOf X) (x : Reading) (word word' time : ℕ) (h : AnalogHeld X)
    (e : SameCommands h.previous word word') where
  run-same : (s : Side) → (analog_after n a x word time h).run s ≡ (analog_after n a x word' time h).run s
  run-same High = rw (e.enabling, e.disabling)
  run-same Low = rw (e.enabling, e.disabling)

  cell_same : (c : Six) → cell_after n a x word time h c ≡ cell_after n a x word' time h c
  cell_same c = rw (e.enabling, e.disabling, e.ack (of_six c))

  pub suppress-only-analog : analog_after n a x word' time h
      ≡ record {
        disabled = (analog_after n a x word time h).disabled;
        suppressed = suppressed_after word' h.suppressed;
        faulted = (analog_after n a x word time h).faulted;
        held = (analog_after n a x word time h).held;
        previous = word';
        sample = (analog_after n a x word time h).sample;
        run = (analog_after n a x word time h).run;
        cell = (analog_after n a x word time h).cell;
      }
  suppress-only-analog = rw (fun_ext run-same, fun_ext cell_same, e.enabling, e.disabling, e.fault)

  pub suppress-events-analog : (take 2 (analog_events n a x word' time h) ≡ take 2 (analog_events n a x word time h))
      × (drop 4 (analog_events n a x word' time h) ≡ drop 4 (analog_events n a x word time h))
  suppress-events-analog = rw (e.enabling, e.disabling, e.count-reset, fun_ext e.ack) (refl, refl)

-- ---- the halves of its words have 32 bits

pattern-small : (stays : Bool) (p : ℕ) (x : Float) → p < 4294967296 → T (fits binary32 x) → cond stays p (to_bits binary32 x) < 4294967296
pattern-small true p x m h = m
pattern-small false p x m h = to_bits-lt binary32 x h

pub small-analog : (s : State) (x : Reading) (word time : ℕ) → Small s → (a : AnalogOf Float) → InRecord x
    → Small (analog_step reals real_patterns a s x word time).state
unfolding analog_step
small-analog s x word time m a h =
    let held = look_analog real_patterns s in
    record {
      flags = flags-small (analog_flags (analog_after reals a x word time held)) (omega arith);
      sample =
          pattern-small (sample_stays reals a x word time held) s.sample (analog_sample reals a x word time held).value m.sample
          (sample-fits a s x word time h);
    }
