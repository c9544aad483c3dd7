-- The conditions of alarms.
use Rattle.std.specs.Prelude.{ℕ, ◌-◌, Bool, false, ◌||◌, List, [], ◌∷◌, ltb, get_or}
use Rattle.wire.specs.Bits.{bit}
use Rattle.settings.specs.declared.types.Kind.{Kind}
use Rattle.settings.specs.declared.types.Kind.TheVariants.{Digital, Analog}

-- In of a digital alarm, and six of an analog one
pub data Condition : Type 0 where
  In HH H L LL ROCPos ROCNeg : Condition

-- the conditions of an alarm, in the order of their numbers
abbrev pub conditions_of : Kind → List Condition
conditions_of (Digital severity) = In ∷ []
conditions_of (Analog limits severities period) = HH ∷ H ∷ L ∷ LL ∷ ROCPos ∷ ROCNeg ∷ []

-- a condition's number in event records
abbrev pub number_of : Condition → ℕ
number_of In = 0
number_of HH = 1
number_of H = 2
number_of L = 3
number_of LL = 4
number_of ROCPos = 5
number_of ROCNeg = 6

-- a level is enabled: bits 0 to 3 of an analog alarm's flags are HH, H, L, LL
abbrev pub on : ℕ → Condition → Bool
on flags c = bit flags (number_of c - 1)

-- a level's side, HH with H and L with LL, has one with p; no other condition has a side
abbrev pub side_has : Condition → (Condition → Bool) → Bool
side_has In p = false
side_has HH p = p HH || p H
side_has H p = p HH || p H
side_has L p = p L || p LL
side_has LL p = p L || p LL
side_has ROCPos p = false
side_has ROCNeg p = false

-- ROCPos or ROCNeg
abbrev pub is_rate : Condition → Bool
is_rate c = ltb 4 (number_of c)

-- the stored severity of a condition; those of an analog alarm stand in the order of its conditions
abbrev pub severity_of : Kind → Condition → ℕ
severity_of (Digital severity) c = severity
severity_of (Analog limits s period) c = get_or (s.hh ∷ s.h ∷ s.l ∷ s.ll ∷ s.rocpos ∷ s.rocneg ∷ []) (number_of c - 1) 0
