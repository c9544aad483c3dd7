-- An alarm's record: its fields by offset, and the first refusal that applies. Each refusal's place is the record's offset.
use Rattle.std.specs.Prelude.{ℕ, ◌+◌, ◌*◌, List, [], ◌∷◌, Bool, ltb, leb, length, get_or, Float, Result}
use Rattle.wire.specs.Number.{number}
use Rattle.wire.specs.Real.{real_at}
use Rattle.settings.specs.Refusals.{checked, refusal}
use Rattle.settings.specs.Numbers.{reals, real_limit}
use Rattle.settings.specs.Rules.{duration_in_range, in_range, apart}
use Rattle.settings.specs.declared.types.Limits.{Limits}
use Rattle.settings.specs.declared.types.Severities.{Severities}
use Rattle.settings.specs.declared.types.Alarm.{Alarm}
use Rattle.settings.specs.declared.types.Kind.{Kind}
use Rattle.settings.specs.declared.types.Kind.TheVariants.{Digital, Analog}
use Rattle.settings.specs.declared.types.Form.{Form}
use Rattle.settings.specs.declared.types.Form.TheVariants.{Digital as DigitalForm, Analog as AnalogForm}
use Rattle.settings.specs.declared.refusals.Refusal.{Refusal}
use Rattle.settings.specs.declared.refusals.Reason.TheVariants.{Incomplete, UnknownFlag, OutOfRange, WrongLimits}

-- where the k-th word of a record stands, behind the byte of flags
abbrev pub word_place : ℕ → ℕ → ℕ
word_place at k = at + (1 + 4 * k)

-- how many bytes a record has: 9 with two words, 61 with fifteen
abbrev pub size_of : Form → ℕ
size_of DigitalForm = word_place 0 2
size_of AnalogForm = word_place 0 15

-- six severities in the order HH, H, L, LL, ROCPos, ROCNeg
unfoldable pub severities_at : List ℕ → ℕ → Severities
severities_at image at =
    let n : ℕ → ℕ = λ k. number image (word_place at k) 4 in
    record { hh = n 0; h = n 1; l = n 2; ll = n 3; rocpos = n 4; rocneg = n 5 }

-- the limits HH, H, L, LL, then Deadband, ROCPosLimit, ROCNegLimit
unfoldable pub limits_at : List ℕ → ℕ → Limits
limits_at image at =
    let r : ℕ → Float = λ k. real_at image (word_place at k) in
    record { hh = r 6; h = r 7; l = r 8; ll = r 9; deadband = r 10; rocpos = r 11; rocneg = r 12 }

-- the alarm of a record. Digital: flags, Severity, MinDuration; analog: flags, severities, REALs, ROCPeriod, MinDuration
unfoldable pub fields_at : Form → List ℕ → ℕ → Alarm
fields_at DigitalForm image at =
    let n : ℕ → ℕ = λ k. number image (word_place at k) 4 in
    record { flags = get_or image at 0; duration = n 1; kind = Digital (n 0) }
fields_at AnalogForm image at =
    let n : ℕ → ℕ = λ k. number image (word_place at k) 4 in
    record { flags = get_or image at 0; duration = n 14; kind = Analog (limits_at image at) (severities_at image at) (n 13) }

-- 3 a flag above bit 2, or above bit 4 of an analog alarm; 4 a number out of its range; 5 the order of levels or Deadband
abbrev pub checks_of : Kind → ℕ → ℕ → ℕ → List (Refusal × Bool)
checks_of (Digital severity) flags duration at = (refusal UnknownFlag at, ltb flags 8) ∷ (refusal OutOfRange at, duration_in_range duration) ∷ []
checks_of (Analog g severities period) flags duration at =
    (refusal UnknownFlag at, ltb flags 32) ∷ (refusal OutOfRange at, in_range reals (real_limit g) g.deadband period duration)
    ∷ (refusal WrongLimits at, apart reals flags (real_limit g) g.deadband) ∷ []

-- 1 where the record is incomplete, then the checks of its alarm; it is read with the offset past it
unfoldable pub record_at : Form → List ℕ → ℕ → Result (Alarm × ℕ) Refusal
record_at form image at =
    let a = fields_at form image at in
    checked
    ((refusal Incomplete at, leb (at + size_of form) (length image)) ∷ checks_of a.kind a.flags a.duration at)
    (a, at + size_of form)
