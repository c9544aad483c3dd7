-- An alarm's settings in 8 words of 64 bits: what the words say, and the words of an alarm.
use Rattle.std.specs.Prelude.{ℕ, ◌+◌, ◌*◌, ◌/◌, ◌%◌, List, [], ◌∷◌, get_or, Float}
use Rattle.std.specs.Float.{binary32}
use Rattle.std.specs.Float.Ieee.{of_bits, to_bits}
use Rattle.settings.specs.declared.types.Alarm.{Alarm}
use Rattle.settings.specs.declared.types.Limits.{Limits}
use Rattle.settings.specs.declared.types.Severities.{Severities}
use Rattle.settings.specs.declared.types.Kind.{Kind}
use Rattle.settings.specs.declared.types.Kind.TheVariants.{Digital, Analog}
use Rattle.settings.specs.declared.types.Form.{Form}
use Rattle.settings.specs.declared.types.Form.TheVariants.{Digital as DigitalForm, Analog as AnalogForm}

-- ---- two numbers of 32 bits in a word

-- the number in the lower half, and in the upper
abbrev pub lower_of : ℕ → ℕ
lower_of w = w % 4294967296

abbrev pub upper_of : ℕ → ℕ
upper_of w = w / 4294967296

-- the word that holds both
abbrev pub pair_of : ℕ → ℕ → ℕ
pair_of l h = l + 4294967296 * h

-- a REAL by its bit pattern, in either half
abbrev pub lower_real : ℕ → Float
lower_real w = of_bits binary32 (lower_of w)

abbrev pub upper_real : ℕ → Float
upper_real w = of_bits binary32 (upper_of w)

-- the word that holds two REALs
abbrev pub reals_of : Float → Float → ℕ
reals_of x y = pair_of (to_bits binary32 x) (to_bits binary32 y)

-- ---- what the 8 words from an offset on say, whatever they are

-- word 0: the flags in its lowest byte, MinDuration in its upper half
abbrev pub flags_in : List ℕ → ℕ → ℕ
flags_in ws at = get_or ws at 0 % 256

abbrev pub duration_in : List ℕ → ℕ → ℕ
duration_in ws at = upper_of (get_or ws at 0)

-- words 1 to 4: the REALs, and ROCPeriod
abbrev pub period_in : List ℕ → ℕ → ℕ
period_in ws at = upper_of (get_or ws (at + 4) 0)

-- the seven REALs
unfoldable pub limits_in : List ℕ → ℕ → Limits
limits_in ws at =
    record {
      hh = lower_real (get_or ws (at + 1) 0);
      h = upper_real (get_or ws (at + 1) 0);
      l = lower_real (get_or ws (at + 2) 0);
      ll = upper_real (get_or ws (at + 2) 0);
      deadband = lower_real (get_or ws (at + 3) 0);
      rocpos = upper_real (get_or ws (at + 3) 0);
      rocneg = lower_real (get_or ws (at + 4) 0);
    }

-- words 5 to 7: the severities; a digital alarm has its one in the lower half of word 5
abbrev pub severity_in : List ℕ → ℕ → ℕ
severity_in ws at = lower_of (get_or ws (at + 5) 0)

-- the six severities of an analog alarm
unfoldable pub severities_in : List ℕ → ℕ → Severities
severities_in ws at =
    record {
      hh = lower_of (get_or ws (at + 5) 0);
      h = upper_of (get_or ws (at + 5) 0);
      l = lower_of (get_or ws (at + 6) 0);
      ll = upper_of (get_or ws (at + 6) 0);
      rocpos = lower_of (get_or ws (at + 7) 0);
      rocneg = upper_of (get_or ws (at + 7) 0);
    }

-- what the kind has of its own, of a form
abbrev pub kind_in : Form → List ℕ → ℕ → Kind
kind_in DigitalForm ws at = Digital (severity_in ws at)
kind_in AnalogForm ws at = Analog (limits_in ws at) (severities_in ws at) (period_in ws at)

-- the whole alarm, of a form
unfoldable pub alarm_in : Form → List ℕ → ℕ → Alarm
alarm_in form ws at = record { flags = flags_in ws at; duration = duration_in ws at; kind = kind_in form ws at }

-- ---- the 8 words of an alarm

-- the form that a kind is read by
abbrev pub form_of : Kind → Form
form_of (Digital severity) = DigitalForm
form_of (Analog limits severities period) = AnalogForm

-- an alarm from its parts, of either kind
abbrev pub digital_of : ℕ → ℕ → ℕ → Alarm
digital_of flags duration severity = record { flags = flags; duration = duration; kind = Digital severity }

abbrev pub analog_of : ℕ → ℕ → Limits → Severities → ℕ → Alarm
analog_of flags duration g s period = record { flags = flags; duration = duration; kind = Analog g s period }

-- a digital alarm: 0 where it has nothing to say
unfoldable pub digital_words : ℕ → ℕ → ℕ → List ℕ
digital_words flags duration severity = pair_of flags duration ∷ 0 ∷ 0 ∷ 0 ∷ 0 ∷ pair_of severity 0 ∷ 0 ∷ 0 ∷ []

-- an analog alarm
unfoldable pub analog_words : ℕ → ℕ → Limits → Severities → ℕ → List ℕ
analog_words flags duration g s period =
    pair_of flags duration ∷ reals_of g.hh g.h ∷ reals_of g.l g.ll ∷ reals_of g.deadband g.rocpos
    ∷ pair_of (to_bits binary32 g.rocneg) period ∷ pair_of s.hh s.h ∷ pair_of s.l s.ll ∷ pair_of s.rocpos s.rocneg ∷ []

-- by the kind
abbrev pub kind_words : Kind → ℕ → ℕ → List ℕ
kind_words (Digital severity) flags duration = digital_words flags duration severity
kind_words (Analog limits severities period) flags duration = analog_words flags duration limits severities period

-- the 8 words of an alarm
unfoldable pub alarm_words : Alarm → List ℕ
alarm_words a = kind_words a.kind a.flags a.duration
