-- What the scans say of an alarm of given settings.
use Rattle.std.specs.Prelude.{ℕ, ◌-◌, ◌∷◌, Bool, not, ◌&&◌, ◌||◌, leb}
use Rattle.settings.specs.Alarm.{ack_required}
use Rattle.settings.specs.Condition.{Condition, side_has, is_rate}
use Rattle.settings.specs.Numbers.{Numbers, AnalogOf, reals, analog_reals}
use Rattle.settings.specs.declared.types.Alarm.{Alarm}
use Rattle.settings.specs.declared.types.Kind.{Kind}
use Rattle.settings.specs.declared.types.Kind.TheVariants.{Digital, Analog}
use Rattle.history.specs.Past.{Fact, row_start}
use Rattle.history.specs.Demand.{Facts}
use Rattle.condition.specs.Command.{resets, acks}
use Rattle.level.specs.Level.{bit_met, bit_frees, met, frees}
use Rattle.alarm_history.specs.Scans.{Scan, previous, enabled, count_reset}
use Rattle.alarm_history.specs.Sample.{seen, rate_in}

-- the rules of an alarm, whatever its numbers are
pub record Rules : Type 0 where
  -- MinDuration, AckRequired
  pub duration : ℕ
  pub required : Bool
  pub met : Condition → Fact Scan
  -- it would be cleared if it is not met
  pub frees : Condition → Fact Scan

-- a digital alarm goes by its input, the latch and resets
abbrev pub digital_rules : Alarm → Rules
digital_rules a = record {
  duration = a.duration;
  required = ack_required a.kind a.flags;
  met = λ c s past. bit_met a.flags s.reading;
  frees = λ c s past. bit_frees a.flags (resets s.word (previous past));
}

-- an analog one by the reading and the rate
abbrev pub analog_rules : {X : Type 0} → Numbers X → AnalogOf X → Bool → Rules
analog_rules n a required = record {
  duration = a.duration;
  required = required;
  met = λ c s past. met n a c (seen n (s ∷ past)) (rate_in n a (s ∷ past));
  frees = λ c s past. frees n a c (seen n (s ∷ past));
}

abbrev pub rules_by : Kind → Alarm → Rules
rules_by (Digital severity) a = digital_rules a
rules_by (Analog limits severities period) a =
    analog_rules reals (analog_reals a.flags a.duration limits period) (ack_required a.kind a.flags)

abbrev pub rules_of : Alarm → Rules
rules_of a = rules_by a.kind a

module _ (r : Rules) where
  -- a run of a condition: enabled scans that met it, or for a level any of its side
  abbrev pub run : Condition → Fact Scan
  run c s past = enabled s past && (r.met c s past || side_has c (λ d. r.met d s past))

  abbrev pub facts : Facts Scan Condition
  facts = record {
    enabled = enabled;
    met = r.met;
    cleared = λ c s past. not (r.met c s past) && r.frees c s past;
    lasted = λ c s past. leb r.duration (s.time - row_start (λ x. x.time) (run c) (s ∷ past));
    beside = side_has;
    rate = is_rate;
    ack = λ c s past. acks s.word (previous past) c;
    reset = count_reset;
    required = r.required;
  }
