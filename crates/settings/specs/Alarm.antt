-- The settings of an alarm, and settings without alarms.
use Rattle.std.specs.Prelude.{ℕ, ◌-◌, Bool, List, ◌++◌, replicate}
use Rattle.wire.specs.Bits.{bit}
use Rattle.settings.specs.Counts.{each_most, all_most}
use Rattle.settings.specs.declared.types.Alarm.{Alarm}
use Rattle.settings.specs.declared.types.Kind.{Kind}
use Rattle.settings.specs.declared.types.Kind.TheVariants.{Digital, Analog}
use Rattle.settings.specs.declared.types.Settings.{Settings}

-- AckRequired: bit 1 of a digital alarm's flags, bit 4 of an analog one's
abbrev pub ack_required : Kind → ℕ → Bool
ack_required (Digital severity) flags = bit flags 1
ack_required (Analog limits severities period) flags = bit flags 4

-- what stands in a place that no alarm has
abbrev pub blank : Alarm
blank = record { flags = 0; duration = 0; kind = Digital 0 }

unfoldable pub blanks : List Alarm
blanks = replicate all_most blank

-- an alarm of the factory bank: Condition and AckRequired set, not Latched, Severity 500, MinDuration 0
abbrev pub factory_alarm : Alarm
factory_alarm = record { flags = 3; duration = 0; kind = Digital 500 }

-- the factory bank: twelve digital alarms
unfoldable pub factory : Settings
factory = record {
  counts = record { digital = each_most; analog = 0 };
  alarms = replicate each_most factory_alarm ++ replicate (all_most - each_most) blank;
}

-- a bank without alarms
unfoldable pub empty : Settings
empty = record { counts = record { digital = 0; analog = 0 }; alarms = blanks }
