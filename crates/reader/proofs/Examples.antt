-- The definitions, run on document 01's sample settings and on the smallest images. Assumes nothing.
use mathlib.Core.Path.{◌≡◌, refl}
use mathlib.Core.List.{List, [], ◌∷◌}
use Prim.Native.Nat.{ℕ}
use lib.ListN.{get_or}
use Rattle.wire.specs.Number.{value}
use Rattle.settings.specs.Alarm.{blank, blanks, empty, factory}
use Rattle.settings.specs.Refusals.{refusal, checked}
use Rattle.reader.specs.Count.{count_at}
use Rattle.settings_record.specs.Record.{record_at, fields_at}
use Rattle.reader.specs.Section.{section_at, records_from}
use Rattle.reader.specs.Read.{sections_of, rest_of, read_of, settings_of}
use Rattle.settings.specs.declared.types.Kind.TheVariants.{Digital}
use Rattle.settings.specs.declared.refusals.Reason.TheVariants.{Incomplete}
use Rattle.std.proofs.Common.{Ok, Err}
use Rattle.std.specs.Result.{is_ok}
use mathlib.Core.Bool.{true}

-- one digital alarm: Condition, AckRequired and Latched set, Severity 700, MinDuration 100
sample : List ℕ
sample = 0x01 ∷ 0x07 ∷ 0xBC ∷ 0x02 ∷ 0x00 ∷ 0x00 ∷ 0x64 ∷ 0x00 ∷ 0x00 ∷ 0x00 ∷ 0x00 ∷ []

sample-reply : is_ok (read_of sample) ≡ true
unfolding sample read_of sections_of rest_of section_at records_from record_at checked fields_at count_at value blanks
sample-reply = refl

sample-alarm : get_or (settings_of sample).alarms 0 blank ≡ record { flags = 7; duration = 100; kind = Digital 700 }
unfolding sample read_of sections_of rest_of section_at records_from record_at checked fields_at count_at value blanks
sample-alarm = refl

-- no bytes are the factory bank, and never number 1
no_bytes : read_of [] ≡ Ok factory
unfolding read_of
no_bytes = refl

-- its twelfth alarm, and the place behind it
last-alarm : get_or (settings_of []).alarms 11 blank ≡ record { flags = 3; duration = 0; kind = Digital 500 }
unfolding read_of factory
last-alarm = refl

place-behind : get_or (settings_of []).alarms 12 blank ≡ blank
unfolding read_of factory
place-behind = refl

-- a count, and no record
no_record : read_of (1 ∷ []) ≡ Err (refusal Incomplete 1)
unfolding read_of sections_of section_at records_from record_at checked fields_at count_at value blanks
no_record = refl

-- two zero bytes are a bank without alarms
zeros : read_of (0 ∷ 0 ∷ []) ≡ Ok empty
unfolding read_of sections_of rest_of section_at records_from count_at empty
zeros = refl
