-- Document 01's marked cases, each from the bytes of an image and of records to event records and report fields, jointly. Assumes nothing.
use Prim.Native.Nat.{ℕ}
use mathlib.Core.Path.{◌≡◌, refl}
use mathlib.Core.Bool.{true, false}
use mathlib.Core.List.{List, [], ◌∷◌}
use lib.ListN.{replicate}
use lib.Ieee.{binary32, of_bits, to_bits, of_int, sub, add, mul, div, neg, lt, le, eq}
use Rattle.wire.specs.Number.{value, bytes}
use Rattle.wire.specs.Internal.Words.{words}
use Rattle.wire.specs.Real.{largest, bounded}
use Rattle.wire.specs.Bits.{is_one_of, sets_only}
use Rattle.settings.specs.Alarm.{blanks, empty}
use Rattle.settings.specs.Refusals.{checked}
use Rattle.settings.specs.Rules.{limits_in_range, in_range, rising, banded, apart}
use Rattle.history.specs.Past.{since, count_from, row_start, latest}
use Rattle.history.specs.Demand.{in_alarm}
use Rattle.condition.specs.Command.{acks}
use Rattle.settings.specs.Severity.{acting}
use Rattle.event.specs.Event.{event_bytes, log_bytes}
use Rattle.level.specs.Level.{met, frees}
use Rattle.settings.specs.Numbers.{new_rate}
use Rattle.reader.specs.Count.{count_at}
use Rattle.settings_record.specs.Record.{severities_at, limits_at, fields_at, record_at}
use Rattle.reader.specs.Section.{records_from, section_at}
use Rattle.reader.specs.Read.{rest_of, sections_of, read_of}
use Rattle.scan_record.specs.Entry.{entry_at}
use Rattle.scan_record.specs.Check.{check_from, check_record}
use Rattle.alarm_history.specs.Sample.{sampled_at, sample_in, rate_in}
use Rattle.report.specs.Empty.{no_statuses, no_report}
use Rattle.bank_history.specs.Answers.{scan_log, accepted}
use Rattle.marked.proofs.Cases.{digital_image, Numbers, analog_image, bit, real, written, report, status, event}

-- MinDuration 0 and 100, and latched
abbrev plain : List ℕ
plain = digital_image 3 500 0

abbrev slow : List ℕ
slow = digital_image 3 500 100

abbrev latched : List ℕ
latched = digital_image 7 500 0

-- HH 900, H 800, L 600, Deadband 20, ROCPosLimit 5
abbrev numbers : Numbers
numbers = record { hh = 0x44610000; h = 0x44480000; l = 0x44160000; ll = 0; deadband = 0x41A00000; rocpos = 0x40A00000; rocneg = 0 }

abbrev high : List ℕ
high = analog_image 18 numbers 0 0

abbrev low : List ℕ
low = analog_image 20 numbers 0 0

abbrev both : List ℕ
both = analog_image 19 numbers 0 1000

abbrev rate : List ℕ
rate = analog_image 16 numbers 1000 0

-- no event
abbrev none : List ℕ
none = replicate 16 0

pub record Marked : Type 0 where
  -- K1 MinDuration 0: the first met scan activates
  pub k1 : written plain [] (bit 1000 1 0) 16 ≡ event_bytes (event 1000 0 8 500)
  -- K2 MinDuration 100, met at 1000, 1099, 1100: only the last
  pub k2-first : written slow [] (bit 1000 1 0) 16 ≡ none
  pub k2-early : written slow (bit 1000 1 0 ∷ []) (bit 1099 1 0) 16 ≡ none
  pub k2-due : written slow (bit 1000 1 0 ∷ bit 1099 1 0 ∷ []) (bit 1100 1 0) 16 ≡ event_bytes (event 1100 0 8 500)
  -- K3 unmet at 1050, met at 1100: not due
  pub k3 : written slow (bit 1000 1 0 ∷ bit 1050 0 0 ∷ []) (bit 1100 1 0) 16 ≡ none
  -- K4 latched, reset while met, then unmet: still in alarm
  pub k4 : written latched (bit 0 1 0 ∷ bit 1 1 256 ∷ []) (bit 2 0 0) 16 ≡ none
  pub k4-alarm : (status latched (bit 0 1 0 ∷ bit 1 1 256 ∷ bit 2 0 0 ∷ []) 0).alarm ≡ true
  -- K5 an acknowledgement in the activating scan: unacknowledged
  pub k5 : written plain [] (bit 0 1 128) 16 ≡ event_bytes (event 0 0 8 500)
  pub k5-acked : (status plain (bit 0 1 128 ∷ []) 0).acked ≡ false
  -- K6 ProgAck held set from before it: unacknowledged
  pub k6 : (status plain (bit 0 0 1 ∷ bit 1 1 1 ∷ []) 0).acked ≡ false
  -- K7 enable and disable together: enabled
  pub k7 : written plain [] (bit 0 0 12) 16 ≡ none
  pub k7-enabled : (report plain (bit 0 0 12 ∷ [])).alarm.enabled ≡ true
  -- K8 H 800, Deadband 20: 800 in, 780 stays, 779.5 out
  pub k8-in : written high [] (real 0 0x44480000 0) 16 ≡ event_bytes (event 0 2 8 500)
  pub k8-stays : written high (real 0 0x44480000 0 ∷ []) (real 1 0x44430000 0) 16 ≡ none
  pub k8-alarm : (status high (real 0 0x44480000 0 ∷ real 1 0x44430000 0 ∷ []) 1).alarm ≡ true
  pub k8-out : written high (real 0 0x44480000 0 ∷ real 1 0x44430000 0 ∷ []) (real 2 0x4442E000 0) 16 ≡ event_bytes (event 2 2 7 500)
  -- K9 L 600, Deadband 20: 600 in, 620 stays, 620.5 out
  pub k9-in : written low [] (real 0 0x44160000 0) 16 ≡ event_bytes (event 0 3 8 500)
  pub k9-stays : written low (real 0 0x44160000 0 ∷ []) (real 1 0x441B0000 0) 16 ≡ none
  pub k9-alarm : (status low (real 0 0x44160000 0 ∷ real 1 0x441B0000 0 ∷ []) 2).alarm ≡ true
  pub k9-out : written low (real 0 0x44160000 0 ∷ real 1 0x441B0000 0 ∷ []) (real 2 0x441B2000 0) 16 ≡ event_bytes (event 2 3 7 500)
  -- K10 H 800, HH 900, MinDuration 1000: 850 at 0 and 1000 raises H; 900 at 1010 raises HH
  pub k10-early : written both [] (real 0 0x44548000 0) 16 ≡ none
  pub k10-h : written both (real 0 0x44548000 0 ∷ []) (real 1000 0x44548000 0) 16 ≡ event_bytes (event 1000 2 8 500)
  pub k10-hh : written both (real 0 0x44548000 0 ∷ real 1000 0x44548000 0 ∷ []) (real 1010 0x44610000 0) 16 ≡ event_bytes (event 1010 1 8 500)
  -- K11 ROCPosLimit 5, period 1000: 800 at 0, 810 at 999: rate 0; 805 at 1000: rate 5, met
  pub k11-early : to_bits binary32 (report rate (real 0 0x44480000 0 ∷ real 999 0x444A8000 0 ∷ [])).alarm.rate ≡ 0
  pub k11-rate : to_bits binary32 (report rate (real 0 0x44480000 0 ∷ real 999 0x444A8000 0 ∷ real 1000 0x44494000 0 ∷ [])).alarm.rate ≡ 0x40A00000
  pub k11-met : written rate (real 0 0x44480000 0 ∷ real 999 0x444A8000 0 ∷ []) (real 1000 0x44494000 0) 16 ≡ event_bytes (event 1000 5 8 500)
  -- K12 Severity -3, 0, 1000, 1001 act as 1, 1, 1000, 1000
  pub k12-negative : written (digital_image 3 4294967293 0) [] (bit 0 1 0) 16 ≡ event_bytes (event 0 0 8 1)
  pub k12-zero : written (digital_image 3 0 0) [] (bit 0 1 0) 16 ≡ event_bytes (event 0 0 8 1)
  pub k12-most : written (digital_image 3 1000 0) [] (bit 0 1 0) 16 ≡ event_bytes (event 0 0 8 1000)
  pub k12-over : written (digital_image 3 1001 0) [] (bit 0 1 0) 16 ≡ event_bytes (event 0 0 8 1000)

pub all-marked : Marked
unfolding value bytes largest bounded blanks empty limits_in_range in_range rising banded apart since count_from row_start latest in_alarm acks acting
    event_bytes log_bytes met frees new_rate sampled_at rate_in count_at severities_at limits_at fields_at checked record_at records_from
    section_at rest_of sections_of read_of
    is_one_of sets_only entry_at check_from check_record sample_in no_statuses no_report scan_log accepted digital_image words analog_image bit real of_bits
    of_int sub add mul div neg lt le eq to_bits
all-marked =
    record {
      k1 = refl;
      k2-first = refl;
      k2-early = refl;
      k2-due = refl;
      k3 = refl;
      k4 = refl;
      k4-alarm = refl;
      k5 = refl;
      k5-acked = refl;
      k6 = refl;
      k7 = refl;
      k7-enabled = refl;
      k8-in = refl;
      k8-stays = refl;
      k8-alarm = refl;
      k8-out = refl;
      k9-in = refl;
      k9-stays = refl;
      k9-alarm = refl;
      k9-out = refl;
      k10-early = refl;
      k10-h = refl;
      k10-hh = refl;
      k11-early = refl;
      k11-rate = refl;
      k11-met = refl;
      k12-negative = refl;
      k12-zero = refl;
      k12-most = refl;
      k12-over = refl;
    }

-- ---- beside them

-- several events in one scan, in order: H returns and is acknowledged, L is activated, the alarm becomes suppressed and its counts are reset.
-- Bits 4, 6 and 7
pub several : written (analog_image 22 numbers 0 0) (real 0 0x44480000 0 ∷ []) (real 5 0x44160000 208) 80
    ≡ log_bytes
    (record { alarm = 1; condition = 7; kind = 3; suppressed = true; severity = 0; time = 5 }
    ∷ record { alarm = 1; condition = 7; kind = 5; suppressed = true; severity = 0; time = 5 }
    ∷ record { alarm = 1; condition = 2; kind = 6; suppressed = true; severity = 500; time = 5 }
    ∷ record { alarm = 1; condition = 2; kind = 7; suppressed = true; severity = 500; time = 5 }
    ∷ record { alarm = 1; condition = 3; kind = 8; suppressed = true; severity = 500; time = 5 } ∷ [])
unfolding value bytes largest bounded blanks empty limits_in_range in_range rising banded apart since count_from row_start latest in_alarm acks acting
    event_bytes log_bytes met frees new_rate sampled_at rate_in count_at severities_at limits_at fields_at checked record_at records_from
    section_at rest_of sections_of read_of
    is_one_of sets_only entry_at check_from check_record sample_in no_statuses no_report scan_log accepted digital_image words analog_image bit real of_bits
    of_int sub add mul div neg lt le eq
several = refl

-- the listing: its events, and how its condition ends
abbrev listed : List ℕ
listed = digital_image 7 700 100

pub record Listing : Type 0 where
  pub at-1000 : written listed [] (bit 1000 1 0) 16 ≡ none
  pub at-1100 : written listed (bit 1000 1 0 ∷ []) (bit 1100 1 0) 16 ≡ event_bytes (event 1100 0 8 700)
  pub at-1200 : written listed (bit 1000 1 0 ∷ bit 1100 1 0 ∷ []) (bit 1200 0 0) 16 ≡ none
  pub at-1300 : written listed (bit 1000 1 0 ∷ bit 1100 1 0 ∷ bit 1200 0 0 ∷ []) (bit 1300 0 256) 16 ≡ event_bytes (event 1300 0 7 700)
  pub at-1400 : written listed (bit 1000 1 0 ∷ bit 1100 1 0 ∷ bit 1200 0 0 ∷ bit 1300 0 256 ∷ []) (bit 1400 0 1) 16 ≡ event_bytes (event 1400 0 6 700)
  pub at-1500 : written listed (bit 1000 1 0 ∷ bit 1100 1 0 ∷ bit 1200 0 0 ∷ bit 1300 0 256 ∷ bit 1400 0 1 ∷ []) (bit 1500 1 0) 16 ≡ none
  pub end : status listed (bit 1000 1 0 ∷ bit 1100 1 0 ∷ bit 1200 0 0 ∷ bit 1300 0 256 ∷ bit 1400 0 1 ∷ bit 1500 1 0 ∷ []) 0
      ≡ record { alarm = false; acked = true; count = 1; alarmtime = 1000; acktime = 1400; returntime = 1300 }

pub listing : Listing
unfolding value bytes largest bounded blanks empty limits_in_range in_range rising banded apart since count_from row_start latest in_alarm acks acting
    event_bytes log_bytes met frees new_rate sampled_at rate_in count_at severities_at limits_at fields_at checked record_at records_from
    section_at rest_of sections_of read_of
    is_one_of sets_only entry_at check_from check_record sample_in no_statuses no_report scan_log accepted digital_image words analog_image bit real of_bits
    of_int sub add mul div neg lt le eq
listing = record { at-1000 = refl; at-1100 = refl; at-1200 = refl; at-1300 = refl; at-1400 = refl; at-1500 = refl; end = refl }

-- an image of the listing is the one that document 01 prints
pub printed : listed ≡ 0x01 ∷ 0x07 ∷ 0xBC ∷ 0x02 ∷ 0x00 ∷ 0x00 ∷ 0x64 ∷ 0x00 ∷ 0x00 ∷ 0x00 ∷ 0x00 ∷ []
unfolding digital_image bytes
printed = refl
