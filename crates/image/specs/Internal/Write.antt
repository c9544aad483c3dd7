-- The image of settings, and what the writer leaves in a lent buffer.
use Rattle.std.specs.Prelude.{ℕ, ◌+◌, List, [], ◌∷◌, ◌++◌, Bool, ◌&&◌, cond, leb, length, drop, Result, Ok, Err}
use Rattle.std.proofs.Math.Seq.{slice}
use Rattle.std.specs.Float.{binary32}
use Rattle.std.specs.Float.Ieee.{to_bits}
use Rattle.wire.specs.Internal.Words.{words}
use Rattle.settings.specs.Refusals.{refusal}
use Rattle.settings_record.specs.Record.{size_of}
use Rattle.layout.specs.Internal.Block.{no_bank}
use Rattle.settings.specs.Counts.{all_most, are_good, sum_of}
use Rattle.settings.specs.Alarm.{blanks}
use Rattle.settings.specs.declared.counts.Counts.{Counts}
use Rattle.layout.specs.Internal.Words.{alarm_in}
use Rattle.layout.specs.Internal.Block.{placed, alarm_at, settings_in, is_block}
use Rattle.settings.specs.declared.types.Limits.{Limits}
use Rattle.settings.specs.declared.types.Severities.{Severities}
use Rattle.settings.specs.declared.types.Alarm.{Alarm}
use Rattle.settings.specs.declared.types.Kind.{Kind}
use Rattle.settings.specs.declared.types.Kind.TheVariants.{Digital, Analog}
use Rattle.settings.specs.declared.types.Form.{Form}
use Rattle.settings.specs.declared.types.Form.TheVariants.{Digital as DigitalForm, Analog as AnalogForm}
use Rattle.settings.specs.declared.types.Settings.{Settings}
use Rattle.settings.specs.declared.refusals.Refusal.{Refusal}
use Rattle.settings.specs.declared.refusals.Reason.TheVariants.{ImageTooLong}

abbrev pub severity_words : Severities → List ℕ
severity_words s = s.hh ∷ s.h ∷ s.l ∷ s.ll ∷ s.rocpos ∷ s.rocneg ∷ []

-- each REAL by its bit pattern
abbrev pub limit_words : Limits → List ℕ
limit_words g =
    to_bits binary32 g.hh ∷ to_bits binary32 g.h ∷ to_bits binary32 g.l ∷ to_bits binary32 g.ll
    ∷ to_bits binary32 g.deadband ∷ to_bits binary32 g.rocpos ∷ to_bits binary32 g.rocneg ∷ []

-- a digital record
unfoldable pub digital_bytes : ℕ → ℕ → ℕ → List ℕ
digital_bytes flags severity duration = flags ∷ words (severity ∷ duration ∷ [])

-- an analog record
unfoldable pub analog_bytes : ℕ → Limits → Severities → ℕ → ℕ → List ℕ
analog_bytes flags g s period duration = flags ∷ words (severity_words s ++ (limit_words g ++ (period ∷ duration ∷ [])))

-- the record of an alarm of the section's form. An alarm of the other kind has none there; accepted settings have no such alarm
unfoldable pub kind_bytes : Form → Kind → ℕ → ℕ → List ℕ
kind_bytes DigitalForm (Digital severity) flags duration = digital_bytes flags severity duration
kind_bytes DigitalForm (Analog g s period) flags duration = []
kind_bytes AnalogForm (Digital severity) flags duration = []
kind_bytes AnalogForm (Analog g s period) flags duration = analog_bytes flags g s period duration

abbrev pub record_bytes : Form → Alarm → List ℕ
record_bytes form a = kind_bytes form a.kind a.flags a.duration

unfoldable pub records_bytes : Form → List Alarm → List ℕ
records_bytes form [] = []
records_bytes form (a ∷ rest) = record_bytes form a ++ records_bytes form rest

-- the section of the n alarms from place `first` on: their number, then their records
unfoldable pub section_bytes : Form → ℕ → ℕ → List Alarm → List ℕ
section_bytes form first n alarms = n ∷ records_bytes form (slice first (first + n) alarms)

-- both sections in order
unfoldable pub image_of : Settings → List ℕ
image_of s =
    section_bytes DigitalForm 0 s.counts.digital s.alarms
    ++ section_bytes AnalogForm s.counts.digital s.counts.analog s.alarms

-- the image's length: two counts of one byte, and a record for each alarm
abbrev pub size_of_image : Counts → ℕ
size_of_image counts = 2 + sum_of size_of counts

-- the buffer is long enough. (Counts over 12 stand in no accepted settings, and have no image)
unfoldable pub has_room : Counts → ℕ → Bool
has_room counts n = are_good counts && leb (size_of_image counts) n

-- the image's length, or 13
unfoldable pub written_of : Settings → ℕ → Result ℕ Refusal
written_of s n = cond (has_room s.counts n) (Ok (length (image_of s))) (Err (refusal ImageTooLong 0))

-- the image in front of what stood behind it; a refusal leaves every byte
unfoldable pub image_buffer : Settings → List ℕ → List ℕ
image_buffer s out = cond (has_room s.counts (length out)) (image_of s ++ drop (length (image_of s)) out) out

-- ---- the writer reads a settings block

-- what stands at the places of all alarms, each read by one form
unfoldable pub read_as : Form → List ℕ → List Alarm
read_as form ws = placed (λ p. alarm_in form ws (alarm_at p)) all_most blanks

-- the image's length, or 13; 42 where the words are no settings block
unfoldable pub write_of : List ℕ → ℕ → Result ℕ Refusal
write_of ws room = cond (is_block ws) (written_of (settings_in ws) room) (Err (no_bank 0))

-- the lent buffer after it
unfoldable pub write_buffer : List ℕ → List ℕ → List ℕ
write_buffer ws out = cond (is_block ws) (image_buffer (settings_in ws) out) out
