-- What a settings image means: settings, or a refusal.
use Rattle.std.specs.Prelude.{ℕ, List, [], ◌∷◌, ◌++◌, replicate, cond, ltb, length, Result, Ok, Err}
use Rattle.std.specs.Result.{result_unwrap_or}
use mathlib.Core.List.{foldr}
use Rattle.wire.specs.Number.{bytes}
use Rattle.settings.specs.Counts.{each_most}
use Rattle.settings.specs.Alarm.{blanks, empty, factory}
use Rattle.settings.specs.Refusals.{refusal, and_then}
use Rattle.settings.specs.declared.refusals.Refusal.{Refusal}
use Rattle.settings.specs.declared.refusals.Reason.TheVariants.{LeftOver}
use Rattle.settings.specs.declared.types.Settings.{Settings}
use Rattle.settings.specs.declared.types.Form.TheVariants.{Digital, Analog}
use Rattle.reader.specs.Section.{Section, section_at}

-- after the digital section: the analog section, then nothing more (6 at the first byte left over)
unfoldable pub rest_of : List ℕ → Section → Result Settings Refusal
rest_of image digital =
    and_then (section_at Analog image digital.count digital.next digital.alarms)
    (λ analog.
    cond (ltb analog.next (length image)) (Err (refusal LeftOver analog.next))
    (Ok (record { counts = record { digital = digital.count; analog = analog.count }; alarms = analog.alarms })))

-- an image that has bytes: the digital section from offset 0, then the rest
unfoldable pub sections_of : List ℕ → Result Settings Refusal
sections_of image = and_then (section_at Digital image 0 0 blanks) (rest_of image)

-- every image: one of no bytes means the factory bank
unfoldable pub read_of : List ℕ → Result Settings Refusal
read_of [] = Ok factory
read_of (b ∷ rest) = sections_of (b ∷ rest)

-- an alarm's record in the factory bank's image: flags, Severity, MinDuration
abbrev pub factory_record : List ℕ
factory_record = 3 ∷ (bytes 4 500 ++ bytes 4 0)

-- an image in full: itself, and of no bytes the factory bank's, which is a count, twelve records, and no analog alarms
unfoldable pub in_full : List ℕ → List ℕ
in_full [] = each_most ∷ (foldr (λ r rest. r ++ rest) (0 ∷ []) (replicate each_most factory_record))
in_full (b ∷ rest) = b ∷ rest

-- the settings that are read; refused settings give a bank without alarms
abbrev pub settings_of : List ℕ → Settings
settings_of image = result_unwrap_or (read_of image) empty
