-- What is true of accepted settings, whatever image they came from.
use Rattle.std.specs.Prelude.{ℕ, ◌<◌, ◌≡◌, length, get_or}
use Rattle.settings.specs.Counts.{all_most, in_all, form_at}
use Rattle.settings.specs.Alarm.{blank}
use Rattle.settings.specs.Internal.Few.{Few}
use Rattle.settings.specs.Internal.Sound.{SoundAlarm}
use Rattle.settings.specs.declared.types.Settings.{Settings}

-- at most 12 alarms of each form, each sound
pub record SoundSettings (s : Settings) : Type 0 where
  pub most : Few s.counts
  pub long : length s.alarms ≡ all_most
  pub sound : (i : ℕ) → i < in_all s.counts → SoundAlarm (form_at s.counts i) (get_or s.alarms i blank)
