-- Settings that are read are sound; refused ones have no alarms. Assumes nothing.
use mathlib.Core.List.{List}
use Prim.Native.Nat.{ℕ, ◌≤◌, ◌<◌}
use native.Mathlib.Omega.{arith}
use borrow.Author.Tests.{lt-ltb, le-ltb}
use lib.ListN.{get_or}
use Rattle.settings.specs.Counts.{in_all}
use Rattle.settings.specs.Alarm.{blank}
use Rattle.settings.specs.Internal.Sound.{SoundAlarm}
use Rattle.settings.specs.declared.types.Settings.{Settings}
use Rattle.settings.specs.declared.types.Form.TheVariants.{Digital, Analog}
use Rattle.settings_record.proofs.Sound.{sound}
use Rattle.reader.specs.Read.{in_full, settings_of}
use Rattle.reader.specs.Internal.Sound.{SoundSettings}
use Rattle.reader.proofs.Settled.{settled}

pub sound-settings : (image : List ℕ) → SoundSettings (settings_of image)
sound-settings image =
    let s = settled image SoundAlarm (λ form at a next e. sound form (in_full image) at e) in
    record { most = s.most; long = s.long; sound = s.read }

-- the alarms of each section

module _ (s : Settings) (ok : SoundSettings s) (i : ℕ) where
  pub digital-sound : i < s.counts.digital → SoundAlarm Digital (get_or s.alarms i blank)
  digital-sound h = rw (lt-ltb i s.counts.digital h) at (ok.sound i (omega arith))

  pub analog-sound : s.counts.digital ≤ i → i < in_all s.counts → SoundAlarm Analog (get_or s.alarms i blank)
  analog-sound l h = rw (le-ltb i s.counts.digital l) at (ok.sound i h)
