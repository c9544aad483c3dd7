-- A bank of alarms as a value, and before its first scan.
use Rattle.std.specs.Prelude.{ℕ, List, replicate}
use Rattle.layout.specs.Internal.Sizes.{marks_size}
use Rattle.settings.specs.Counts.{all_most}
use Rattle.reader.specs.Read.{settings_of}
use Rattle.settings.specs.declared.types.Settings.{Settings}
use Rattle.state.specs.Internal.Held.{fresh_state}
use Rattle.state.specs.Internal.State.{State}

-- what the words of a bank stand for. `marks` has 25 words for each alarm: its count reset stamp, then count, alarm stamp, ack stamp and
-- return stamp of each condition
pub record Bank : Type 0 where
  pub settings : Settings
  -- of the last accepted scan
  pub time : ℕ
  pub states : List State
  pub marks : List ℕ

-- no scan was accepted yet: time, states, counts and stamps are 0
unfoldable pub fresh_bank : Settings → Bank
fresh_bank s = record { settings = s; time = 0; states = replicate all_most fresh_state; marks = replicate marks_size 0 }

-- the bank of a settings image; of a refused one a bank without alarms
unfoldable pub load_of : List ℕ → Bank
load_of image = fresh_bank (settings_of image)
