-- The settings block: the layout word, the counts, and the alarms' words; where an alarm's words begin in each block.
use Rattle.std.specs.Prelude.{ℕ, zero, suc, ◌+◌, ◌*◌, ◌-◌, ◌<◌, ◌≡◌, Bool, ◌&&◌, List, [], ◌∷◌, ◌++◌, eqb, length, get_or, set, replicate}
use Rattle.layout.specs.Internal.Sizes.{places, settings_head, states_head, alarm_size, state_size, mark_size, settings_size}
use Rattle.settings.specs.Refusals.{refusal}
use Rattle.settings.specs.declared.refusals.Refusal.{Refusal}
use Rattle.settings.specs.declared.refusals.Reason.TheVariants.{NoBank}
use Rattle.settings.specs.Counts.{all_most, in_all, form_at}
use Rattle.settings.specs.Alarm.{blank, blanks}
use Rattle.settings.specs.declared.counts.Counts.{Counts}
use Rattle.settings.specs.declared.types.Alarm.{Alarm}
use Rattle.settings.specs.declared.types.Settings.{Settings}
use Rattle.layout.specs.declared.block.Block.{Block}
use Rattle.layout.specs.declared.block.Block.TheVariants.{Settings as SettingsBlock, States as StatesBlock, Marks as MarksBlock}
use Rattle.layout.specs.Internal.Words.{alarm_in, alarm_words, form_of}

-- the letters MEIFGUR2, the first in the highest byte
abbrev pub layout_word : ℕ
layout_word = 0x4D45494647555232

-- where the words of the alarm at a place begin
abbrev pub alarm_at : ℕ → ℕ
alarm_at place = settings_head + alarm_size * place

-- and those of its state, of which 11 are used
abbrev pub state_at : ℕ → ℕ
state_at place = states_head + state_size * place

-- and its counts and stamps
abbrev pub mark_at : ℕ → ℕ
mark_at place = mark_size * place

-- the layout word, the counts, and room for a third one
abbrev pub head_words : Counts → List ℕ
head_words counts = layout_word ∷ counts.digital ∷ counts.analog ∷ 0 ∷ []

-- alarms one after the other
unfoldable pub alarms_words : List Alarm → List ℕ
alarms_words [] = []
alarms_words (a ∷ rest) = alarm_words a ++ alarms_words rest

-- the whole block: the head, the places of the alarms, and the further places of 0
unfoldable pub settings_words : Settings → List ℕ
settings_words s = head_words s.counts ++ (alarms_words s.alarms ++ replicate (alarm_size * (places - all_most)) 0)

-- the words say the first n alarms, each read by its own form
abbrev pub Says : List Alarm → ℕ → List ℕ → Type 0
Says alarms n ws = (p : ℕ) → p < n → alarm_in (form_of (get_or alarms p blank).kind) ws (alarm_at p) ≡ get_or alarms p blank

-- ---- the settings that a block stands for, whatever its words are

module _ {X : Type 0} where
  -- the first n elements are those that f gives for their places; the rest stay
  unfoldable pub placed : (ℕ → X) → ℕ → List X → List X
  placed f zero xs = xs
  placed f (suc n) xs = set (placed f n xs) n (f n)

abbrev pub counts_in : List ℕ → Counts
counts_in ws = record { digital = get_or ws 1 0; analog = get_or ws 2 0 }

-- how many alarms there are
abbrev pub count_in : List ℕ → ℕ
count_in ws = in_all (counts_in ws)

-- the alarm at a place, by the form that the place has
abbrev pub alarm_on : List ℕ → ℕ → Alarm
alarm_on ws p = alarm_in (form_at (counts_in ws) p) ws (alarm_at p)

-- the places behind the last alarm are blank
unfoldable pub settings_in : List ℕ → Settings
settings_in ws = record { counts = counts_in ws; alarms = placed (alarm_on ws) (count_in ws) blanks }

-- a block that a call wrote: its length is right, and its first word says this layout
abbrev pub is_block : List ℕ → Bool
is_block ws = eqb (length ws) settings_size && eqb (get_or ws 0 0) layout_word

-- lent blocks that hold no bank. The place is the block: 0 settings, 1 states, 2 counts and stamps
abbrev pub no_bank : ℕ → Refusal
no_bank block = refusal NoBank block

-- the blocks, as code has them
abbrev pub block_number : Block → ℕ
block_number SettingsBlock = 0
block_number StatesBlock = 1
block_number MarksBlock = 2
