-- Every word and every event after a checked record, alarm by alarm; every content of the words is stepped.
use Rattle.std.specs.Prelude.{ℕ, zero, suc, ◌+◌, ◌*◌, ◌≤◌, ◌<◌, ◌≡◌, List, [], ◌++◌, length, set}
use Rattle.std.proofs.lemmas.List.Edits.{sets}
use Rattle.layout.specs.Internal.Sizes.{marks_size, settings_size, states_size}
use Rattle.wire.specs.Bits.{bit}
use Rattle.wire.specs.Internal.Places.{suppressed_flag, word_bits}
use Rattle.settings.specs.Counts.{sum_of, form_at}
use Rattle.settings.specs.Alarm.{ack_required}
use Rattle.settings.specs.Internal.Few.{Few}
use Rattle.settings.specs.declared.counts.Counts.{Counts}
use Rattle.settings.specs.declared.types.Alarm.{Alarm}
use Rattle.settings.specs.declared.types.Form.{Form}
use Rattle.settings.specs.declared.types.Form.TheVariants.{Digital, Analog}
use Rattle.layout.specs.Internal.Words.{alarm_in}
use Rattle.layout.specs.Internal.Block.{alarm_at, counts_in, count_in, alarm_on, state_at, mark_at}
use Rattle.scan_record.specs.Part.{time_of, reading_at, word_at, offset_of, record_size}
use Rattle.event.specs.Event.{Event, event_size, log_bytes}
use Rattle.event.specs.Internal.Bits.{events_of}
use Rattle.state.specs.Internal.State.{State, Stepped, starts_of, state_in, state_words}
use Rattle.sweep.specs.Internal.Step.{step_of}
use Rattle.marks.specs.Internal.Marks.{mark_alarm}
use Rattle.bank.specs.Lent.{Words}

-- the events of the alarm with a number, from its state after the scan and its event word
abbrev pub alarm_events : ℕ → Alarm → State → ℕ → ℕ → List Event
alarm_events number a s word time = events_of number a.kind (bit s.flags suppressed_flag) time word_bits 0 word

-- the counts and stamps after it of the alarm at a place, in the words of all
abbrev pub alarm_marks : ℕ → Alarm → State → ℕ → ℕ → List ℕ → List ℕ
alarm_marks p a s word time marks = mark_alarm (ack_required a.kind a.flags) (starts_of s) word time (mark_at p) marks

-- the alarms from a place on have a form
abbrev pub HaveForm : Counts → ℕ → ℕ → Form → Type 0
HaveForm counts first count form = (p : ℕ) → first ≤ p → p < first + count → form_at counts p ≡ form

-- ---- the alarm at a place, by its form

-- the bytes of its events, and its counts and stamps, from the words of its state after the scan and its event word
unfoldable pub state_log : Form → List ℕ → List ℕ → ℕ → ℕ → ℕ → List ℕ
state_log form settings states p word time =
    log_bytes (alarm_events (p + 1) (alarm_in form settings (alarm_at p)) (state_in states (state_at p)) word time)

unfoldable pub state_marks : Form → List ℕ → List ℕ → ℕ → ℕ → ℕ → List ℕ → List ℕ
state_marks form settings states p word time marks =
    alarm_marks p (alarm_in form settings (alarm_at p)) (state_in states (state_at p)) word time marks

-- stepped with the part of a record that begins at an offset

module _ (form : Form) (settings states rec : List ℕ) (at p time : ℕ) where
  unfoldable pub place_step : Stepped
  place_step = step_of (alarm_in form settings (alarm_at p)) (state_in states (state_at p)) (reading_at form rec at) (word_at form rec at) time

  -- the words of all states after it
  unfoldable pub place_states : List ℕ
  place_states = sets states (state_at p) (state_words place_step.state)

  -- the bytes of its events
  unfoldable pub place_log : List ℕ
  place_log = log_bytes (alarm_events (p + 1) (alarm_in form settings (alarm_at p)) place_step.state place_step.events time)

  unfoldable pub place_marks : List ℕ → List ℕ
  place_marks marks = alarm_marks p (alarm_in form settings (alarm_at p)) place_step.state place_step.events time marks

-- ---- all alarms

-- a bank's words, and a record of its length
pub record Ready (w : Words) (rec : List ℕ) (counts : Counts) : Type 0 where
  pub most : Few counts
  pub settings-long : length w.settings ≡ settings_size
  pub states-long : length w.states ≡ states_size
  pub marks-long : length w.marks ≡ marks_size
  pub counts-are : counts ≡ counts_in w.settings
  pub record-long : length rec ≡ record_size counts

-- how many events an alarm has at most in a scan, and how many bytes the events of all
abbrev pub most_events : Form → ℕ
most_events Digital = 5
most_events Analog = 15

abbrev pub most_bytes : Counts → ℕ
most_bytes counts = event_size * sum_of most_events counts

module _ (w : Words) (rec : List ℕ) where
  abbrev pub part_at : ℕ → ℕ
  part_at p = offset_of (counts_in w.settings) p

  -- the alarm at a place, stepped
  unfoldable pub step_on : ℕ → Stepped
  step_on p = place_step (form_at (counts_in w.settings) p) w.settings w.states rec (part_at p) p (time_of rec)

  -- its events
  unfoldable pub events_on : ℕ → List Event
  events_on p = alarm_events (p + 1) (alarm_on w.settings p) (step_on p).state (step_on p).events (time_of rec)

  -- the states after n alarms from a place on; every other word stays
  unfoldable pub stepped_from : ℕ → ℕ → List ℕ
  stepped_from first zero = w.states
  stepped_from first (suc n) = sets (stepped_from first n) (state_at (first + n)) (state_words (step_on (first + n)).state)

  -- their counts and stamps
  unfoldable pub marked_from : ℕ → ℕ → List ℕ
  marked_from first zero = w.marks
  marked_from first (suc n) =
      alarm_marks (first + n) (alarm_on w.settings (first + n)) (step_on (first + n)).state (step_on (first + n)).events (time_of rec) (marked_from first n)

  -- their events
  unfoldable pub logged_from : ℕ → ℕ → List Event
  logged_from first zero = []
  logged_from first (suc n) = logged_from first n ++ events_on (first + n)

  -- and the bytes of these
  unfoldable pub log_from : ℕ → ℕ → List ℕ
  log_from first n = log_bytes (logged_from first n)

  -- all of them
  abbrev pub log_after : List ℕ
  log_after = log_from 0 (count_in w.settings)

  -- the words after it: states, the time in front of them, counts and stamps
  unfoldable pub words_after : Words
  words_after =
      record {
        settings = w.settings;
        states = set (stepped_from 0 (count_in w.settings)) 0 (time_of rec);
        marks = marked_from 0 (count_in w.settings);
      }
