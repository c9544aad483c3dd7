-- What a scan makes of the alarms of a bank.
use Rattle.std.specs.Prelude.{ℕ, zero, suc, ◌+◌, List, [], ◌++◌, get_or, replicate, Result, Ok, Err}
use Rattle.std.specs.Int.Count.{ones}
use Rattle.layout.specs.Internal.Block.{placed}
use Rattle.settings.specs.Counts.{all_most, in_all, form_at}
use Rattle.settings.specs.Alarm.{blank}
use Rattle.settings.specs.declared.refusals.Refusal.{Refusal}
use Rattle.settings.specs.declared.counts.Counts.{Counts}
use Rattle.settings.specs.declared.types.Alarm.{Alarm}
use Rattle.settings.specs.declared.types.Form.{Form}
use Rattle.state.specs.Internal.Held.{fresh_state}
use Rattle.state.specs.Internal.State.{State, Stepped}
use Rattle.sweep.specs.Internal.Step.{step_of}
use Rattle.event.specs.Event.{Event}
use Rattle.scan_record.specs.Entry.{entry_at}
use Rattle.scan_record.specs.declared.entry.Entry.{Entry}
use Rattle.scan_record.specs.Part.{offset_of}
use Rattle.sweep.specs.Internal.Sweep.{alarm_events}

-- an alarm is stepped with its part of the record; one that is refused, which no checked record has, changes nothing
abbrev pub step_entry : Result Entry Refusal → Alarm → State → ℕ → Stepped
step_entry (Ok e) a s time = step_of a s e.reading e.word time
step_entry (Err r) a s time = record { state = s; events = 0 }

unfoldable pub step_part : Form → List ℕ → ℕ → ℕ → Alarm → State → ℕ → Stepped
step_part form rec at number a s time = step_entry (entry_at form rec at number) a s time

-- the alarm at a place
abbrev pub step_at : List ℕ → Counts → List Alarm → List State → ℕ → ℕ → Stepped
step_at rec counts alarms states time place =
    step_part (form_at counts place) rec (offset_of counts place) (place + 1) (get_or alarms place blank) (get_or states place fresh_state) time

-- the states after the scan
abbrev pub states_after : List ℕ → Counts → List Alarm → List State → ℕ → List State
states_after rec counts alarms states time = placed (λ p. (step_at rec counts alarms states time p).state) (in_all counts) states

-- the event words of the alarms, laid over what stood there
abbrev pub words_after : List ℕ → Counts → List Alarm → List State → ℕ → List ℕ → List ℕ
words_after rec counts alarms states time words = placed (λ p. (step_at rec counts alarms states time p).events) (in_all counts) words

-- the states after the scan, and the event word of each alarm
pub record Plan : Type 0 where
  pub states : List State
  pub events : List ℕ

unfoldable pub plan_of : List ℕ → Counts → List Alarm → List State → ℕ → Plan
plan_of rec counts alarms states time =
    record {
      states = states_after rec counts alarms states time;
      events = words_after rec counts alarms states time (replicate all_most 0);
    }

-- how many events the first n words stand for
unfoldable pub count_of : List ℕ → ℕ → ℕ
count_of events zero = 0
count_of events (suc n) = count_of events n + ones (get_or events n 0)

-- the events of the first n alarms, in number order
unfoldable pub events_up_to : List Alarm → List State → List ℕ → ℕ → ℕ → List Event
events_up_to alarms states events time zero = []
events_up_to alarms states events time (suc n) =
    events_up_to alarms states events time n
    ++ alarm_events (suc n) (get_or alarms n blank) (get_or states n fresh_state) (get_or events n 0) time
