-- One scan of a bank: the answer, the bank after it, and the lent event buffer.
use Rattle.std.specs.Prelude.{ℕ, ◌*◌, List, ◌++◌, Bool, cond, ltb, length, get_or, drop, Result, Ok, Err, ⊤}
use Rattle.settings.specs.Counts.{in_all}
use Rattle.settings.specs.Refusals.{refusal}
use Rattle.settings.specs.declared.refusals.Refusal.{Refusal}
use Rattle.settings.specs.declared.refusals.Reason.TheVariants.{EventsTooLong}
use Rattle.event.specs.Event.{Event, event_size, log_bytes}
use Rattle.scan_record.specs.Part.{time_of}
use Rattle.scan_record.specs.Check.{check_record}
use Rattle.marks.specs.Internal.Marks.{mark_alarms}
use Rattle.state.specs.Internal.Held.{fresh_state}
use Rattle.state.specs.Internal.State.{starts_of}
use Rattle.scan.specs.Internal.Plan.{Plan, plan_of, events_up_to}
use Rattle.bank.specs.Internal.Bank.{Bank}
use Rattle.bank.specs.Internal.Words.{on_reply}

-- a bank after a scan, and the answer
pub record Scanned : Type 0 where
  pub bank : Bank
  pub answer : Result ℕ Refusal

-- what is new after an accepted scan; what stood stands after a refused one
abbrev pub if_accepted : {X : Type 0} → Result ℕ Refusal → X → X → X
if_accepted (Ok n) new old = new
if_accepted (Err r) new old = old

-- 7, 8, then each alarm in number order 9, 10, 11
abbrev pub check_of : Bank → List ℕ → Result ⊤ Refusal
check_of b rec = check_record b.settings.counts b.time rec

-- how many alarms the bank has
abbrev pub alarms_of : Bank → ℕ
alarms_of b = in_all b.settings.counts

-- the states after a checked record, and the event words
abbrev pub plan_for : Bank → List ℕ → Plan
plan_for b rec = plan_of rec b.settings.counts b.settings.alarms b.states (time_of rec)

-- when the rows of the conditions of the alarm at a place began, after a checked record
abbrev pub starts_after : Bank → List ℕ → ℕ → List ℕ
starts_after b rec p = starts_of (get_or (plan_for b rec).states p fresh_state)

-- the events of a checked record
abbrev pub events_in : Bank → List ℕ → List Event
events_in b rec = events_up_to b.settings.alarms (plan_for b rec).states (plan_for b rec).events (time_of rec) (alarms_of b)

-- the bank after a checked record; settings stay
abbrev pub bank_after : Bank → List ℕ → Bank
bank_after b rec =
    record {
      settings = b.settings;
      time = time_of rec;
      states = (plan_for b rec).states;
      marks = mark_alarms b.settings.alarms (starts_after b rec) (plan_for b rec).events (time_of rec) (alarms_of b) b.marks;
    }

-- the buffer is too short for 16 bytes an event
abbrev pub too_short : Bank → List ℕ → ℕ → Bool
too_short b rec room = ltb room (event_size * length (events_in b rec))

-- a refusal hands back the bank
abbrev pub refused_scan : Bank → Refusal → Scanned
refused_scan b r = record { bank = b; answer = Err r }

-- of a checked record, given the buffer's length: 12, or the number of events and the bank after it
unfoldable pub checked_scan : Bank → List ℕ → ℕ → Scanned
checked_scan b rec room =
    cond (too_short b rec room)
    (refused_scan b (refusal EventsTooLong 0))
    (record { bank = bank_after b rec; answer = Ok (length (events_in b rec)) })

-- the event records in front of what stood behind them; a refusal leaves every byte
unfoldable pub checked_buffer : Bank → List ℕ → List ℕ → List ℕ
checked_buffer b rec out =
    cond (too_short b rec (length out)) out (log_bytes (events_in b rec) ++ drop (length (log_bytes (events_in b rec))) out)

-- a scan
unfoldable pub scan_of : Bank → List ℕ → ℕ → Scanned
scan_of b rec room = on_reply (check_of b rec) (checked_scan b rec room) (λ r. refused_scan b r)

-- the lent event buffer after it
unfoldable pub event_buffer : Bank → List ℕ → List ℕ → List ℕ
event_buffer b rec out = on_reply (check_of b rec) (checked_buffer b rec out) (λ r. out)
