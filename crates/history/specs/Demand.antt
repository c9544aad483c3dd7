-- The terms of demand 3 for the conditions C of one alarm, from facts of its scans alone.
use Rattle.std.specs.Prelude.{ℕ, min, ◌≡◌, List, [], ◌∷◌, Bool, true, false, not, ◌&&◌, ◌||◌}
use Rattle.history.specs.Past.{Fact, since, Since, count_from}

-- what an alarm's settings and scans say, before any alarm is worked out
pub record Facts (S C : Type 0) : Type 1 where
  -- the alarm is enabled in the scan
  pub enabled : Fact S
  pub met : C → Fact S
  pub cleared : C → Fact S
  -- its run has lasted at least MinDuration
  pub lasted : C → Fact S
  -- it is a level, and of what was in alarm after the scan before, some condition of its side
  pub beside : C → (C → Bool) → Bool
  -- it is a rate
  pub rate : C → Bool
  -- the scan acknowledges it
  pub ack : C → Fact S
  -- the scan resets the counts
  pub reset : Fact S
  -- AckRequired
  pub required : Bool

module _ {S C : Type 0} (f : Facts S C) where
  -- due, given which conditions were in alarm after the scan before: enabled and met, and one of three
  abbrev pub due_given : (C → Bool) → C → Fact S
  due_given before c s past = f.enabled s past && f.met c s past && (f.lasted c s past || (f.beside c before || f.rate c))

  -- neither cleared nor left disabled
  abbrev pub stays : C → Fact S
  stays c s past = f.enabled s past && not (f.cleared c s past)

  -- the first description, computed: some scan had it due, and no later scan cleared it or left its alarm disabled
  unfoldable pub in_alarm : List S → C → Bool
  in_alarm [] c = false
  in_alarm (s ∷ past) c = due_given (in_alarm past) c s past || stays c s past && in_alarm past c

  -- due: "in alarm" in it is the first description, of the list that ends with the scan before
  abbrev pub due : C → Fact S
  due c s past = due_given (in_alarm past) c s past

  -- a scan in which the condition is due and was not in alarm after the scan before
  abbrev pub activation : C → Fact S
  activation c s past = due c s past && not (in_alarm past c)

  -- neither acknowledged nor left disabled
  abbrev pub unanswered : C → Fact S
  unanswered c s past = f.enabled s past && not (f.ack c s past)

  -- the second description, computed: acknowledgement required, and some activation with no later acknowledgement or disabled scan
  abbrev pub unacknowledged : List S → C → Bool
  unacknowledged scans c = f.required && since (activation c) (unanswered c) scans

  -- the third: the smaller of 2,147,483,647 and the number of activations from the last count reset on, that scan included, or in the whole list
  abbrev pub count : List S → C → ℕ
  count scans c = min 2147483647 (count_from f.reset (activation c) scans)

  -- a scan that acknowledges the condition, which was unacknowledged
  abbrev pub answer : C → Fact S
  answer c s past = f.enabled s past && f.ack c s past && unacknowledged past c

  -- a scan that clears it, which was in alarm
  abbrev pub return : C → Fact S
  return c s past = f.enabled s past && in_alarm past c && f.cleared c s past

  -- the first two descriptions in words
  abbrev pub InAlarm : List S → C → Type 0
  InAlarm scans c = Since (due c) (stays c) scans

  abbrev pub Unacknowledged : List S → C → Type 0
  Unacknowledged scans c = (f.required ≡ true) × Since (activation c) (unanswered c) scans
