-- A refusal: the reason, a name for each of document 01's numbers, and the place. Settings: 1 a byte of a count or of a record missing, 2 a count over 12, both
-- at the offset; 3 an unknown flag, 4 a number outside its range, 5 the rules of limits and Deadband, at the record's offset; 6 bytes left over,
-- at the first. A scan: 7 its length, 8 its time; 9 a digital byte that is not 0 or 1, 10 a bad REAL, 11 a bit that its kind lacks, at the alarm;
-- 12 the event buffer is too short. 13 a buffer is shorter than the image, 14 there is no such alarm. A place that is not named is 0.
use Rattle.std.specs.Prelude.{ℕ, Bool, cond, List, [], ◌∷◌, Result, Ok, Err}
use Rattle.settings.specs.declared.refusals.Refusal.{Refusal}
use Rattle.settings.specs.declared.refusals.Reason.{Reason}
use Rattle.settings.specs.declared.refusals.Reason.TheVariants.{Incomplete, TooMany, UnknownFlag, OutOfRange, WrongLimits, LeftOver}
use Rattle.settings.specs.declared.refusals.Reason.TheVariants.{WrongLength, EarlierTime, NotABit, BadReal, UnknownCommand}
use Rattle.settings.specs.declared.refusals.Reason.TheVariants.{EventsTooLong, ImageTooLong, NoSuchAlarm, NoBank}

abbrev pub refusal : Reason → ℕ → Refusal
refusal reason place = record { reason = reason; place = place }

-- document 01's number of each reason; 42: the lent words are no bank's
abbrev pub number_of : Reason → ℕ
number_of Incomplete = 1
number_of TooMany = 2
number_of UnknownFlag = 3
number_of OutOfRange = 4
number_of WrongLimits = 5
number_of LeftOver = 6
number_of WrongLength = 7
number_of EarlierTime = 8
number_of NotABit = 9
number_of BadReal = 10
number_of UnknownCommand = 11
number_of EventsTooLong = 12
number_of ImageTooLong = 13
number_of NoSuchAlarm = 14
number_of NoBank = 42

-- what an answer says of a refusal: its number and its place, and nothing where nothing was refused
abbrev pub refused_by : {A : Type 0} → Result A Refusal → List ℕ
refused_by (Ok a) = []
refused_by (Err r) = number_of r.reason ∷ r.place ∷ []

-- what follows where nothing was refused; a refusal stays
abbrev pub and_then : {A B : Type 0} → Result A Refusal → (A → Result B Refusal) → Result B Refusal
and_then (Ok a) f = f a
and_then (Err r) f = Err r

-- of checks in order, each a refusal and the test that spares it, the first that fails gives its refusal; what was read stands where all hold
unfoldable pub checked : {A : Type 0} → List (Refusal × Bool) → A → Result A Refusal
checked [] read = Ok read
checked (c ∷ rest) read = cond c.1 (checked rest read) (Err c.0)
