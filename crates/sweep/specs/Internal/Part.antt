-- What a scan does to the alarm that it comes to, in terms of what the code passes on.
use Rattle.std.specs.Prelude.{ℕ, List}
use Rattle.state.specs.Internal.State.{Stepped}
use Rattle.sweep.specs.declared.part.Scan.{Scan}
use Rattle.sweep.specs.declared.part.Part.{Part}
use Rattle.sweep.specs.Internal.Sweep.{state_log, state_marks, place_step, place_states, place_log, place_marks}

-- from the words of its state after the scan and its event word: the bytes of its events, and its counts and stamps
abbrev pub log_of : Scan → Part → List ℕ → ℕ → List ℕ
log_of scan part states word = state_log part.form scan.settings.now states part.place.index word scan.time

abbrev pub marks_of : Scan → Part → List ℕ → ℕ → List ℕ → List ℕ
marks_of scan part states word marks = state_marks part.form scan.settings.now states part.place.index word scan.time marks

-- stepped with its part of the record
abbrev pub part_step : Scan → Part → List ℕ → Stepped
part_step scan part states = place_step part.form scan.settings.now states part.bytes.now part.at part.place.index scan.time

-- the words of all states after it
abbrev pub part_states : Scan → Part → List ℕ → List ℕ
part_states scan part states = place_states part.form scan.settings.now states part.bytes.now part.at part.place.index scan.time

-- the bytes of its events
abbrev pub part_log : Scan → Part → List ℕ → List ℕ
part_log scan part states = place_log part.form scan.settings.now states part.bytes.now part.at part.place.index scan.time

-- the counts and stamps of all after it
abbrev pub part_marks : Scan → Part → List ℕ → List ℕ → List ℕ
part_marks scan part states marks = place_marks part.form scan.settings.now states part.bytes.now part.at part.place.index scan.time marks
