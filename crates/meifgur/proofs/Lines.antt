-- The lines of what is left, when one more is taken, and at the end.
use mathlib.Core.Path.{◌≡◌, refl, sym, ap, ◌∙◌}
use mathlib.Core.Logic.{◌⊎◌, inl, inr}
use Prim.Native.Nat.{ℕ, ◌+◌, ◌-◌, ◌<◌, ◌≤◌, suc}
use native.Mathlib.Omega.{arith}
use mathlib.Core.List.{List, [], ◌∷◌, ◌++◌}
use lib.ListN.{get_or, take}
use Rattle.std.specs.Prelude.{flat_map, length}
use Rattle.std.proofs.lemmas.List.{flat_map_more, take_more}
use Rattle.std.proofs.lemmas.Bool.{lt-ltb, le-ltb}
use Rattle.report.specs.declared.status.Status.{Status}
use Rattle.std.specs.Prelude.{Ok}
use Rattle.std.specs.List.{range_with_len}
use Rattle.std.specs.declared.ops.Range.{Range}
use Rattle.settings.specs.Counts.{form_at}
use Rattle.settings.specs.declared.types.Form.{Form}
use Rattle.layout.specs.Internal.Block.{counts_in}
use Rattle.bank.specs.Lent.{Words}
use Rattle.report.specs.Internal.Report.{report_in}
use Rattle.report.specs.declared.report.AlarmReport.{AlarmReport}
use Rattle.bank_text.specs.Internal.Owned.{said_of}
use Rattle.bank_text.specs.Internal.Show.{first_number, end_of_numbers}
use Rattle.meifgur.specs.Internal.Show.{condition_line, lines_from, alarm_lines, said_lines}

-- the lines of the events up to an index, and of one more
pub events-next : {X : Type 0} (line : X → List ℕ) (xs : List X) (i : ℕ) (d : X) → i < length xs →
    flat_map line (take i xs) ++ line (get_or xs i d) ≡ flat_map line (take (i + 1) xs)
events-next line xs i d below = flat_map_more line [] (take i xs) (get_or xs i d) ∙ sym (ap (flat_map line) (take_more xs i d below))

-- the lines of the conditions from a number on
pub conditions-next : (alarm condition first next end after : ℕ) (status : Status) (left rest : List Status) →
    ((after ≡ end) × ((0 < end - first) × (condition ≡ first) × (next ≡ first + 1))) × (left ≡ status ∷ rest) →
    lines_from alarm first end left ≡ condition_line alarm condition status ++ lines_from alarm next after rest
conditions-next alarm condition first next end after status left rest step =
    let below : first < end = omega (arith, step.0.1.0) in
    rw (step.1, step.0.0, step.0.1.1, step.0.1.2, lt-ltb first end below) refl

pub conditions-end : {A B : Type 0} (alarm first end : ℕ) (left : List Status) → (A → end - first ≡ 0) → (B → length left ≡ 0) →
    A ⊎ B → lines_from alarm first end left ≡ []
conditions-end alarm first end [] past none _ = refl
conditions-end alarm first end (status ∷ rest) past none (inl a) = rw (le-ltb first end (omega (arith, past a))) refl
conditions-end alarm first end (status ∷ rest) past none (inr b) = absurd (omega (arith, none b))

-- the lines of an alarm that the bank has
pub alarm-lines : (words : Words) (alarm : ℕ) (found : AlarmReport) (form : Form) (numbers : Range ℕ) (conditions : List Status) →
    said_of (report_in words alarm) ≡ Ok found → form ≡ form_at (counts_in words.settings) (alarm - 1) →
    numbers ≡ record { start = first_number form; end = end_of_numbers form } → conditions ≡ found.conditions →
    lines_from alarm numbers.start numbers.end conditions ≡ alarm_lines words alarm
alarm-lines words alarm found form numbers conditions said is_form are_numbers are_conditions =
    rw (are_numbers, are_conditions, is_form) (sym (ap (said_lines alarm (form_at (counts_in words.settings) (alarm - 1))) said))

-- the lines of all alarms from one on
pub alarms-next : (line : ℕ → List ℕ) (alarm end : ℕ) → alarm ≤ end →
    flat_map line (range_with_len alarm (end + 1 - alarm)) ≡ line alarm ++ flat_map line (range_with_len (alarm + 1) (end + 1 - (alarm + 1)))
alarms-next line alarm end below =
    let more : end + 1 - alarm ≡ suc (end + 1 - (alarm + 1)) = omega (arith, below) in
    rw more refl
