-- The check of alarms of one form.
use Rattle.std.specs.Prelude.{ℕ, zero, suc, ◌+◌, List, Result, Ok, ⊤}
use Rattle.settings.specs.Refusals.{and_then}
use Rattle.settings.specs.declared.refusals.Refusal.{Refusal}
use Rattle.settings.specs.declared.types.Form.{Form}
use Rattle.scan_record.specs.Entry.{entry_at}

-- `check_from` of alarms of one form
unfoldable pub check_form : Form → List ℕ → ℕ → ℕ → ℕ → Result ⊤ Refusal
check_form form bytes zero place at = Ok tt
check_form form bytes (suc k) place at =
    and_then (entry_at form bytes at (place + 1)) (λ e. check_form form bytes k (place + 1) e.next)
