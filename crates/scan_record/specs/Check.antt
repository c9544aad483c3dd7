-- The check of a whole scan record: its length and time, then each alarm in number order, the first refusal named.
use Rattle.std.specs.Prelude.{ℕ, zero, suc, ◌+◌, List, ◌&&◌, cond, ltb, eqb, length, Result, Ok, Err, ⊤}
use Rattle.settings.specs.Refusals.{refusal, and_then}
use Rattle.settings.specs.declared.refusals.Refusal.{Refusal}
use Rattle.settings.specs.declared.refusals.Reason.TheVariants.{WrongLength, EarlierTime}
use Rattle.scan_record.specs.Part.{time_size, time_of, record_size}
use Rattle.settings.specs.Counts.{are_good, in_all, form_at}
use Rattle.settings.specs.declared.counts.Counts.{Counts}
use Rattle.scan_record.specs.Entry.{entry_at}

-- the first refusal of the k alarms from a place on, whose parts begin at offset `at`; alarm numbers begin at 1
unfoldable pub check_from : List ℕ → Counts → ℕ → ℕ → ℕ → Result ⊤ Refusal
check_from bytes counts zero place at = Ok tt
check_from bytes counts (suc k) place at =
    and_then (entry_at (form_at counts place) bytes at (place + 1)) (λ e. check_from bytes counts k (place + 1) e.next)

-- a record, given the numbers of alarms, which give it its length, and the time of the last accepted scan. (Counts over 12 stand in no bank
-- that a call handed back; no record is theirs)
unfoldable pub check_record : Counts → ℕ → List ℕ → Result ⊤ Refusal
check_record counts last rec =
    cond (are_good counts && eqb (length rec) (record_size counts))
    (cond (ltb (time_of rec) last) (Err (refusal EarlierTime 0)) (check_from rec counts (in_all counts) 0 time_size))
    (Err (refusal WrongLength 0))
