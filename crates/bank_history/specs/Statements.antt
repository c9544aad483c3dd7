-- The public statements: what every list of calls gives, from an accepted settings image on, and demand 3.
use Rattle.std.specs.Prelude.{ℕ, ◌-◌, ◌≤◌, ◌<◌, ◌≡◌, true, not, cond, ◌&&◌, List, [], ◌∷◌, ◌++◌, T, leb, length, get_or, drop, Ok, Err}
use Rattle.std.proofs.Math.Pow.{are_bytes}
use Rattle.settings.specs.Counts.{in_all}
use Rattle.settings.specs.Condition.{In, conditions_of}
use Rattle.std.specs.Result.{IsOk, is_ok}
use Rattle.settings.specs.Refusals.{refusal, refused_by}
use Rattle.settings.specs.declared.refusals.Reason.TheVariants.{ImageTooLong}
use Rattle.history.specs.Words.{Demand3}
use Rattle.event.specs.Event.{events_enough}
use Rattle.reader.specs.Read.{read_of, in_full, settings_of}
use Rattle.image.specs.Internal.Write.{write_of, write_buffer}
use Rattle.scan_record.specs.Check.{check_record}
use Rattle.alarm_history.specs.Facts.{rules_of, facts}
use Rattle.bank.specs.Lent.{Words}
use Rattle.scan.specs.Internal.Words.{answer_of, buffer_of}
use Rattle.bank.specs.Internal.Load.{loaded_words}
use Rattle.report.specs.Empty.{no_status}
use Rattle.report.specs.Internal.Report.{report_in}
use Rattle.bank_history.specs.Calls.{Call, after}
use Rattle.bank_history.specs.Answers.{alarm_at, scans_at, last_accepted, answer_to, buffer_after, accepts, accepted}
use Rattle.bank_history.specs.Report.{report_after}

-- the image is one of bytes, and is accepted
abbrev pub Good : List ℕ → Type 0
Good image = T (are_bytes image) × IsOk (read_of image)

module _ (image : List ℕ) (calls : List Call) where
  -- the words of the bank after the calls
  abbrev pub words : Words
  words = after (loaded_words image) calls

  -- the records accepted in the calls
  abbrev pub records : List (List ℕ)
  records = accepted (settings_of image) calls []

  -- the image in full
  abbrev pub whole : List ℕ
  whole = in_full image

  -- what one more call then gives
  pub record Replies : Type 0 where
    -- a scan: it is not refused exactly where none of 7 to 12 applies
    pub accepting : (rec : List ℕ) (room : ℕ) → is_ok (answer_of words rec room) ≡ accepts (settings_of image) records rec room
    -- its answer, and every byte of its event buffer
    pub answer : (rec : List ℕ) (room : ℕ) → answer_of words rec room ≡ answer_to (settings_of image) records rec room
    -- number and place of the first refusal
    pub refused : (rec : List ℕ) (room : ℕ) → refused_by (answer_of words rec room) ≡ refused_by (answer_to (settings_of image) records rec room)
    pub buffer : (rec out : List ℕ) → buffer_of words rec out ≡ buffer_after (settings_of image) records rec out
    -- with 3,840 bytes only 7 to 11 refuse
    pub suffices : (rec : List ℕ) (room : ℕ) → check_record (settings_of image).counts (last_accepted records) rec ≡ Ok tt → events_enough ≤ room
        → is_ok (answer_of words rec room) ≡ true
    -- a report
    pub report : (n : ℕ) → report_in words n ≡ report_after (settings_of image) records n
    pub report-refused : (n : ℕ) → refused_by (report_in words n).reply ≡ cond (leb 1 n && leb n (in_all (settings_of image).counts)) [] (14 ∷ 0 ∷ [])
    -- the writer: the image in full, or 13
    pub write : (room : ℕ) → write_of words.settings room ≡ cond (leb (length whole) room) (Ok (length whole)) (Err (refusal ImageTooLong 0))
    pub write-refused : (room : ℕ) → refused_by (write_of words.settings room) ≡ cond (leb (length whole) room) [] (13 ∷ 0 ∷ [])
    pub image-written : (out : List ℕ) → write_buffer words.settings out ≡ cond (leb (length whole) (length out)) (whole ++ drop (length whole) out) out

-- every reply and every byte, for every list of calls
abbrev pub EveryReply : Type 0
EveryReply = (image : List ℕ) (calls : List Call) → Good image → Replies image calls

-- demand 3: of alarm n and the condition at place i of its conditions, in what the report then says
abbrev pub DemandThree : Type 0
DemandThree =
    (image : List ℕ) (calls : List Call) (n i : ℕ) → Good image
    → 1 ≤ n → n ≤ in_all (settings_of image).counts
    → i < length (conditions_of (alarm_at (settings_of image) (n - 1)).kind)
    → let a = alarm_at (settings_of image) (n - 1) in
    let said = get_or (report_in (words image calls) n).conditions i no_status in
    Demand3 (facts (rules_of a)) said.alarm (not said.acked) said.count (scans_at (settings_of image) (n - 1) (records image calls))
    (get_or (conditions_of a.kind) i In)

-- two receivers whose accepted records are the same report every alarm the same, whatever was refused and whatever buffers were lent
abbrev pub TwoReceivers : Type 0
TwoReceivers =
    (image : List ℕ) (calls calls' : List Call) (n : ℕ) → Good image → records image calls ≡ records image calls'
    → report_in (words image calls) n ≡ report_in (words image calls') n
