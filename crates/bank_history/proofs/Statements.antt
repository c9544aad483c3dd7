-- The public statements hold. Assumes nothing.
use mathlib.Core.Path.{◌≡◌, refl, sym, ap, ap₂, subst, ◌∙◌}
use mathlib.Core.Bool.{Bool, true, false, not, ◌&&◌, cond}
use mathlib.Core.List.{List, [], ◌∷◌, ◌++◌, map}
use Prim.Native.Nat.{ℕ, zero, suc, ◌-◌, ◌≤◌, ◌<◌}
use native.Mathlib.Omega.{arith}
use borrow.Author.Tests.{le-leb, leb-true}
use lib.Dec.{leb}
use lib.ListN.{length, get_or, take, drop}
use Rattle.wire.proofs.Laws.{and-true}
use Rattle.settings.specs.declared.types.Alarm.{Alarm}
use Rattle.alarm_history.specs.Scans.{Scan}
use Rattle.settings.specs.Counts.{in_all}
use Rattle.settings.proofs.Few.{good as counts-good}
use Rattle.settings.specs.Condition.{Condition, In, conditions_of}
use Rattle.std.proofs.Common.{Result, Ok, Err}
use Rattle.std.specs.Result.{is_ok}
use Rattle.settings.specs.Refusals.{refusal, refused_by}
use Rattle.settings.specs.declared.refusals.Refusal.{Refusal}
use Rattle.settings.specs.declared.refusals.Reason.TheVariants.{ImageTooLong}
use Rattle.settings.specs.declared.types.Kind.{Kind}
use Rattle.settings.specs.declared.types.Kind.TheVariants.{Digital, Analog}
use Rattle.settings.specs.declared.types.Settings.{Settings}
use Rattle.history.specs.Demand.{in_alarm, unacknowledged, count}
use Rattle.history.specs.Words.{Demand3}
use Rattle.history.proofs.Demand.{demand}
use Rattle.reader.specs.Read.{settings_of}
use Rattle.image.specs.Internal.Write.{image_of, written_of, write_of, image_buffer}
use Rattle.image.proofs.RoundTrip as RoundTrip
use Rattle.reader.proofs.Sound.{sound-settings}
use Rattle.scan_record.specs.Check.{check_record}
use Rattle.alarm_history.specs.Facts.{rules_of, facts}
use Rattle.bank.specs.Internal.Bank.{Bank, fresh_bank, load_of}
use Rattle.scan.specs.Internal.Scan.{alarms_of, scan_of, event_buffer}
use Rattle.bank.specs.Lent.{Words}
use Rattle.bank.specs.Internal.Words.{fit_of, bank_in}
use Rattle.scan.specs.Internal.Words.{answer_of}
use Rattle.report.specs.Empty.{no_status, no_statuses, no_report, refused_report}
use Rattle.report.specs.Internal.Report.{is_there, report_at, report_of, report_in}
use Rattle.report.specs.declared.status.Status.{Status}
use Rattle.report.specs.declared.report.AlarmReport.{AlarmReport}
use Rattle.bank_history.specs.Calls.{Call}
use Rattle.bank_history.specs.Answers.{alarm_at, scans_at, last_accepted, answer_to, buffer_after}
use Rattle.bank_history.specs.Report.{status_of, alarm_report, report_after}
use Rattle.bank_history.specs.Statements.{Good, words, records, whole, Replies, EveryReply, DemandThree, TwoReceivers}
use Rattle.bank_history.proofs.Banks.{Kept, fresh_kept}
use Rattle.bank_history.proofs.Lists.{scan-said, buffer-said, bank_after_all, kept-after}
use Rattle.bank_history.proofs.Lent.{answer-on, buffer-on, report-on, write-on, written_on, lent-bank}
use Rattle.bank_history.proofs.Enough.{enough, accepted-with-room}
use Rattle.bank_history.proofs.Reported.{report-at}

-- the report's conditions are those of the alarm, one after the other
status-at : (q : Kind) (f : Condition → Status) (i : ℕ) → i < length (conditions_of q)
    → get_or (take 6 (map f (conditions_of q) ++ no_statuses)) i no_status ≡ f (get_or (conditions_of q) i In)
unfolding no_statuses
status-at (Digital severity) f zero h = refl
status-at (Digital severity) f (suc i) h = absurd (omega arith)
status-at (Analog limits severities period) f zero h = refl
status-at (Analog limits severities period) f (suc zero) h = refl
status-at (Analog limits severities period) f (suc (suc zero)) h = refl
status-at (Analog limits severities period) f (suc (suc (suc zero))) h = refl
status-at (Analog limits severities period) f (suc (suc (suc (suc zero)))) h = refl
status-at (Analog limits severities period) f (suc (suc (suc (suc (suc zero))))) h = refl
status-at (Analog limits severities period) f (suc (suc (suc (suc (suc (suc i)))))) h = absurd (omega arith)

not-not : (b : Bool) → not (not b) ≡ b
not-not true = refl
not-not false = refl

-- the numbers of a refused report and of a refused write
report-number : (there : Bool) (a : Alarm) (scans : List Scan)
    → refused_by (cond there (alarm_report a scans) no_report).reply ≡ cond there [] (14 ∷ 0 ∷ [])
unfolding no_report refused_report
report-number true a scans = refl
report-number false a scans = refl

write-number : (fits : Bool) (n : ℕ)
    → refused_by (cond {A = Result ℕ Refusal} fits (Ok n) (Err (refusal ImageTooLong 0))) ≡ cond fits [] (13 ∷ 0 ∷ [])
write-number true n = refl
write-number false n = refl

module _ (image : List ℕ) (calls : List Call) (good : Good image) where
  abbrev s : Settings
  s = settings_of image

  abbrev b : Bank
  b = bank_after_all (load_of image) calls

  abbrev w : Words
  w = words image calls

  abbrev past : List (List ℕ)
  past = records image calls

  after-all : Kept image past b × (b.settings ≡ s)
  unfolding load_of fresh_bank
  after-all = kept-after image calls [] (load_of image) (fresh_kept image s (sound-settings image))

  -- the words stand for it
  fits : fit_of w ≡ Ok tt
  fits = (lent-bank image calls good.0).0

  stands : bank_in w ≡ b
  stands = (lent-bank image calls good.0).1

  kept : Kept image past b
  kept = after-all.0

  stay : b.settings ≡ s
  stay = after-all.1

  -- ---- a scan

  answer-said : (rec : List ℕ) (room : ℕ) → (scan_of b rec room).answer ≡ answer_to s past rec room
  answer-said rec room = (scan-said image past b kept rec room).answer ∙ ap (λ (x : Settings). answer_to x past rec room) stay

  event-bytes-said : (rec out : List ℕ) → event_buffer b rec out ≡ buffer_after s past rec out
  event-bytes-said rec out = buffer-said image past b kept rec out ∙ ap (λ (x : Settings). buffer_after x past rec out) stay

  suffices : (rec : List ℕ) (room : ℕ) → check_record s.counts (last_accepted past) rec ≡ Ok tt → 3840 ≤ room
      → is_ok (scan_of b rec room).answer ≡ true
  suffices rec room ok h =
      accepted-with-room b rec room (ap₂ (λ (x : Settings) (t : ℕ). check_record x.counts t rec) stay kept.time ∙ ok)
      (omega (arith, enough image past b rec kept))

  -- ---- a report

  there-is : (n : ℕ) → is_there b.settings.counts n ≡ leb 1 n && leb n (in_all s.counts)
  unfolding is_there
  there-is n =
      ap (λ (x : Bool). x && (leb 1 n && leb n (in_all b.settings.counts))) (counts-good b.settings.counts kept.sound.most)
      ∙ ap (λ (x : Settings). leb 1 n && leb n (in_all x.counts)) stay

  report-said : (n : ℕ) → report_of b n ≡ report_after s past n
  unfolding report_of
  report-said n = ap (λ (t : Bool). cond t (report_at b (n - 1)) no_report) (there-is n) ∙ go (leb 1 n && leb n (in_all s.counts)) refl
    where
      go : (t : Bool) → leb 1 n && leb n (in_all s.counts) ≡ t
          → cond (leb 1 n && leb n (in_all s.counts)) (report_at b (n - 1)) no_report
          ≡ cond (leb 1 n && leb n (in_all s.counts)) (alarm_report (alarm_at s (n - 1)) (scans_at s (n - 1) past)) no_report
      go true e =
          let low = leb-true 1 n (and-true (leb 1 n) (leb n (in_all s.counts)) e).0 in
          let high = leb-true n (in_all s.counts) (and-true (leb 1 n) (leb n (in_all s.counts)) e).1 in
          let there : n - 1 < alarms_of b = rw stay (omega arith) in
          rw e (report-at image past b kept (n - 1) there ∙ ap (λ (x : Settings). alarm_report (alarm_at x (n - 1)) (scans_at x (n - 1) past)) stay)
      go false e = rw e

  -- ---- the writer

  abbrev full : List ℕ
  full = whole image calls

  image-is : image_of s ≡ full
  image-is = RoundTrip.written-back image good.0 good.1

  write-said : (room : ℕ) → written_of b.settings room ≡ cond (leb (length full) room) (Ok (length full)) (Err (refusal ImageTooLong 0))
  unfolding written_of
  write-said room = rw (stay, RoundTrip.room-is image good.0 good.1 room, image-is)

  written-said : (out : List ℕ) → image_buffer b.settings out ≡ cond (leb (length full) (length out)) (full ++ drop (length full) out) out
  unfolding image_buffer
  written-said out = rw (stay, RoundTrip.room-is image good.0 good.1 (length out), image-is)

  -- ---- of the words

  to-bank : (rec : List ℕ) (room : ℕ) → answer_of w rec room ≡ (scan_of b rec room).answer
  to-bank rec room = answer-on w fits rec room ∙ ap (λ (x : Bank). (scan_of x rec room).answer) stands

  lent-answer : (rec : List ℕ) (room : ℕ) → answer_of w rec room ≡ answer_to s past rec room
  lent-answer rec room = to-bank rec room ∙ answer-said rec room

  lent-report : (n : ℕ) → report_in w n ≡ report_after s past n
  lent-report n = report-on w fits n ∙ ap (λ (x : Bank). report_of x n) stands ∙ report-said n

  lent-write : (room : ℕ) → write_of w.settings room ≡ cond (leb (length full) room) (Ok (length full)) (Err (refusal ImageTooLong 0))
  lent-write room = write-on w fits room ∙ ap (λ (x : Bank). written_of x.settings room) stands ∙ write-said room

  replies : Replies image calls
  replies =
      record {
        accepting = λ rec room. ap is_ok (lent-answer rec room);
        answer = lent-answer;
        refused = λ rec room. ap refused_by (lent-answer rec room);
        buffer = λ rec out. buffer-on w fits rec out ∙ ap (λ (x : Bank). event_buffer x rec out) stands ∙ event-bytes-said rec out;
        suffices = λ rec room ok h. ap is_ok (to-bank rec room) ∙ suffices rec room ok h;
        report = lent-report;
        report-refused = λ n. ap (λ (r : AlarmReport). refused_by r.reply) (lent-report n)
            ∙ report-number (leb 1 n && leb n (in_all s.counts)) (alarm_at s (n - 1)) (scans_at s (n - 1) past);
        write = lent-write;
        write-refused = λ room. ap refused_by (lent-write room) ∙ write-number (leb (length full) room) (length full);
        image-written = λ out. written_on w fits out ∙ ap (λ (x : Bank). image_buffer x.settings out) stands ∙ written-said out;
      }

  -- ---- demand 3

  module _ (n i : ℕ) (low : 1 ≤ n) (high : n ≤ in_all s.counts) (h : i < length (conditions_of (alarm_at s (n - 1)).kind)) where
    abbrev a : Alarm
    a = alarm_at s (n - 1)

    abbrev scans : List Scan
    scans = scans_at s (n - 1) past

    there : report_in w n ≡ alarm_report a scans
    there =
        lent-report n
        ∙ ap (λ (t : Bool). cond t (alarm_report a scans) no_report)
        (ap₂ (λ (x y : Bool). x && y) (le-leb 1 n low) (le-leb n (in_all s.counts) high))

    reported : get_or (report_in w n).conditions i no_status ≡ status_of (rules_of a) scans (get_or (conditions_of a.kind) i In)
    reported =
        ap (λ (r : AlarmReport). get_or r.conditions i no_status) there
        ∙ status-at a.kind (status_of (rules_of a) scans) i h

    demanded : Demand3 (facts (rules_of a)) (get_or (report_in w n).conditions i no_status).alarm (not (get_or (report_in w n).conditions i no_status).acked)
        (get_or (report_in w n).conditions i no_status).count scans (get_or (conditions_of a.kind) i In)
    demanded =
        let c = get_or (conditions_of a.kind) i In in
        subst (λ (x : Status). Demand3 (facts (rules_of a)) x.alarm (not x.acked) x.count scans c) (sym reported)
        (subst (λ (u : Bool). Demand3 (facts (rules_of a)) (in_alarm (facts (rules_of a)) scans c) u (count (facts (rules_of a)) scans c) scans c)
        (sym (not-not (unacknowledged (facts (rules_of a)) scans c))) (demand (facts (rules_of a)) scans c))

-- every reply and every byte is what settings and accepted records say
pub every-reply : EveryReply
every-reply image calls good = replies image calls good

-- demand 3, whole
pub demand-three : DemandThree
demand-three image calls n i good low high h = demanded image calls good n i low high h

-- two receivers
pub two-receivers : TwoReceivers
two-receivers image calls calls' n good e =
    (every-reply image calls good).report n
    ∙ ap (λ (past : List (List ℕ)). report_after (settings_of image) past n) e
    ∙ sym ((every-reply image calls' good).report n)
