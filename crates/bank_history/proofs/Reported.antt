-- What a bank that keeps what its records say reports of an alarm. Assumes nothing.
use mathlib.Core.Path.{◌≡◌, refl, sym, ap, ap₂, subst, ◌∙◌}
use mathlib.Core.Bool.{Bool, true, false, not, ◌||◌, or-false}
use mathlib.Core.List.{List, [], ◌∷◌, ◌++◌, map}
use Prim.Native.Nat.{ℕ, ◌*◌, ◌<◌}
use lib.Dec.{ltb}
use lib.Ieee.{Float}
use lib.ListN.{get_or, take}
use borrow.Author.Tests.{ltb-true, ltb-false}
use Rattle.settings.specs.Internal.Reals.{real_analog}
use Rattle.wire.specs.Real.{zero_real}
use Rattle.settings.specs.Condition as C
use Rattle.settings.specs.Condition.{Condition, In, conditions_of}
use Rattle.settings.specs.Alarm.{ack_required}
use Rattle.reader.proofs.Sound.{digital-sound, analog-sound}
use Rattle.settings.specs.Numbers.{Numbers, AnalogOf, reals, analog_reals}
use Rattle.std.proofs.Common.{Ok}
use Rattle.settings.specs.declared.types.Alarm.{Alarm}
use Rattle.settings.specs.declared.types.Limits.{Limits}
use Rattle.settings.specs.declared.types.Severities.{Severities}
use Rattle.settings.specs.declared.types.Kind.{Kind}
use Rattle.settings.specs.declared.types.Kind.TheVariants.{Digital, Analog}
use Rattle.history.specs.Past.{Fact, holds}
use Rattle.history.specs.Internal.Row.{begun}
use Rattle.history.proofs.Condition.{kept-alarm, kept-unacked}
use Rattle.settings.specs.Severity.{severity_invalid}
use Rattle.condition.specs.Internal.Mark.{Marks}
use Rattle.state.specs.Internal.Held.{Six, HH, H, L, LL, ROCPos, ROCNeg, of_six, place}
use Rattle.state.specs.Internal.Held.{DigitalHeld, look_digital, AnalogHeld, Patterns, real_patterns, look_analog}
use Rattle.digital.specs.Internal.Digital.{digital_required}
use Rattle.analog.specs.Internal.Analog.{analog_required}
use Rattle.state.specs.Internal.State.{State}
use Rattle.alarm_history.specs.Scans.{Scan, disabled_in, suppressed_in, faulted_in, last_time}
use Rattle.alarm_history.specs.Sample.{rate_in}
use Rattle.alarm_history.specs.Facts.{Rules, digital_rules, analog_rules, rules_by, facts}
use Rattle.alarm_history.specs.Stamps.{reset_stamp, elapsed_in}
use Rattle.alarm_history.specs.Internal.After.{elapsed, kept_in, digital_run, digital_from, analog_run, analog_from, marks_in}
use Rattle.alarm_history.proofs.Marks.{clear, elapsed-is, reset-stamp}
use Rattle.alarm_history.proofs.Digital.{digital-required, run-own, digital-run, digital-report}
use Rattle.alarm_history.proofs.Analog.{six, analog-required, analog-parts, analog-run, analog-report}
use Rattle.scan.specs.Internal.Scan.{alarms_of}
use Rattle.bank.specs.Internal.Bank.{Bank}
use Rattle.report.specs.Empty.{no_status, no_statuses}
use Rattle.report.specs.Internal.Status.{digital_statuses, analog_statuses, statuses_of}
use Rattle.report.specs.Internal.Whole.{any_invalid, digital_whole, shown_real, analog_whole, whole_kind, whole_of}
use Rattle.report.specs.Internal.Report.{report_at}
use Rattle.report.specs.declared.status.Status.{Status}
use Rattle.report.specs.declared.report.AlarmReport.{AlarmReport}
use Rattle.report.proofs.Reports.{status-digital, status-analog}
use Rattle.bank_history.specs.Answers.{alarm_at, scan_at, scans_at, last_accepted}
use Rattle.bank_history.specs.Report.{severity_inv, rate_of, high_run, low_run, status_of, alarm_report}
use Rattle.bank_history.proofs.Views.{DigitalView, AnalogView}
use Rattle.bank_history.proofs.Banks.{Kept, state_at, digital-kind, analog-kind}

-- the last scan of an alarm is the last record
last_of : (f : List ℕ → Scan) → ((rec : List ℕ) → last_accepted (rec ∷ []) ≡ (f rec).time) → (past : List (List ℕ))
    → last_accepted past ≡ last_time (map f past)
last_of f h [] = refl
last_of f h (rec ∷ past) = h rec

-- any of six, in the report's order
any_of : (a b c d e f : Bool) → (a || b || c) || (d || e || f) ≡ a || (b || (c || (d || (e || (f || false)))))
any_of true b c d e f = refl
any_of false true c d e f = refl
any_of false false true d e f = refl
any_of false false false true e f = refl
any_of false false false false true f = refl
any_of false false false false false f = sym (or-false f)

any-invalid : (s : Severities) (g : Limits) (period : ℕ) → any_invalid s ≡ severity_inv (Analog g s period)
unfolding any_invalid
any-invalid s g period =
    any_of (severity_invalid s.hh) (severity_invalid s.h) (severity_invalid s.l) (severity_invalid s.ll) (severity_invalid s.rocpos)
    (severity_invalid s.rocneg)

-- a condition's status, from what is kept of it
abbrev status_by : Bool → Bool → Marks → Status
status_by alarm unacked m =
    record { alarm = alarm; acked = not unacked; count = m.count; alarmtime = m.alarm; acktime = m.ack; returntime = m.return }

-- what is kept of a condition is what the scans say of it
status-kept : (r : Rules) (scans : List Scan) (c : Condition)
    → status_by (kept_in r scans c).alarm (kept_in r scans c).unacked (marks_in r c scans) ≡ status_of r scans c
status-kept r scans c =
    λ i. status_by (kept-alarm (facts r) r.frees (clear r) scans c i) (kept-unacked (facts r) r.frees (clear r) scans c i) (marks_in r c scans)

module _ (s : State) (words : List ℕ) (at time : ℕ) (scans : List Scan) (t : time ≡ last_time scans) where
  -- ---- a digital alarm

  module _ (a : Alarm) (severity : ℕ) (asked : digital_required a.flags ≡ ack_required a.kind a.flags) (v : DigitalView a s words at scans) where
    held : look_digital s ≡ digital_from a scans
    held = v.held ∙ digital-run a asked scans

    -- how long the run of scans with p has lasted, from the start that is kept
    abbrev lasts : Fact Scan → ℕ
    lasts p = elapsed a.duration (holds p scans) (begun (λ x. x.time) p scans) (last_time scans)

    digital-whole : {b : Bool} → severity_invalid severity ≡ b → digital_whole severity a.duration (look_digital s) time
        ≡ record {
          enabled = not (disabled_in scans);
          suppressed = suppressed_in scans;
          infaulted = faulted_in scans;
          severityinv = b;
          rate = zero_real;
          high = elapsed_in (digital_rules a) In scans;
          low = 0;
        }
    digital-whole e =
        ap₂ (λ (d : DigitalHeld) (u : ℕ). digital_whole severity a.duration d u) held t
        ∙ (λ i.
        record {
          enabled = not (disabled_in scans);
          suppressed = suppressed_in scans;
          infaulted = faulted_in scans;
          severityinv = e i;
          rate = zero_real;
          high = (ap lasts (sym (run-own a asked)) ∙ elapsed-is (digital_rules a) In scans) i;
          low = 0;
        })

    digital-status : get_or (digital_statuses words at s.flags) 0 no_status ≡ status_of (digital_rules a) scans In
    digital-status =
        status-digital words at s
        ∙ ap₂ (λ (d : DigitalHeld) (m : Marks). status_by d.cell.alarm d.cell.unacked m) held (v.marked ∙ digital-report a asked scans)
        ∙ status-kept (digital_rules a) scans In

    digital-reset : get_or words at 0 ≡ reset_stamp scans
    digital-reset = v.stamped ∙ reset-stamp (λ past. (digital_run a past).previous) (λ past. ap (λ d. d.previous) (digital-run a asked past)) scans

  -- ---- an analog alarm, of any form of numbers

  module _ {X : Type 0} (n : Numbers X) (q : Patterns X) (shown : X → Float) (a : AnalogOf X) {required : Bool} (asked : analog_required a.flags ≡ required)
      (v : AnalogView n q a s words at scans) where
    abbrev rules : Rules
    rules = analog_rules n a required

    held-analog : look_analog q s ≡ analog_from n a required scans
    held-analog = v.held ∙ analog-run n a asked scans

    analog-whole : (severities : Severities) {b : Bool} → any_invalid severities ≡ b → analog_whole shown severities a.duration (look_analog q s) time
        ≡ record {
          enabled = not (disabled_in scans);
          suppressed = suppressed_in scans;
          infaulted = faulted_in scans;
          severityinv = b;
          rate = shown (rate_in n a scans);
          high = elapsed_in rules C.HH scans;
          low = elapsed_in rules C.L scans;
        }
    analog-whole severities e =
        ap₂ (λ (h : AnalogHeld X) (u : ℕ). analog_whole shown severities a.duration h u) held-analog t
        ∙ (λ i.
        record {
          enabled = not (disabled_in scans);
          suppressed = suppressed_in scans;
          infaulted = faulted_in scans;
          severityinv = e i;
          rate = shown (rate_in n a scans);
          high = elapsed-is rules C.HH scans i;
          low = elapsed-is rules C.L scans i;
        })

    analog-status : (c : Six) → get_or (analog_statuses words at s.flags) (place c) no_status ≡ status_of rules scans (of_six c)
    analog-status c =
        status-analog words at s c
        ∙ ap₂ (λ (h : AnalogHeld X) (m : Marks). status_by (h.cell c).alarm (h.cell c).unacked m) held-analog (v.marked c ∙ analog-report n a asked scans c)
        ∙ status-kept rules scans (of_six c)

    analog-statuses : analog_statuses words at s.flags ≡ take 6 (map (status_of rules scans) six ++ no_statuses)
    unfolding analog_statuses
    analog-statuses =
        λ i. analog-status HH i ∷ analog-status H i ∷ analog-status L i ∷ analog-status LL i ∷ analog-status ROCPos i ∷ analog-status ROCNeg i ∷ []

    analog-reset : get_or words at 0 ≡ reset_stamp scans
    analog-reset = v.stamped ∙ reset-stamp (λ past. (analog_run n a past).previous) (λ past. ap (λ h. h.previous) (analog-run n a asked past)) scans

  -- ---- the whole report, by the kind

  module _ (a : Alarm) where
    -- the bank's, and what the scans say
    abbrev given : Kind → AlarmReport
    given k = record { reply = Ok tt; alarm = whole_kind k a.duration s time; resettime = get_or words at 0; conditions = statuses_of k words at s.flags }

    abbrev said : Kind → AlarmReport
    said k =
        record {
          reply = Ok tt;
          alarm = record {
            enabled = not (disabled_in scans);
            suppressed = suppressed_in scans;
            infaulted = faulted_in scans;
            severityinv = severity_inv k;
            rate = rate_of k a scans;
            high = high_run k (rules_by k a) scans;
            low = low_run k (rules_by k a) scans;
          };
          resettime = reset_stamp scans;
          conditions = take 6 (map (status_of (rules_by k a) scans) (conditions_of k) ++ no_statuses);
        }

    digital-said : (severity : ℕ) → digital_required a.flags ≡ ack_required a.kind a.flags → DigitalView a s words at scans
        → given (Digital severity) ≡ said (Digital severity)
    unfolding digital_statuses no_statuses
    digital-said severity asked v =
        λ i.
        record {
          reply = Ok tt;
          alarm = digital-whole a severity asked v (sym (or-false (severity_invalid severity))) i;
          resettime = digital-reset a severity asked v i;
          conditions = digital-status a severity asked v i ∷ no_status ∷ no_status ∷ no_status ∷ no_status ∷ no_status ∷ [];
        }

    pub digital-report-said : (severity : ℕ) → a.kind ≡ Digital severity → DigitalView a s words at scans → given a.kind ≡ alarm_report a scans
    digital-report-said severity k v = subst (λ (q : Kind). given q ≡ said q) (sym k) (digital-said severity (digital-required a k) v)

    analog-said : (g : Limits) (severities : Severities) (period : ℕ) → analog_required a.flags ≡ ack_required a.kind a.flags
        → AnalogView reals real_patterns (analog_reals a.flags a.duration g period) s words at scans
        → given (Analog g severities period) ≡ said (Analog g severities period)
    analog-said g severities period asked v =
        let x : AnalogOf Float = analog_reals a.flags a.duration g period in
        λ i.
        record {
          reply = Ok tt;
          alarm = analog-whole reals real_patterns shown_real x asked v severities (any-invalid severities g period) i;
          resettime = analog-reset reals real_patterns shown_real x asked v i;
          conditions = analog-statuses reals real_patterns shown_real x asked v i;
        }

    pub analog-report-said : (g : Limits) (severities : Severities) (period : ℕ) → a.kind ≡ Analog g severities period
        → AnalogView reals real_patterns (real_analog a) s words at scans → given a.kind ≡ alarm_report a scans
    analog-report-said g severities period k v =
        subst (λ (q : Kind). given q ≡ said q) (sym k)
        (analog-said g severities period (analog-required a k)
        (subst (λ (x : AnalogOf Float). AnalogView reals real_patterns x s words at scans) (analog-parts a k) v))

-- ---- the alarm at a place

pub report-at : (image : List ℕ) (past : List (List ℕ)) (b : Bank) (v : Kept image past b) (p : ℕ) → p < alarms_of b
    → report_at b p ≡ alarm_report (alarm_at b.settings p) (scans_at b.settings p past)
unfolding report_at whole_of
report-at image past b v p h = go (ltb p b.settings.counts.digital) refl
  where
    time : b.time ≡ last_time (scans_at b.settings p past)
    time = v.time ∙ last_of (scan_at b.settings p) (λ rec. refl) past

    go : (t : Bool) → ltb p b.settings.counts.digital ≡ t
        → given (state_at b p) b.marks (25 * p) b.time (scans_at b.settings p past) time (alarm_at b.settings p) (alarm_at b.settings p).kind
        ≡ alarm_report (alarm_at b.settings p) (scans_at b.settings p past)
    go true e =
        let l = ltb-true p b.settings.counts.digital e in
        let x = alarm_at b.settings p in
        let k = digital-kind x.kind x.flags x.duration (digital-sound b.settings v.sound p l) in
        digital-report-said (state_at b p) b.marks (25 * p) b.time (scans_at b.settings p past) time x k.0 k.1 (v.digital p l)
    go false e =
        let l = ltb-false p b.settings.counts.digital e in
        let x = alarm_at b.settings p in
        let k = analog-kind x.kind x.flags x.duration (analog-sound b.settings v.sound p l h) in
        analog-report-said (state_at b p) b.marks (25 * p) b.time (scans_at b.settings p past) time x k.0 k.1 k.2 k.3 (v.analog p l h)
