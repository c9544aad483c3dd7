-- What the step keeps of an analog alarm of any form of numbers is what the scans say. Assumes nothing.
use Prim.Native.Nat.{ℕ, ◌-◌}
use mathlib.Core.Path.{◌≡◌, refl, sym, ap, fun_ext, ◌∙◌}
use mathlib.Core.List.{List, [], ◌∷◌, ◌++◌, foldr}
use mathlib.Core.Bool.{Bool, true, false, not, ◌&&◌, ◌||◌, or-true, or-false}
use mathlib.Core.Option.{Option}
use lib.Dec.{leb}
use Rattle.settings.specs.Internal.Reals.{limits_of, period_of, real_analog}
use Rattle.settings.specs.Alarm.{ack_required}
use Rattle.settings.specs.Condition as C
use Rattle.settings.specs.Condition.{Condition, side_has, is_rate}
use Rattle.settings.specs.Numbers.{Numbers, AnalogOf, value_of, reals, analog_reals}
use Rattle.settings.specs.declared.types.Alarm.{Alarm}
use Rattle.settings.specs.declared.types.Limits.{Limits}
use Rattle.settings.specs.declared.types.Severities.{Severities}
use Rattle.settings.specs.declared.types.Kind.TheVariants.{Analog}
use Rattle.history.specs.Past.{Fact, since, holds, row_start}
use Rattle.history.specs.Demand.{activation, answer, return}
use Rattle.history.specs.Internal.Row.{start_kept, begun}
use Rattle.history.specs.Internal.Condition.{kept, told, alarm_after, unacked_after, acknowledges, returns, activates}
use Rattle.history.proofs.Condition.{kept-answers, kept-returns, kept-activates}
use Rattle.level.specs.Level.{met, frees}
use Rattle.level.specs.Internal.Sample.{sample_after}
use Rattle.level.proofs.Laws.{rate-stays}
use Rattle.condition.specs.Internal.Mark.{Marks, marks_after}
use Rattle.condition.specs.Command.{acks, faults}
use Rattle.state.specs.Internal.Held.{Six, HH, H, L, LL, ROCPos, ROCNeg, Side, High, Low, of_six, AnalogHeld}
use Rattle.analog.specs.Internal.Analog.{analog_required, analog_enabled, analog_sample, side_met, analog_ready, analog_told}
use Rattle.analog.specs.Internal.Analog.{analog_after, cell_events, analog_events}
use Rattle.alarm_history.specs.Scans.{Scan, previous, enabled, count_reset, disabled_in, suppressed_in}
use Rattle.alarm_history.specs.Sample.{sampled_at, sample_in, rate_in}
use Rattle.alarm_history.specs.Facts.{Rules, analog_rules, rules_by, rules_of, run, facts}
use Rattle.alarm_history.specs.Stamps.{own_start}
use Rattle.alarm_history.specs.Internal.After.{level_of, analog_run, kept_in, own, analog_from, analog_turn, analog_marks, turn_in, marks_in, changes}
use Rattle.alarm_history.specs.Internal.After.{whole_bits, condition_bits}
use Rattle.alarm_history.proofs.Marks.{clear, lasted-is, same-marks, activated-start, marks-kept}
use Rattle.alarm_history.proofs.Modes.{disabled-next, suppressed-next}

-- the conditions of an analog alarm
abbrev pub six : List Condition
six = C.HH ∷ C.H ∷ C.L ∷ C.LL ∷ C.ROCPos ∷ C.ROCNeg ∷ []

-- a condition of a side adds nothing to its side
first_of : (x y : Bool) → x || (x || y) ≡ x || y
first_of true y = refl
first_of false y = refl

second-of : (x y : Bool) → y || (x || y) ≡ x || y
second-of true true = refl
second-of true false = refl
second-of false true = refl
second-of false false = refl

-- AckRequired, and the rules of an analog alarm with REALs
pub analog-required : (a : Alarm) {limits : Limits} {severities : Severities} {period : ℕ} → a.kind ≡ Analog limits severities period
    → analog_required a.flags ≡ ack_required a.kind a.flags
analog-required a k = rw k

-- its settings, by their parts
pub analog-parts : (a : Alarm) {limits : Limits} {severities : Severities} {period : ℕ} → a.kind ≡ Analog limits severities period
    → real_analog a ≡ analog_reals a.flags a.duration limits period
analog-parts a k = ap (λ kind. analog_reals a.flags a.duration (limits_of kind) (period_of kind)) k

pub analog-rules : (a : Alarm) {limits : Limits} {severities : Severities} {period : ℕ} → a.kind ≡ Analog limits severities period
    → rules_of a ≡ analog_rules reals (real_analog a) (ack_required a.kind a.flags)
analog-rules a k =
    ap (λ kind. rules_by kind a) k ∙ sym (ap (λ g. analog_rules reals g (ack_required a.kind a.flags)) (analog-parts a k))

module _ {X : Type 0} (n : Numbers X) (a : AnalogOf X) {required : Bool} (asked : analog_required a.flags ≡ required) where
  abbrev rules : Rules
  rules = analog_rules n a required

  -- the levels of a side have one run
  high-run : run rules C.HH ≡ run rules C.H
  high-run =
      fun_ext
      (λ s. fun_ext
      (λ past.
      let x = rules.met C.HH s past in
      let y = rules.met C.H s past in
      ap (λ (m : Bool). enabled s past && m) (first_of x y ∙ sym (second-of x y))))

  low_run : run rules C.L ≡ run rules C.LL
  low_run =
      fun_ext
      (λ s. fun_ext
      (λ past.
      let x = rules.met C.L s past in
      let y = rules.met C.LL s past in
      ap (λ (m : Bool). enabled s past && m) (first_of x y ∙ sym (second-of x y))))

  module _ (s : Scan) (past : List Scan) where
    -- the state before the scan, read off the scans
    abbrev from : AnalogHeld X
    from = analog_from n a required past

    abbrev was : Condition → Bool
    was c = (kept_in rules past c).alarm

    abbrev x : Option X
    x = n.number s.reading

    -- a run has lasted
    abbrev lasted : Fact Scan → Bool
    lasted p = leb a.duration (s.time - row_start (λ x. x.time) p (s ∷ past))

    -- a condition is ready as the step has it
    ready : (c : Six) → analog_ready n a s.reading s.word s.time from c
        ≡ (facts rules).lasted (of_six c) s past || (side_has (of_six c) was || is_rate (of_six c))
    ready HH = λ i. lasted-is a.duration (run rules C.HH) s past i || sym (or-false (was C.HH || was C.H)) i
    ready H = λ i. (lasted-is a.duration (run rules C.HH) s past ∙ ap lasted high-run) i || sym (or-false (was C.HH || was C.H)) i
    ready L = λ i. lasted-is a.duration (run rules C.L) s past i || sym (or-false (was C.L || was C.LL)) i
    ready LL = λ i. (lasted-is a.duration (run rules C.L) s past ∙ ap lasted low_run) i || sym (or-false (was C.L || was C.LL)) i
    ready ROCPos = sym (or-true (lasted (run rules C.ROCPos)))
    ready ROCNeg = sym (or-true (lasted (run rules C.ROCNeg)))

    -- the rate after the scan is the one that the scans say
    rate-is : (analog_sample n a s.reading s.word s.time from).rate ≡ rate_in n a (s ∷ past)
    unfolding sample_after rate_in
    rate-is =
        let due = leb a.period (s.time - sampled_at a.period past) in
        let new = n.rated a.period (sample_in n a past) (value_of n x) in
        rw (← disabled-next s past) (rate-stays (enabled s past) (holds enabled past) due new (rate_in n a past) n.nought)

    told_is : (c : Six) → analog_told n a s.reading s.word s.time from c ≡ told (facts rules) rules.frees was (of_six c) s past
    told_is c =
        let d = sym (disabled-next s past) in
        λ i.
        record {
          enabled = not (d i);
          met = met n a (of_six c) x (rate-is i);
          frees = frees n a (of_six c) x;
          ready = ready c i;
          ack = acks s.word (previous past) (of_six c);
          required = asked i;
        }

    -- a side's run goes on as the step has it
    goes_on : (side : Side)
        → analog_enabled n a s.reading s.word s.time from && side_met n a s.reading s.word s.time from side ≡ run rules (level_of side) s past
    goes_on High =
        let d = sym (disabled-next s past) in
        (λ i. not (d i) && (met n a C.HH x (rate-is i) || met n a C.H x (rate-is i)))
        ∙ ap (λ (m : Bool). enabled s past && m) (sym (first_of (rules.met C.HH s past) (rules.met C.H s past)))
    goes_on Low =
        let d = sym (disabled-next s past) in
        (λ i. not (d i) && (met n a C.L x (rate-is i) || met n a C.LL x (rate-is i)))
        ∙ ap (λ (m : Bool). enabled s past && m) (sym (first_of (rules.met C.L s past) (rules.met C.LL s past)))

    next : analog_after n a s.reading s.word s.time from ≡ analog_from n a required (s ∷ past)
    unfolding kept begun since sample_after sampled_at sample_in
    next =
        let d = sym (disabled-next s past) in
        let e = sym (suppressed-next s past) in
        λ i.
        record {
          disabled = d i;
          suppressed = e i;
          faulted = faults s.word;
          held = not (d i);
          previous = s.word;
          sample = record { value = sample_in n a (s ∷ past); rate = rate-is i; at = sampled_at a.period (s ∷ past) };
          run = λ side.
              record {
                on = goes_on side i;
                start = start_kept (goes_on side i) (holds (run rules (level_of side)) past) s.time (begun (λ x. x.time) (run rules (level_of side)) past);
              };
          cell = λ c.
              let row : Bool = not (d i) && met n a (of_six c) x (rate-is i) in
              record {
                alarm = alarm_after (told_is c i) (was (of_six c));
                unacked = unacked_after (told_is c i) (was (of_six c)) (kept_in rules past (of_six c)).unacked;
                row = row;
                start = start_kept row (holds (own rules (of_six c)) past) s.time (begun (λ x. x.time) (own rules (of_six c)) past);
              };
        }

    -- kinds 6, 7, 8 of a condition as the scans have them
    answer-is : (c : Six)
        → acknowledges (analog_told n a s.reading s.word s.time from c) (kept_in rules past (of_six c)).unacked ≡ answer (facts rules) (of_six c) s past
    answer-is c =
        ap (λ t. acknowledges t (kept_in rules past (of_six c)).unacked) (told_is c) ∙ kept-answers (facts rules) rules.frees (clear rules) s past (of_six c)

    return-is : (c : Six) → returns (analog_told n a s.reading s.word s.time from c) (was (of_six c)) ≡ return (facts rules) (of_six c) s past
    return-is c = ap (λ t. returns t (was (of_six c))) (told_is c) ∙ kept-returns (facts rules) rules.frees (clear rules) s past (of_six c)

    activation-is : (c : Six) → activates (analog_told n a s.reading s.word s.time from c) (was (of_six c)) ≡ activation (facts rules) (of_six c) s past
    activation-is c = ap (λ t. activates t (was (of_six c))) (told_is c) ∙ kept-activates (facts rules) rules.frees (clear rules) s past (of_six c)

    turn_is : (c : Six) (m : Marks) → marks_after (analog_turn n a s from c) m ≡ marks_after (turn_in rules (of_six c) s past) m
    turn_is c m =
        same-marks (analog_turn n a s from c) (own_start rules (of_six c) s past)
        (activated-start rules (of_six c) s past (analog_told n a s.reading s.word s.time from c) (was (of_six c))) m
        ∙ (λ i.
        marks_after
        (record {
          reset = count_reset s past;
          acknowledged = answer-is c i;
          returned = return-is c i;
          activated = activation-is c i;
          required = asked i;
          start = own_start rules (of_six c) s past;
          time = s.time;
        }) m)

    -- the event bits of the step
    cell-bits : (c : Six) {rest rest' : List Bool} → rest ≡ rest'
        → cell_events n a s.reading s.word s.time from c rest ≡ condition_bits rules s past (of_six c) rest'
    cell-bits c e = λ i. answer-is c i ∷ return-is c i ∷ activation-is c i ∷ e i

    pub analog-bits : analog_events n a s.reading s.word s.time from ≡ whole_bits s past ++ foldr (condition_bits rules s past) [] six
    analog-bits =
        let d = sym (disabled-next s past) in
        let e = sym (suppressed-next s past) in
        let bits = cell-bits HH (cell-bits H (cell-bits L (cell-bits LL (cell-bits ROCPos (cell-bits ROCNeg refl))))) in
        λ i. changes (disabled_in past) (suppressed_in past) (d i) (e i) (count_reset s past) ++ bits i

  pub analog-run : (scans : List Scan) → analog_run n a scans ≡ analog_from n a required scans
  unfolding analog_run kept begun since sampled_at sample_in rate_in
  analog-run [] = refl
  analog-run (s ∷ past) = ap (analog_after n a s.reading s.word s.time) (analog-run past) ∙ next s past

  -- counts and stamps of an analog alarm's conditions, from the scans alone
  pub analog-report : (scans : List Scan) (c : Six) → analog_marks n a scans c ≡ marks_in rules (of_six c) scans
  unfolding analog_marks
  analog-report scans c =
      marks-kept rules (of_six c) (λ l. analog_marks n a l c) (λ s past. analog_turn n a s (analog_run n a past) c) refl (λ s past. refl)
      (λ s past m. ap (λ h. marks_after (analog_turn n a s h c) m) (analog-run past) ∙ turn_is s past c m) scans
