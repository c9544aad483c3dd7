-- The events of a record that passed the check are what settings and the accepted records say. Assumes nothing.
use mathlib.Core.Path.{◌≡◌, refl, ap, ap₂, ◌∙◌}
use mathlib.Core.Bool.{Bool, true, false}
use mathlib.Core.List.{List, ◌∷◌, ◌++◌}
use Prim.Native.Nat.{ℕ, zero, suc, ◌≤◌, ◌<◌}
use native.Mathlib.Omega.{arith}
use native.Mathlib.Nat.{le_refl}
use borrow.Author.Tests.{ltb-true, ltb-false}
use lib.Dec.{ltb}
use lib.ListN.{get_or}
use lib.Ieee.{Float}
use Rattle.settings.specs.Internal.Reals.{real_analog}
use Rattle.settings.specs.Numbers.{reals}
use Rattle.settings.specs.declared.types.Alarm.{Alarm}
use Rattle.std.proofs.Common.{Ok}
use Rattle.event.specs.Event.{Event}
use Rattle.state.specs.Internal.Held.{DigitalHeld, AnalogHeld, fresh_state}
use Rattle.digital.specs.Internal.Digital.{digital_events}
use Rattle.analog.specs.Internal.Analog.{analog_events}
use Rattle.event.specs.Internal.Events.{events_from}
use Rattle.state.specs.Internal.State.{Stepped}
use Rattle.alarm_history.specs.Scans.{Scan}
use Rattle.alarm_history.specs.Events.{alarm_log}
use Rattle.alarm_history.proofs.Digital.{digital-required, digital-run}
use Rattle.alarm_history.proofs.Analog.{analog-required, analog-run}
use Rattle.alarm_history.proofs.Events.{digital-log-is, analog-log-is}
use Rattle.scan_record.specs.Part.{time_of}
use Rattle.sweep.specs.Internal.Sweep.{alarm_events}
use Rattle.scan.specs.Internal.Plan.{events_up_to}
use Rattle.sweep.proofs.Stepped.{digital-log, analog-log}
use Rattle.scan.specs.Internal.Scan.{check_of, alarms_of, plan_for, events_in}
use Rattle.bank.specs.Internal.Bank.{Bank}
use Rattle.bank_history.specs.Answers.{alarm_at, scan_at, scans_at, scan_log, log_of}
use Rattle.bank_history.proofs.Banks.{Kept, state_at, digital-of, analog-of, digital-stepped, analog-stepped, word_after, next-kept}

module _ (image : List ℕ) (past : List (List ℕ)) (b : Bank) (rec : List ℕ) (v : Kept image past b) (ok : check_of b rec ≡ Ok tt) where
  abbrev digital : ℕ
  digital = b.settings.counts.digital

  abbrev alarm : ℕ → Alarm
  alarm p = alarm_at b.settings p

  abbrev seen : ℕ → Scan
  seen p = scan_at b.settings p rec

  abbrev before : ℕ → List Scan
  before p = scans_at b.settings p past

  -- what the bank writes of the alarm at a place, and what the scans say
  abbrev here : ℕ → List Event
  here p = alarm_events (suc p) (alarm p) (get_or (plan_for b rec).states p fresh_state) (get_or (plan_for b rec).events p 0) (time_of rec)

  abbrev said : ℕ → List Event
  said p = alarm_log (suc p) (alarm p) (seen p) (before p)

  digital-here : (p : ℕ) → p < digital → here p ≡ said p
  digital-here p h =
      let l : p < alarms_of b = omega arith in
      let k = (digital-of image past b rec v ok p h).1 in
      let q = digital-required (alarm p) k in
      let e = digital-stepped image past b rec v ok p h in
      let w = word_after image past b rec v ok p l ∙ ap (λ (t : Stepped). t.events) e in
      let was = (v.digital p h).held ∙ digital-run (alarm p) q (before p) in
      let is = ((next-kept image past b rec v ok).digital p h).held ∙ digital-run (alarm p) q (seen p ∷ before p) in
      ap (λ (x : ℕ). alarm_events (suc p) (alarm p) (get_or (plan_for b rec).states p fresh_state) x (time_of rec)) w
      ∙ digital-log (suc p) (alarm p) (state_at b p) (get_or (plan_for b rec).states p fresh_state) (seen p).reading (seen p).word (time_of rec)
      ∙ ap₂
      (λ (x y : DigitalHeld).
      events_from (suc p) (alarm p).kind x.suppressed (time_of rec) 0 (digital_events (alarm p) (seen p).reading (seen p).word (seen p).time y)) is was
      ∙ digital-log-is (suc p) (alarm p) (seen p) (before p) k

  analog-here : (p : ℕ) → digital ≤ p → p < alarms_of b → here p ≡ said p
  analog-here p low l =
      let k = (analog-of image past b rec v ok p low l).3 in
      let q = analog-required (alarm p) k in
      let w = word_after image past b rec v ok p l ∙ ap (λ (t : Stepped). t.events) (analog-stepped image past b rec v ok p low l) in
      let was = (v.analog p low l).held ∙ analog-run reals (real_analog (alarm p)) q (before p) in
      let is = ((next-kept image past b rec v ok).analog p low l).held ∙ analog-run reals (real_analog (alarm p)) q (seen p ∷ before p) in
      ap (λ (x : ℕ). alarm_events (suc p) (alarm p) (get_or (plan_for b rec).states p fresh_state) x (time_of rec)) w
      ∙ analog-log (suc p) (alarm p) (state_at b p) (get_or (plan_for b rec).states p fresh_state) (seen p).reading (seen p).word (time_of rec)
      ∙ ap₂ (λ (x y : AnalogHeld Float).
      events_from (suc p) (alarm p).kind x.suppressed (time_of rec) 0
      (analog_events reals (real_analog (alarm p)) (seen p).reading (seen p).word (seen p).time y)) is was
      ∙ analog-log-is (suc p) (alarm p) (seen p) (before p) k

  here-said : (p : ℕ) → p < alarms_of b → here p ≡ said p
  here-said p h = go (ltb p digital) refl
    where
      go : (t : Bool) → ltb p digital ≡ t → here p ≡ said p
      go true e = digital-here p (ltb-true p digital e)
      go false e = analog-here p (ltb-false p digital e) h

  up-to-said : (n : ℕ) → n ≤ alarms_of b
      → events_up_to b.settings.alarms (plan_for b rec).states (plan_for b rec).events (time_of rec) n ≡ scan_log b.settings rec past n
  unfolding events_up_to scan_log
  up-to-said zero h = refl
  up-to-said (suc n) h = ap₂ (λ (xs ys : List Event). xs ++ ys) (up-to-said n (omega arith)) (here-said n (omega arith))

  pub log-said : events_in b rec ≡ log_of b.settings rec past
  log-said = up-to-said (alarms_of b) (le_refl (alarms_of b))
