-- What the step keeps is what the three descriptions say, for every list of scans and every condition. Assumes nothing.
use Prim.Native.Nat.{ℕ, ◌+◌, min}
use mathlib.Core.Path.{◌≡◌, refl, sym, ap, ap₂, fun_ext, ◌∙◌}
use mathlib.Core.List.{List, [], ◌∷◌}
use mathlib.Core.Bool.{Bool, true, false, not, ◌&&◌, ◌||◌, cond, and-false}
use native.Mathlib.Omega.{arith}
use borrow.Author.Tests.{ltb-true, ltb-false}
use lib.Dec.{ltb}
use Rattle.history.specs.Past.{Fact, since, count_from}
use Rattle.history.specs.Demand.{Facts, stays, in_alarm, due, activation, unanswered, unacknowledged, count, answer, return}
use Rattle.history.specs.Internal.Condition.{alarm_after, unacked_after, count_up, count_after, acknowledges, returns, activates, Frees, told, kept}

-- ---- one scan, on Booleans and numbers

-- a condition that is due stays in alarm: the step's "was not in alarm" changes nothing
alarm-step : (enabled met frees ready alarm : Bool)
    → (enabled && met && ready && not alarm || enabled && not (not met && frees) && alarm)
    ≡ (enabled && met && ready || enabled && not (not met && frees) && alarm)
alarm-step false met frees ready alarm = refl
alarm-step true false frees ready alarm = refl
alarm-step true true frees false alarm = refl
alarm-step true true frees true false = refl
alarm-step true true frees true true = refl

-- `silent`: no acknowledgement; `before`: some activation stood unanswered before the scan
unacked-step : (activated required enabled silent before : Bool)
    → cond activated required (enabled && silent && (required && before)) ≡ (required && (activated || enabled && silent && before))
unacked-step true true enabled silent before = refl
unacked-step true false enabled silent before = refl
unacked-step false true enabled silent before = refl
unacked-step false false false silent before = refl
unacked-step false false true false before = refl
unacked-step false false true true before = refl

-- the step stops counting where the smaller of the two no longer grows
up : (n : ℕ) → count_up (min 2147483647 n) ≡ min 2147483647 (1 + n)
up n = go (ltb (min 2147483647 n) 2147483647) refl
  where
    go : (b : Bool) → ltb (min 2147483647 n) 2147483647 ≡ b → cond b (min 2147483647 n + 1) (min 2147483647 n) ≡ min 2147483647 (1 + n)
    go true e = omega (arith, ltb-true (min 2147483647 n) 2147483647 e)
    go false e = omega (arith, ltb-false (min 2147483647 n) 2147483647 e)

pub count-step : (reset activated : Bool) (n : ℕ) → count_after reset activated (min 2147483647 n) ≡ min 2147483647 (cond activated 1 0 + cond reset 0 n)
count-step true true n = up 0
count-step false true n = up n
count-step true false n = refl
count-step false false n = omega arith

-- ---- over lists of scans

module _ {S C : Type 0} (f : Facts S C) where
  pub alarm-since : (scans : List S) (c : C) → in_alarm f scans c ≡ since (due f c) (stays f c) scans
  unfolding in_alarm since
  alarm-since [] c = refl
  alarm-since (s ∷ past) c = ap (λ (b : Bool). due f c s past || stays f c s past && b) (alarm-since past c)

module _ {S C : Type 0} (f : Facts S C) (frees : C → Fact S) (clear : Frees f frees) where
  -- the step is told what it kept of every condition: by `fun_ext`, what the first description says of the list before
  pub kept-alarm : (scans : List S) (c : C) → (kept f frees scans c).alarm ≡ in_alarm f scans c
  unfolding in_alarm kept
  kept-alarm [] c = refl
  kept-alarm (s ∷ past) c =
      ap (λ (before : C → Bool). alarm_after (told f frees before c s past) (before c)) (fun_ext (kept-alarm past))
      ∙ alarm-step (f.enabled s past) (f.met c s past) (frees c s past) (f.lasted c s past || (f.beside c (in_alarm f past) || f.rate c)) (in_alarm f past c)
      ∙ ap (λ (b : Bool). due f c s past || f.enabled s past && not b && in_alarm f past c) (sym (clear c s past))

  pub kept-unacked : (scans : List S) (c : C) → (kept f frees scans c).unacked ≡ unacknowledged f scans c
  unfolding kept since
  kept-unacked [] c = sym (and-false f.required)
  kept-unacked (s ∷ past) c =
      ap₂ (λ (before : C → Bool) (b : Bool). unacked_after (told f frees before c s past) (before c) b) (fun_ext (kept-alarm past)) (kept-unacked past c)
      ∙ unacked-step (activation f c s past) f.required (f.enabled s past) (not (f.ack c s past)) (since (activation f c) (unanswered f c) past)

  pub kept-count : (scans : List S) (c : C) → (kept f frees scans c).count ≡ count f scans c
  unfolding kept count_from
  kept-count [] c = refl
  kept-count (s ∷ past) c =
      ap₂ (λ (before : C → Bool) (n : ℕ). count_after (f.reset s past) (activates (told f frees before c s past) (before c)) n) (fun_ext (kept-alarm past))
      (kept-count past c)
      ∙ count-step (f.reset s past) (activation f c s past) (count_from f.reset (activation f c) past)

  -- the events of the step are those of the descriptions
  pub kept-answers : (s : S) (past : List S) (c : C)
      → acknowledges (told f frees (λ d. (kept f frees past d).alarm) c s past) (kept f frees past c).unacked ≡ answer f c s past
  kept-answers s past c = ap (λ (u : Bool). f.enabled s past && f.ack c s past && u) (kept-unacked past c)

  pub kept-returns : (s : S) (past : List S) (c : C)
      → returns (told f frees (λ d. (kept f frees past d).alarm) c s past) (kept f frees past c).alarm ≡ return f c s past
  kept-returns s past c = ap₂ (λ (a b : Bool). f.enabled s past && a && b) (kept-alarm past c) (sym (clear c s past))

  pub kept-activates : (s : S) (past : List S) (c : C)
      → activates (told f frees (λ d. (kept f frees past d).alarm) c s past) (kept f frees past c).alarm ≡ activation f c s past
  kept-activates s past c = ap (λ (before : C → Bool). activates (told f frees before c s past) (before c)) (fun_ext (kept-alarm past))
