-- What is true of an alarm that a record gave: the facts of its kind. Assumes nothing.
use mathlib.Core.Path.{◌≡◌, subst}
use mathlib.Core.List.{List}
use mathlib.Core.Bool.{Bool, true, false, not, ◌&&◌, ◌||◌, false≢true}
use Prim.Native.Nat.{ℕ}
use borrow.Author.Tests.{ltb-true, leb-true}
use lib.Dec.{leb}
use lib.ListN.{get_or}
use Rattle.wire.specs.Number.{number}
use Rattle.wire.proofs.Laws.{and-true}
use Rattle.settings.specs.Condition.{Condition, HH, H, L, LL, ROCPos, ROCNeg, on}
use Rattle.settings.specs.Numbers.{Numbers, reals, real_limit}
use Rattle.settings.specs.Rules.{non_negative, limits_in_range, duration_in_range, in_range, ordered, rising, low_of, high_of, banded, apart}
use Rattle.settings.specs.Internal.Sound.{Bounded, Rising, Banded, SoundAlarm}
use Rattle.settings.specs.declared.types.Alarm.{Alarm}
use Rattle.settings.specs.declared.types.Form.{Form}
use Rattle.settings.specs.declared.types.Form.TheVariants.{Digital as DigitalForm, Analog as AnalogForm}
use Rattle.settings_record.specs.Record.{word_place, limits_at, fields_at, record_at}
use Rattle.std.proofs.Common.{Ok}
use Rattle.settings_record.proofs.Laws.{was_read}

-- ---- tests taken apart

or-true : (a b : Bool) → not a || b ≡ true → a ≡ true → b ≡ true
or-true true b e f = e
or-true false b e f = absurd (false≢true f)

both_true : (a b c : Bool) → not (a && b) || c ≡ true → a ≡ true → b ≡ true → c ≡ true
both_true a b c e f g = or-true (a && b) c e (rw (f, g))

-- ---- the facts of a record

module _ {X : Type 0} (n : Numbers X) where
  in-range : (limit : Condition → X) (d : X) → limits_in_range n limit d ≡ true
      → Bounded n limit d × (non_negative n d ≡ true) × (non_negative n (limit ROCPos) ≡ true) × (non_negative n (limit ROCNeg) ≡ true)
  unfolding limits_in_range
  in-range limit d e =
      let s₂ = and-true _ (non_negative n (limit ROCNeg)) e in
      let s₁ = and-true _ (non_negative n (limit ROCPos)) s₂.0 in
      let s₀ = and-true _ (non_negative n d) s₁.0 in
      let o = and-true _ (n.inside d && n.inside (limit ROCPos) && n.inside (limit ROCNeg)) s₀.0 in
      let o₁ = and-true _ (n.inside (limit ROCNeg)) o.1 in
      let o₀ = and-true (n.inside d) (n.inside (limit ROCPos)) o₁.0 in
      let l₂ = and-true _ (n.inside (limit LL)) o.0 in
      let l₁ = and-true _ (n.inside (limit L)) l₂.0 in
      let l₀ = and-true (n.inside (limit HH)) (n.inside (limit H)) l₁.0 in (
        record { hh = l₀.0; h = l₀.1; l = l₁.1; ll = l₂.1; deadband = o₀.0; rocpos = o₀.1; rocneg = o₁.1 },
        s₀.1,
        s₁.1,
        s₂.1,
      )

  module _ (flags : ℕ) (limit : Condition → X) where
    abbrev pair : Condition → Condition → Bool
    pair = ordered n flags limit

    rises : rising n flags limit ≡ true → Rising n flags limit
    unfolding rising
    rises e =
        let e₅ = and-true _ (pair H HH) e in
        let e₄ = and-true _ (pair L HH) e₅.0 in
        let e₃ = and-true _ (pair L H) e₄.0 in
        let e₂ = and-true _ (pair LL HH) e₃.0 in
        let e₁ = and-true (pair LL L) (pair LL H) e₂.0 in
        record {
          ll-l = both_true (on flags LL) (on flags L) _ e₁.0;
          ll-h = both_true (on flags LL) (on flags H) _ e₁.1;
          ll-hh = both_true (on flags LL) (on flags HH) _ e₂.1;
          l-h = both_true (on flags L) (on flags H) _ e₃.1;
          l-hh = both_true (on flags L) (on flags HH) _ e₄.1;
          h-hh = both_true (on flags H) (on flags HH) _ e₅.1;
        }

    bands : (d : X) → banded n flags limit d ≡ true → Banded n flags limit d
    unfolding banded
    bands d e =
        let high = on flags HH || on flags H in
        let low = on flags L || on flags LL in
        let x = n.below (low_of n flags limit) (n.minus (high_of n flags limit) d) in
        let y = n.below (n.plus (low_of n flags limit) d) (high_of n flags limit) in
        record {
          below = λ p q. (and-true x y (both_true high low (x && y) e p q)).0;
          above = λ p q. (and-true x y (both_true high low (x && y) e p q)).1;
        }

-- of a record of either form
pub sound : (form : Form) (image : List ℕ) (at : ℕ) {a : Alarm} {next : ℕ} → record_at form image at ≡ Ok (a, next) → SoundAlarm form a
unfolding fields_at in_range apart
sound DigitalForm image at e =
    let r = was_read DigitalForm image at e in
    subst (SoundAlarm DigitalForm) r.alarm (record { known = ltb-true _ 8 r.passed.0; duration-range = leb-true _ 2147483647 r.passed.1.0 })
sound AnalogForm image at e =
    let r = was_read AnalogForm image at e in
    let flags = get_or image at 0 in
    let g = limits_at image at in
    let n₁ = and-true _ (duration_in_range (number image (word_place at 14) 4)) r.passed.1.0 in
    let n₀ = and-true (limits_in_range reals (real_limit g) g.deadband) (leb (number image (word_place at 13) 4) 3600000) n₁.0 in
    let n = in-range reals (real_limit g) g.deadband n₀.0 in
    let o = and-true (rising reals flags (real_limit g)) (banded reals flags (real_limit g) g.deadband) r.passed.1.1.0 in
    subst (SoundAlarm AnalogForm) r.alarm
    (record {
      known = ltb-true _ 32 r.passed.0;
      within = n.0;
      deadband-sign = n.1;
      rocpos-sign = n.2;
      rocneg-sign = n.3;
      rises = rises reals flags (real_limit g) o.0;
      bands = bands reals flags (real_limit g) g.deadband o.1;
      period-range = leb-true _ 3600000 n₀.1;
      duration-range = leb-true _ 2147483647 n₁.1;
    })
