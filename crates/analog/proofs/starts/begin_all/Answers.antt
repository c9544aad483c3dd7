-- `analog::starts::begin_all` meets its contract. Assumes nothing.
use mathlib.Core.Path.{◌≡◌, refl, sym, ap, ◌∙◌}
use mathlib.Core.Bool.{Bool, true, false, not, ◌&&◌, ◌||◌}
use mathlib.Core.List.{List}
use borrow.Author.Tests.{eqb-true}
use Prim.Native.Nat.{ℕ}
use native.Mathlib.Nat.{zero-div}
use Rattle.wire.specs.Bits.{bit}
use Rattle.wire.proofs.Laws.{and-true}
use Rattle.state.specs.Internal.Starts.{keep_starts}
use Rattle.analog.specs.Internal.Packed.{row_begins, all_begin}
use Rattle.state.proofs.Starts.{none-begins}
use Rattle.analog.proofs.starts.begin_all.Goals as goal

not-true : (b : Bool) → not b ≡ true → b ≡ false
not-true true e = sym e
not-true false e = refl

none : {w : ℕ} (k : ℕ) {b : Bool} → w ≡ 0 → bit w k ≡ b → b ≡ false
none k z e = sym e ∙ rw (z, zero-div)

-- none of the words' bits is set: every start stays
quiet : (flags met : ℕ) (enabled : Bool) (time at : ℕ) (ws : List ℕ) {w : ℕ} → w ≡ 0
    → (bit w 0 ≡ row_begins flags enabled met 0) × (bit w 3 ≡ row_begins flags enabled met 1) × (bit w 6 ≡ row_begins flags enabled met 2)
    × (bit w 9 ≡ row_begins flags enabled met 3) × (bit w 12 ≡ row_begins flags enabled met 4) × (bit w 15 ≡ row_begins flags enabled met 5)
    → not (enabled && (bit met 0 || bit met 3) && not (bit flags 4)) ≡ true → not (enabled && (bit met 6 || bit met 9) && not (bit flags 5)) ≡ true
    → ws ≡ keep_starts (all_begin flags enabled met) time at ws
quiet flags met enabled time at ws {w} z bits high low =
    rw (
      none {w = w} 0 {b = row_begins flags enabled met 0} z bits.0,
      none {w = w} 3 {b = row_begins flags enabled met 1} z bits.1,
      none {w = w} 6 {b = row_begins flags enabled met 2} z bits.2,
      none {w = w} 9 {b = row_begins flags enabled met 3} z bits.3,
      none {w = w} 12 {b = row_begins flags enabled met 4} z bits.4,
      none {w = w} 15 {b = row_begins flags enabled met 5} z bits.5,
      not-true (enabled && (bit met 0 || bit met 3) && not (bit flags 4)) high,
      not-true (enabled && (bit met 6 || bit met 9) && not (bit flags 5)) low,
    )
    (sym (none-begins 8 time at ws))

pub returns-then-begins-high : goal.returns-then-begins-high
returns-then-begins-high c =
    let a = c.args in
    let high : a.enabled && c.sides_of-sides.result.high && not c.is_set.result ≡ a.enabled && (bit a.met 0 || bit a.met 3) && not (bit a.flags 4) = cc in
    let low : a.enabled && c.sides_of-sides.result.low && not c.is_set-2.result ≡ a.enabled && (bit a.met 6 || bit a.met 9) && not (bit a.flags 5) = cc in
    let rests = and-true _ _ c.if-begins-high.true in
    let still = and-true _ _ rests.0 in
    quiet a.flags a.met a.enabled a.time 0 a.starts.now (eqb-true _ _ still.0) c.rows_begin-begins.ensures (ap not (sym high) ∙ still.1)
    (ap not (sym low) ∙ rests.1)

pub returns : goal.returns
returns c = cc
