-- An analog step on words, put together. Assumes nothing.
use mathlib.Core.Path.{◌≡◌, refl, ap, ◌∙◌, sym, ap₂}
use mathlib.Core.Bool.{Bool, false, not, ◌&&◌, and-false, ◌||◌}
use mathlib.Core.List.{List, ◌++◌, [], ◌∷◌}
use Prim.Native.Nat.{ℕ, ◌+◌, ◌*◌, ◌/◌, ◌-◌, suc}
use lib.ListN.{take, drop, get_or, set}
use Rattle.wire.specs.Bits.{bit}
use Rattle.wire.specs.Internal.Words.{word_of, spread}
use Rattle.wire.proofs.WordLaws.{word_low}
use Rattle.wire.proofs.MaskLaws.{bit-spread}
use Rattle.wire.specs.Internal.Places.{condition_unit}
use Rattle.condition.specs.Internal.Outcome.{ack_bits}
use Rattle.decision.specs.declared.decide.Cells.{Cells}
use Rattle.decision.specs.Internal.Cells.{six, cells_of}
use native.Mathlib.Omega.{arith}
use Rattle.settings.specs.Numbers.{AnalogOf, reals, value_of, new_rate, real_of, analog_reals}
use Rattle.settings.specs.declared.types.Alarm.{Alarm}
use Rattle.settings.specs.declared.types.Reading.{Reading}
use Rattle.level.specs.Internal.Bits.{met_bits, frees_bits}
use Rattle.condition.specs.Internal.Mode.{mode_bits}
use native.Mathlib.Nat.{zero-div}
use lib.Dec.{leb}
use lib.Ieee.{Float, binary32, of_bits}
use lib.Seq.{sets}
use Rattle.layout.specs.Internal.Words.{lower_of, upper_of, pair_of}
use Rattle.level.specs.Internal.Sample.{sample_after}
use Rattle.condition.specs.Command.{acks}
use Rattle.settings.specs.Internal.Reals.{limits_of, real_analog}
use Rattle.level.specs.Level.{met, frees}
use Rattle.state.specs.Internal.State.{State, state_words, state_in}
use Rattle.state.specs.Internal.Held.{Six, HH, H, L, LL, ROCPos, ROCNeg, High, Low, place, of_six, AnalogHeld, real_patterns, look_analog, analog_flags}
use Rattle.state.specs.Internal.Starts.{keep_starts}
use Rattle.sample.specs.Internal.Sample.{stays_in, rate_in, sample_in, sampled_in}
use Rattle.analog.specs.Internal.Analog.{analog_enabled, sample_pattern, rate_pattern, analog_step}
use Rattle.analog.specs.Internal.Packed.{all_begin, ready_in, enabled_in, decided, SameFrees, flags_after}
use Rattle.layout.proofs.Stay.{pair-back, copied, n3, n4, n5, n6, n7, n8, n9, n10}
use Rattle.state.proofs.Starts.{start_values, values-behind, starts-stored}
use Rattle.sample.proofs.Patterns.{rate-is, value-is, rate-fits, rate-back}
use Rattle.analog.proofs.Words.{analog-stored, rest-stored}
use Rattle.analog.proofs.Assemble.{after, outcomes, cells_are, analog-flags, analog-events}

-- the starts of the sides and of the conditions
abbrev starts_in : AnalogHeld Float → List ℕ
starts_in h =
    (h.run High).start ∷ (h.run Low).start ∷ (h.cell HH).start ∷ (h.cell H).start ∷ (h.cell L).start ∷ (h.cell LL).start ∷ (h.cell ROCPos).start
    ∷ (h.cell ROCNeg).start ∷ []

module _ (a : AnalogOf Float) (ws : List ℕ) (at : ℕ) (x : Reading) (word time : ℕ) where
  abbrev s : State
  s = state_in ws at

  module _ {enabled : Bool} {met' : ℕ} (e : enabled ≡ analog_enabled reals a x word time (look_analog real_patterns s))
      (m : met' ≡ word_of (spread (met_bits reals a (real_of x) (after reals real_patterns a s x word time).sample.rate))) where
    abbrev bits : List Bool
    bits = met_bits reals a (real_of x) (after reals real_patterns a s x word time).sample.rate

    bit-of : (k : ℕ) → bit met' (3 * k) ≡ get_or bits k false
    bit-of k = ap (λ (w : ℕ). bit w (3 * k)) m ∙ bit-spread bits k

    -- the starts that the words get
    pub starts-are : start_values (all_begin s.flags enabled met') time (at + 3) ws ≡ starts_in (after reals real_patterns a s x word time)
    unfolding start_values state_in met_bits
    starts-are =
        rw (n3 at, n4 at, n5 at, n6 at, n7 at, n8 at, n9 at, n10 at, e, bit-of 0, bit-of 1, bit-of 2, bit-of 3, bit-of 4, bit-of 5)

-- ---- the sample

module _ (a : AnalogOf Float) (ws : List ℕ) (at : ℕ) (x : Reading) (word time : ℕ) {enabled : Bool}
    (e : enabled ≡ analog_enabled reals a x word time (look_analog real_patterns (state_in ws at))) where
  abbrev state : State
  state = state_in ws at

  abbrev period : ℕ
  period = a.period

  pub rate-pattern-is : rate_in state.flags enabled period (get_or ws (at + 1) 0) (get_or ws (at + 2) 0) (value_of reals (real_of x)) time
      ≡ rate_pattern reals real_patterns a state x word time
  unfolding rate_in state_in sample_after
  rate-pattern-is =
      rw e
      (rate-is (analog_enabled reals a x word time (look_analog real_patterns state)) (bit state.flags 3) (leb period (time - state.sampled)) state.rate
      (new_rate period (of_bits binary32 state.sample) (value_of reals (real_of x))) (of_bits binary32 state.rate))

  pub sample-words : sample_in state.flags enabled period (get_or ws (at + 1) 0) (get_or ws (at + 2) 0) (value_of reals (real_of x)) time
      ≡ pair_of (sample_pattern reals real_patterns a state x word time) (rate_pattern reals real_patterns a state x word time)
  unfolding state_in sample_after
  sample-words = ap₂ pair_of (value-is (stays_in state.flags period state.sampled time) state.sample (value_of reals (real_of x))) rate-pattern-is

  pub sampled-is : sampled_in state.flags period (get_or ws (at + 2) 0) time ≡ (after reals real_patterns a state x word time).sample.at
  unfolding state_in sample_after
  sampled-is = refl

  -- the rate that its pattern stands for
  pub rate-real : of_bits binary32 (rate_pattern reals real_patterns a state x word time) ≡ (after reals real_patterns a state x word time).sample.rate
  unfolding state_in sample_after
  rate-real =
      rate-back (analog_enabled reals a x word time (look_analog real_patterns state)) (bit state.flags 3) (leb period (time - state.sampled)) state.rate
      (new_rate period (of_bits binary32 state.sample) (value_of reals (real_of x)))
      (rate-fits period (of_bits binary32 state.sample) (value_of reals (real_of x)))

-- ---- at rest

none : (bs : List Bool) {w : ℕ} → w ≡ word_of (spread bs) → w ≡ 0 → (c : Six) → get_or bs (place c) false ≡ false
none bs e z c = sym (bit-spread bs (place c)) ∙ rw (← e, z, zero-div)

module _ (a : AnalogOf Float) (x : Reading) (rate : Float) {w : ℕ} (e : w ≡ word_of (spread (met_bits reals a (real_of x) rate))) (z : w ≡ 0) where
  pub none-met : (c : Six) → met reals a (of_six c) (real_of x) rate ≡ false
  unfolding met_bits
  none-met HH = none (met_bits reals a (real_of x) rate) e z HH
  none-met H = none (met_bits reals a (real_of x) rate) e z H
  none-met L = none (met_bits reals a (real_of x) rate) e z L
  none-met LL = none (met_bits reals a (real_of x) rate) e z LL
  none-met ROCPos = none (met_bits reals a (real_of x) rate) e z ROCPos
  none-met ROCNeg = none (met_bits reals a (real_of x) rate) e z ROCNeg

-- no command, only a sample stored, and nothing met: starts, flags and command word stay, and there are no events
pub analog-rests : (a : AnalogOf Float) (s : State) (x : Reading) (word time : ℕ) → word ≡ 0 → s.flags ≡ 8 → s.previous ≡ 0
    → ((c : Six) → met reals a (of_six c) (real_of x) (after reals real_patterns a s x word time).sample.rate ≡ false)
    → analog_step reals real_patterns a s x word time
    ≡ record {
      state = record {
        flags = s.flags;
        previous = s.previous;
        sample = sample_pattern reals real_patterns a s x word time;
        rate = rate_pattern reals real_patterns a s x word time;
        sampled = (after reals real_patterns a s x word time).sample.at;
        high = s.high;
        low = s.low;
        hh = s.hh;
        h = s.h;
        l = s.l;
        ll = s.ll;
        rocpos = s.rocpos;
        rocneg = s.rocneg;
      };
      events = 0;
    }
unfolding analog_step acks word_of
analog-rests a s x word time w f p unmet = rw (unmet HH, unmet H, unmet L, unmet LL, unmet ROCPos, unmet ROCNeg, w, f, p) (simp and-false)

-- its words
pub rest-words : (ws : List ℕ) (at p q sampled : ℕ)
    → state_words (record {
      flags = (state_in ws at).flags;
      previous = (state_in ws at).previous;
      sample = p;
      rate = q;
      sampled = sampled;
      high = (state_in ws at).high;
      low = (state_in ws at).low;
      hh = (state_in ws at).hh;
      h = (state_in ws at).h;
      l = (state_in ws at).l;
      ll = (state_in ws at).ll;
      rocpos = (state_in ws at).rocpos;
      rocneg = (state_in ws at).rocneg;
    })
    ≡ get_or ws at 0 ∷ pair_of p q ∷ sampled ∷ (copied ws (suc (suc (suc at))) 8 ++ [])
unfolding state_words state_in copied
rest-words ws at p q sampled = rw (pair-back (get_or ws at 0), n3 at, n4 at, n5 at, n6 at, n7 at, n8 at, n9 at, n10 at)

-- ---- an analog alarm that is not at rest

-- the modes say that the alarm is enabled
pub enabled-is : (a : AnalogOf Float) (s : State) (x : Reading) (word time : ℕ) {m : ℕ}
    → m ≡ word_of (mode_bits (bit s.flags 0) (bit s.flags 1) word s.previous)
    → enabled_in m ≡ analog_enabled reals a x word time (look_analog real_patterns s)
unfolding mode_bits
enabled-is a s x word time p = ap not (word_low _ _ p)

module _ (a : AnalogOf Float) (ws : List ℕ) (at : ℕ) (x : Reading) (word time : ℕ) {m flags met' frees' freed duration first high low : ℕ} {required : Bool}
    (p : m ≡ word_of (mode_bits (bit (state_in ws at).flags 0) (bit (state_in ws at).flags 1) word (state_in ws at).previous))
    (q : met' ≡ word_of (spread (met_bits reals a (real_of x) (after reals real_patterns a (state_in ws at) x word time).sample.rate)))
    (r : SameFrees flags met' frees' freed) (n : flags ≡ (state_in ws at).flags) (v : freed ≡ word_of (spread (frees_bits reals a (real_of x))))
    (d : duration ≡ a.duration) (k : required ≡ bit a.flags 4) (f : first ≡ get_or ws at 0) (h : high ≡ get_or ws (at + 3) 0) (l : low ≡ get_or ws (at + 4) 0)
  where
    abbrev kept : State
    kept = state_in ws at

    abbrev next : AnalogHeld Float
    next = after reals real_patterns a kept x word time

    on-is : enabled_in m ≡ analog_enabled reals a x word time (look_analog real_patterns kept)
    on-is = enabled-is a kept x word time p

    six-are : decided first high low m met' frees' duration required word time
        ≡ record {
          kept = word_of (six (take 3) (outcomes reals real_patterns a kept x word time));
          events =
              word_of (six (drop 3) (outcomes reals real_patterns a kept x word time));
        }
    unfolding decided state_in
    six-are =
        let ready : ℕ = ready_in (lower_of first) high low duration time in
        let acks : ℕ = word_of (spread (ack_bits word (upper_of first))) in
        ap (λ (w : ℕ). cells_of w (enabled_in m) met' frees' ready acks required) (ap lower_of f ∙ sym n)
        ∙ r.alike (enabled_in m) ready acks required
        ∙ (λ i.
        cells_of (n i) (on-is i) (q i) (v i) (ready_in (lower_of (f i)) (h i) (l i) (d i) time) (word_of (spread (ack_bits word (upper_of (f i))))) (k i))
        ∙ cells_are reals real_patterns a kept x word time

    pub events-are : m / 8 + condition_unit * (decided first high low m met' frees' duration required word time).events
        ≡ (analog_step reals real_patterns a kept x word time).events
    unfolding analog_step
    events-are = ap (λ (c : Cells). m / 8 + condition_unit * c.events) six-are ∙ analog-events reals real_patterns a kept x word time p

    met-bit : (n : ℕ) → bit met' (3 * n) ≡ get_or (met_bits reals a (real_of x) next.sample.rate) n false
    met-bit n = ap (λ (w : ℕ). bit w (3 * n)) q ∙ bit-spread (met_bits reals a (real_of x) next.sample.rate) n

    runs-are : word_of (enabled_in m ∷ (enabled_in m && (bit met' 0 || bit met' 3)) ∷ (enabled_in m && (bit met' 6 || bit met' 9)) ∷ [])
        ≡ word_of (next.held ∷ (next.run High).on ∷ (next.run Low).on ∷ [])
    unfolding met_bits
    runs-are = λ i. word_of (on-is i ∷ (on-is i && (met-bit 0 i || met-bit 1 i)) ∷ (on-is i && (met-bit 2 i || met-bit 3 i)) ∷ [])

    pub flags-are : flags_after m met' (decided first high low m met' frees' duration required word time) ≡ word_of (analog_flags next)
    flags-are = ap (flags_after m met') six-are ∙ analog-flags reals real_patterns a kept x word time p runs-are

pub analog-done : (a : AnalogOf Float) (ws : List ℕ) (at : ℕ) (x : Reading) (word time : ℕ) {enabled : Bool} {met' first was : ℕ} {l k : List ℕ}
    → enabled ≡ analog_enabled reals a x word time (look_analog real_patterns (state_in ws at))
    → met' ≡ word_of (spread (met_bits reals a (real_of x) (after reals real_patterns a (state_in ws at) x word time).sample.rate))
    → first ≡ pair_of (word_of (analog_flags (after reals real_patterns a (state_in ws at) x word time))) word
    → l ≡ sets ws (at + 1) (sample_in (state_in ws at).flags enabled a.period (get_or ws (at + 1) 0) (get_or ws (at + 2) 0) (value_of reals (real_of x)) time ∷
    sampled_in (state_in ws at).flags a.period (get_or ws (at + 2) 0) time ∷ [])
    → was ≡ get_or ws at 0 → k ≡ set (keep_starts (all_begin (lower_of was) enabled met') time (at + 3) l) at first
    → k ≡ sets ws at (state_words (analog_step reals real_patterns a (state_in ws at) x word time).state)
unfolding analog_step state_words state_in
analog-done a ws at x word time {enabled} {met'} {first} {l = l} e m f p b q =
    let s : State = state_in ws at in
    let w : ℕ = pair_of (sample_pattern reals real_patterns a s x word time) (rate_pattern reals real_patterns a s x word time) in
    let t : ℕ = (after reals real_patterns a s x word time).sample.at in
    let bs : List Bool = all_begin s.flags enabled met' in
    let stored : l ≡ sets ws (at + 1) (w ∷ t ∷ []) =
    p ∙ (λ i. sets ws (at + 1) (sample-words a ws at x word time e i ∷ sampled-is a ws at x word time e i ∷ [])) in
    let behind : start_values bs time (at + 3) (sets ws (at + 1) (w ∷ t ∷ [])) ≡ start_values bs time (at + 3) ws =
    values-behind bs time (at + 3) (suc (at + 1)) t (set ws (at + 1) w) (omega arith) ∙ values-behind bs time (at + 3) (at + 1) w ws (omega arith)
    in
    q
    ∙ ap (λ (v : ℕ). set (keep_starts (all_begin (lower_of v) enabled met') time (at + 3) l) at first) b
    ∙ ap (λ (n : List ℕ). set (keep_starts bs time (at + 3) n) at first) stored
    ∙ ap (λ (n : List ℕ). set n at first) (starts-stored bs time (at + 3) (sets ws (at + 1) (w ∷ t ∷ [])))
    ∙ ap (λ (vs : List ℕ). set (sets (sets ws (at + 1) (w ∷ t ∷ [])) (at + 3) vs) at first) (behind ∙ starts-are a ws at x word time e m)
    ∙ analog-stored ws at first w t (starts_in (after reals real_patterns a s x word time))
    ∙ ap (λ (n : ℕ). sets ws at (n ∷ w ∷ t ∷ starts_in (after reals real_patterns a s x word time))) f

first-flags : (ws : List ℕ) (at : ℕ) → get_or ws at 0 ≡ 8 → (state_in ws at).flags ≡ 8
unfolding state_in
first-flags ws at f = ap lower_of f

first-previous : (ws : List ℕ) (at : ℕ) → get_or ws at 0 ≡ 8 → (state_in ws at).previous ≡ 0
unfolding state_in
first-previous ws at f = ap upper_of f

-- and one at rest
pub rest-done : (a : AnalogOf Float) (ws : List ℕ) (at : ℕ) (x : Reading) (word time : ℕ) {enabled : Bool} {l : List ℕ}
    → enabled ≡ analog_enabled reals a x word time (look_analog real_patterns (state_in ws at)) → word ≡ 0 → get_or ws at 0 ≡ 8
    → ((c : Six) → met reals a (of_six c) (real_of x) (after reals real_patterns a (state_in ws at) x word time).sample.rate ≡ false)
    → l ≡ sets ws (at + 1) (sample_in (state_in ws at).flags enabled a.period (get_or ws (at + 1) 0) (get_or ws (at + 2) 0) (value_of reals (real_of x)) time ∷
    sampled_in (state_in ws at).flags a.period (get_or ws (at + 2) 0) time ∷ [])
    → (0 ≡ (analog_step reals real_patterns a (state_in ws at) x word time).events)
    × (l ≡ sets ws at (state_words (analog_step reals real_patterns a (state_in ws at) x word time).state))
rest-done a ws at x word time e w f unmet p =
    let s : State = state_in ws at in
    let rests = analog-rests a s x word time w (first-flags ws at f) (first-previous ws at f) unmet in
    let words =
    ap (λ r. state_words r.state) rests
    ∙ rest-words ws at (sample_pattern reals real_patterns a s x word time) (rate_pattern reals real_patterns a s x word time)
    (after reals real_patterns a s x word time).sample.at in (
      sym (ap (λ r. r.events) rests),
      p
          ∙ (λ i. sets ws (at + 1) (sample-words a ws at x word time e i ∷ sampled-is a ws at x word time e i ∷ []))
          ∙ rest-stored ws at _ _
          ∙ ap (sets ws at) (sym words),
    )

-- ---- of an alarm's settings the level rules see flags, limits and period

pub met-sees : (a : Alarm) (x : Reading) (rate : Float)
    → met_bits reals (analog_reals a.flags 0 (limits_of a.kind) (real_analog a).period) (real_of x) rate ≡ met_bits reals (real_analog a) (real_of x) rate
unfolding met_bits met
met-sees a x rate = refl

pub frees-sees : (a : Alarm) (x : Reading) → frees_bits reals (analog_reals 0 0 (limits_of a.kind) 0) (real_of x) ≡ frees_bits reals (real_analog a) (real_of x)
unfolding frees_bits frees
frees-sees a x = refl
