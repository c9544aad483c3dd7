-- A block that was written is read back: an alarm from its 8 words, settings from the whole block. Assumes nothing.
use mathlib.Core.List.{List, [], ◌∷◌, ◌++◌}
use mathlib.Core.Path.{◌≡◌, sym, ap, ◌∙◌}
use Prim.Native.Nat.{ℕ, zero, suc, ◌+◌, ◌*◌, ◌%◌, ◌≤◌, ◌<◌}
use native.Mathlib.Nat.{zero-add, lt_of_not-le}
use native.Mathlib.Decide.{dec_le}
use native.Mathlib.Omega.{arith}
use mathlib.Core.Bool.{true}
use borrow.Author.Tests.{eq-eqb}
use lib.Dec.{T}
use lib.Ieee.{Float, binary32, of_bits, to_bits, fits}
use lib.Ieee.Bits.{of_bits-to_bits, to_bits-lt}
use lib.ListN.{length, get_or, replicate, length-replicate, get_or-replicate, get_or-append}
use lib.Seq.{get_or-append-add, ext_get_or}
use Rattle.settings.specs.Counts.{in_all, form_at}
use Rattle.settings.specs.Alarm.{blank, blanks}
use Rattle.settings.specs.declared.types.Alarm.{Alarm}
use Rattle.settings.specs.declared.types.Limits.{Limits}
use Rattle.settings.specs.declared.types.Severities.{Severities}
use Rattle.settings.specs.declared.types.Settings.{Settings}
use Rattle.settings.specs.declared.types.Form.{Form}
use Rattle.settings.specs.declared.types.Form.TheVariants.{Digital as DigitalForm, Analog as AnalogForm}
use Rattle.layout.specs.Internal.Words.{lower_of, upper_of, pair_of, lower_real, upper_real, reals_of}
use Rattle.layout.specs.Internal.Words.{limits_in, severities_in, alarm_in, digital_of, analog_of}
use Rattle.layout.specs.Internal.Words.{digital_words, analog_words, alarm_words}
use Rattle.layout.specs.Internal.Block.{alarm_at, head_words, alarms_words, settings_words, placed, alarm_on, count_in, settings_in, is_block}
use Rattle.layout.proofs.Laws.{alarm-same, length-alarm, length-alarms, length-settings, length-placed, placed_below, placed-above}

-- ---- two numbers of a word

lower-back : (l h : ℕ) → l < 4294967296 → lower_of (pair_of l h) ≡ l
lower-back l h m = omega arith

upper-back : (l h : ℕ) → l < 4294967296 → upper_of (pair_of l h) ≡ h
upper-back l h m = omega arith

byte-back : (l h : ℕ) → l < 256 → pair_of l h % 256 ≡ l
byte-back l h m = omega arith

pattern_lt : (x : Float) → T (fits binary32 x) → to_bits binary32 x < 4294967296
pattern_lt x f = to_bits-lt binary32 x f

lower-real : (x : Float) (h : ℕ) → T (fits binary32 x) → lower_real (pair_of (to_bits binary32 x) h) ≡ x
lower-real x h f = ap (of_bits binary32) (lower-back (to_bits binary32 x) h (pattern_lt x f)) ∙ of_bits-to_bits binary32 x f

upper-real : (x y : Float) → T (fits binary32 x) → T (fits binary32 y) → upper_real (reals_of x y) ≡ y
upper-real x y f g = ap (of_bits binary32) (upper-back (to_bits binary32 x) (to_bits binary32 y) (pattern_lt x f)) ∙ of_bits-to_bits binary32 y g

-- ---- an alarm

-- the alarm's words, read by the form, say it again
abbrev pub Kept : Form → Alarm → Type 0
Kept form a = alarm_in form (alarm_words a) 0 ≡ a

pub digital-kept : (flags duration severity : ℕ) → flags < 256 → severity < 4294967296 → Kept DigitalForm (digital_of flags duration severity)
unfolding alarm_in alarm_words digital_words
digital-kept flags duration severity f s = rw (byte-back flags duration f, upper-back flags duration (omega arith), lower-back severity 0 s)

-- each REAL is one of 32 bits
pub record Reals (g : Limits) : Type 0 where
  pub hh : T (fits binary32 g.hh)
  pub h : T (fits binary32 g.h)
  pub l : T (fits binary32 g.l)
  pub ll : T (fits binary32 g.ll)
  pub deadband : T (fits binary32 g.deadband)
  pub rocpos : T (fits binary32 g.rocpos)
  pub rocneg : T (fits binary32 g.rocneg)

pub analog-kept : (flags duration : ℕ) (g : Limits) (s : Severities) (period : ℕ) → flags < 256 → Reals g
    → s.hh < 4294967296 → s.l < 4294967296 → s.rocpos < 4294967296 → Kept AnalogForm (analog_of flags duration g s period)
unfolding alarm_in alarm_words analog_words limits_in severities_in
analog-kept flags duration g s period f r m n o =
    rw (
      byte-back flags duration f,
      upper-back flags duration (omega arith),
      lower-real g.hh (to_bits binary32 g.h) r.hh,
      upper-real g.hh g.h r.hh r.h,
      lower-real g.l (to_bits binary32 g.ll) r.l,
      upper-real g.l g.ll r.l r.ll,
      lower-real g.deadband (to_bits binary32 g.rocpos) r.deadband,
      upper-real g.deadband g.rocpos r.deadband r.rocpos,
      lower-real g.rocneg period r.rocneg,
      upper-back (to_bits binary32 g.rocneg) period (pattern_lt g.rocneg r.rocneg),
      lower-back s.hh s.h m,
      upper-back s.hh s.h m,
      lower-back s.l s.ll n,
      upper-back s.l s.ll n,
      lower-back s.rocpos s.rocneg o,
      upper-back s.rocpos s.rocneg o,
    )

-- ---- blank places

pub long-blanks : length blanks ≡ 24
unfolding blanks
long-blanks = length-replicate 24 blank

blank-at : (p : ℕ) → p < 24 → get_or blanks p blank ≡ blank
unfolding blanks
blank-at p h = get_or-replicate 24 p blank blank h

-- ---- the words of an alarm among those of all

alarms-word : (alarms : List Alarm) (p k : ℕ) → p < length alarms → k < 8
    → get_or (alarms_words alarms) (8 * p + k) 0 ≡ get_or (alarm_words (get_or alarms p blank)) k 0
unfolding alarms_words
alarms-word [] p k h m = absurd (omega arith)
alarms-word (a ∷ rest) zero k h m = rw zero-add (get_or-append (alarm_words a) (alarms_words rest) 0 k (omega (arith, length-alarm a)))
alarms-word (a ∷ rest) (suc p) k h m =
    let e : 8 * suc p + k ≡ length (alarm_words a) + (8 * p + k) = omega (arith, length-alarm a) in
    rw e (get_or-append-add (alarm_words a) (alarms_words rest) (8 * p + k) 0) ∙ alarms-word rest p k (omega arith) m

module _ (s : Settings) (long : length s.alarms ≡ 24) where
  abbrev ws : List ℕ
  ws = settings_words s

  block-word : (p k : ℕ) → p < 24 → k < 8 → get_or ws (alarm_at p + k) 0 ≡ get_or (alarm_words (get_or s.alarms p blank)) (0 + k) 0
  unfolding settings_words
  block-word p k h m =
      let e : alarm_at p + k ≡ 4 + (8 * p + k) = omega arith in
      let head = head_words s.counts in
      ap (λ (i : ℕ). get_or ws i 0) e
      ∙ get_or-append-add head (alarms_words s.alarms ++ replicate 96 0) (8 * p + k) 0
      ∙ get_or-append (alarms_words s.alarms) (replicate 96 0) 0 (8 * p + k) (omega (arith, length-alarms s.alarms))
      ∙ alarms-word s.alarms p k (omega arith) m
      ∙ rw zero-add

  -- the alarm at a place of the block
  block-alarm : (form : Form) (p : ℕ) → p < 24 → alarm_in form ws (alarm_at p) ≡ alarm_in form (alarm_words (get_or s.alarms p blank)) 0
  block-alarm form p h = alarm-same (alarm_words (get_or s.alarms p blank)) ws 0 (alarm_at p) (λ k m. block-word p k h m) form

  pub block-is : is_block ws ≡ true
  unfolding settings_words
  block-is = rw (eq-eqb (length ws) 292 (length-settings s long))

  -- settings whose alarms are kept, and whose other places are blank
  module _ (most : in_all s.counts ≤ 24)
      (kept : (p : ℕ) → p < in_all s.counts → Kept (form_at s.counts p) (get_or s.alarms p blank))
      (behind : (p : ℕ) → in_all s.counts ≤ p → get_or s.alarms p blank ≡ blank) where
    alarm-back : (p : ℕ) → p < 24 → get_or (placed (alarm_on ws) (count_in ws) blanks) p blank ≡ get_or s.alarms p blank
    unfolding settings_words
    alarm-back p h = go (dec_le (in_all s.counts) p)
      where
        go : Dec (in_all s.counts ≤ p) → get_or (placed (alarm_on ws) (count_in ws) blanks) p blank ≡ get_or s.alarms p blank
        go (yes l) = placed-above (alarm_on ws) (count_in ws) p blanks blank l ∙ blank-at p h ∙ sym (behind p l)
        go (no l) =
            let m = lt_of_not-le l in
            placed_below (alarm_on ws) (count_in ws) p blanks blank m (omega (arith, long-blanks)) ∙ block-alarm (form_at s.counts p) p h ∙ kept p m

    alarms-back : placed (alarm_on ws) (count_in ws) blanks ≡ s.alarms
    alarms-back =
        let n = length-placed (alarm_on ws) (count_in ws) blanks ∙ long-blanks in
        ext_get_or blank (placed (alarm_on ws) (count_in ws) blanks) s.alarms (n ∙ sym long) (λ p h. alarm-back p (omega arith))

    -- are read back from their block
    pub settings-back : settings_in ws ≡ s
    unfolding settings_in settings_words
    settings-back = ap (λ (l : List Alarm). record { counts = s.counts; alarms = l }) alarms-back
