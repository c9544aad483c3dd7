-- A state that is stored is read back, and stores elsewhere leave it. Assumes nothing.
use mathlib.Core.Path.{◌≡◌, refl, sym, ap, ◌∙◌}
use mathlib.Core.Bool.{Bool}
use mathlib.Core.List.{List}
use Prim.Native.Nat.{ℕ, ◌+◌, ◌^◌, ◌≤◌, ◌<◌}
use lib.ListN.{get_or, length}
use Rattle.wire.specs.Number.{part}
use Rattle.wire.specs.Internal.Words.{word_of}
use Rattle.wire.proofs.WordLaws.{word_lt}
use Rattle.wire.specs.Internal.Places.{word_bits}
use native.Mathlib.Omega.{arith}
use native.Mathlib.Nat.{add-zero, zero-add, pow-le-pow_right}
use lib.Seq.{sets}
use Rattle.layout.specs.Internal.Words.{lower_of, upper_of, pair_of}
use Rattle.layout.proofs.Laws.{get_or-above, get_or-below, get_or-stored, get_or-part, sets-whole}
use Rattle.state.specs.Internal.State.{State, state_words, state_in}

-- its halves of words have 32 bits
pub record Small (s : State) : Type 0 where
  pub flags : s.flags < 4294967296
  pub sample : s.sample < 4294967296

-- what words stand for is so
pub small-in : (ws : List ℕ) (at : ℕ) → Small (state_in ws at)
unfolding state_in
small-in ws at = record { flags = omega arith; sample = omega arith }

lower-back : (l h : ℕ) → l < 4294967296 → lower_of (pair_of l h) ≡ l
lower-back l h m = omega arith

upper-back : (l h : ℕ) → l < 4294967296 → upper_of (pair_of l h) ≡ h
upper-back l h m = omega arith

-- ---- a state is read off its eleven words alone

module _ (ws us : List ℕ) (at b : ℕ) (same : (k : ℕ) → k < 11 → get_or us (b + k) 0 ≡ get_or ws (at + k) 0) where
  pub state-same : state_in us b ≡ state_in ws at
  unfolding state_in
  state-same =
      let e : get_or us b 0 ≡ get_or ws at 0 = simp add-zero at (same 0 (omega arith)) in
      rw (
        e,
        same 1 (omega arith),
        same 2 (omega arith),
        same 3 (omega arith),
        same 4 (omega arith),
        same 5 (omega arith),
        same 6 (omega arith),
        same 7 (omega arith),
        same 8 (omega arith),
        same 9 (omega arith),
        same 10 (omega arith),
      )

-- eleven words, cut out, say the state
pub state-cut : (ws : List ℕ) (at : ℕ) → state_in (part ws at 11) 0 ≡ state_in ws at
state-cut ws at = state-same ws (part ws at 11) at 0 (λ k m. get_or-part ws at 11 (0 + k) 0 (omega arith) ∙ rw zero-add)

-- stores in front of its words leave it, and so do stores behind them
pub state-above : (ws : List ℕ) (i : ℕ) (vs : List ℕ) (at : ℕ) → i + length vs ≤ at → state_in (sets ws i vs) at ≡ state_in ws at
state-above ws i vs at h = state-same ws (sets ws i vs) at at (λ k m. get_or-above ws i vs (at + k) 0 (omega arith))

pub state-below : (ws : List ℕ) (i : ℕ) (vs : List ℕ) (at : ℕ) → at + 11 ≤ i → state_in (sets ws i vs) at ≡ state_in ws at
state-below ws i vs at h = state-same ws (sets ws i vs) at at (λ k m. get_or-below ws i vs (at + k) 0 (omega arith))

-- its words by themselves
words-say : (s : State) → Small s → state_in (state_words s) 0 ≡ s
unfolding state_in state_words
words-say s m =
    rw (
      lower-back s.flags s.previous m.flags,
      upper-back s.flags s.previous m.flags,
      lower-back s.sample s.rate m.sample,
      upper-back s.sample s.rate m.sample,
    )

pub eleven : (s : State) → length (state_words s) ≡ 11
unfolding state_words
eleven s = refl

pub put_back : (ws : List ℕ) (at : ℕ) (s : State) → at + 11 ≤ length ws → Small s → state_in (sets ws at (state_words s)) at ≡ s
put_back ws at s h m =
    state-same (state_words s) (sets ws at (state_words s)) 0 at (λ k l. stored k l ∙ ap (λ (n : ℕ). get_or (state_words s) n 0) (from_zero k)) ∙ words-say s m
  where
    long : length (state_words s) ≡ 11
    long = eleven s

    stored : (k : ℕ) → k < 11 → get_or (sets ws at (state_words s)) (at + k) 0 ≡ get_or (state_words s) k 0
    stored k l = get_or-stored ws at (state_words s) k 0 (omega (arith, long)) (omega (arith, long))

    from_zero : (k : ℕ) → k ≡ 0 + k
    from_zero k = omega arith

-- written over eleven words they are all there is
pub words-whole : (ws : List ℕ) (s : State) → length ws ≡ 11 → sets ws 0 (state_words s) ≡ state_words s
words-whole ws s h = sets-whole ws (state_words s) (h ∙ sym (eleven s))

-- the flags of a step
pub flags-small : (bs : List Bool) → length bs ≤ word_bits → word_of bs < 4294967296
flags-small bs h =
    let m : 2 ^ length bs ≤ 2 ^ word_bits = pow-le-pow_right (omega arith) h in
    let k : 2 ^ word_bits ≤ 4294967296 = omega arith in
    omega (arith, word_lt bs, m, k)
