-- `condition::mode::modes` meets its contract: the bits after the scan and the events, packed. Assumes nothing.
use Rattle.condition.specs.Internal.Mode.{mode_bits}
use Rattle.wire.specs.Bits.{bit}
use Rattle.wire.specs.Internal.Words.{word_of}
use Rattle.wire.proofs.WordLaws.{word_two}
use native.Mathlib.Omega.{arith}
use mathlib.Core.List.{[], ◌∷◌}
use mathlib.Core.Path.{◌≡◌, refl, ◌∙◌}
use mathlib.Core.Bool.{Bool, true, false}
use Prim.Native.Nat.{ℕ}
use Rattle.condition.proofs.mode.modes.Goals as goal

-- a word that commands nothing
idle : (disabled suppressed : Bool) (previous : ℕ) → word_of (disabled ∷ suppressed ∷ []) ≡ word_of (mode_bits disabled suppressed 0 previous)
unfolding mode_bits word_of
idle true true previous = refl
idle true false previous = refl
idle false true previous = refl
idle false false previous = refl

pub returns-then-word-eq0 : goal.returns-then-word-eq0
returns-then-word-eq0 c =
    let a = c.args in
    (rw c.if-word-eq0.true (word_two a.digit ∙ idle (bit a.digit 0) (bit a.digit 1) a.command.previous), omega arith)

pub returns : goal.returns
unfolding mode_bits
returns c = (cc, c.word_of.ensures.1)
