-- `wire::bits::word_of` meets its contract: each bit is added above those before it. Assumes nothing.
use mathlib.Core.Path.{refl, sym, ap, ◌∙◌}
use mathlib.Core.Bool.{false, cond}
use Prim.Native.Nat.{ℕ, ◌+◌, ◌*◌, ◌^◌, ◌<◌, ◌≤◌, suc}
use native.Mathlib.Numerals.{add-one}
use native.Mathlib.Omega.{arith}
use lib.ListN.{get_or, length}
use lib.Pow.{pow_mono}
use Rattle.wire.specs.Internal.Words.{word_of}
use Rattle.wire.proofs.Packing.{worth, above, word-next}
use Rattle.wire.proofs.bits.word_of.Goals as goal

pub loop-place-init : goal.loop-place-init
unfolding word_of
loop-place-init g c = record { sees = refl; fits = omega arith }

pub overflow_add-word : goal.overflow_add-word
overflow_add-word g c =
    let l = c.loop-place in
    let b = get_or c.args.bits l.place false in
    let most : 2 ^ suc l.place ≤ 2 ^ 32 = pow_mono {i = suc l.place} {j = 32} (omega arith) in
    rw (c.from.ensures, worth b l.place (omega arith)) (omega (arith, above l.word l.place b l.invariant.fits, most))

pub loop-place-preserved : goal.loop-place-preserved
loop-place-preserved g c =
    let l = c.loop-place in
    let b = get_or c.args.bits l.place false in
    let within : l.place < length c.args.bits = omega arith in
    rw (c.from.ensures, worth b l.place (omega arith), add-one)
    record {
      sees = ap (λ (w : ℕ). w + 2 ^ l.place * cond b 1 0) l.invariant.sees ∙ sym (word-next c.args.bits l.place within);
      fits = above l.word l.place b l.invariant.fits;
    }
