-- `wire::bits::spread_of` meets its contract: each bit is added three places above the one before it. Assumes nothing.
use mathlib.Core.Path.{◌≡◌, refl, sym, ap, ◌∙◌}
use mathlib.Core.Bool.{false, cond}
use Prim.Native.Nat.{ℕ, ◌+◌, ◌-◌, ◌*◌, ◌^◌, ◌<◌, ◌≤◌, suc}
use native.Mathlib.Numerals.{add-one}
use native.Mathlib.Omega.{arith}
use lib.ListN.{get_or, length}
use lib.Pow.{pow_mono}
use Rattle.wire.specs.Internal.Words.{word_of, spread}
use Rattle.wire.proofs.Packing.{worth, above-two, spread-next}
use Rattle.wire.proofs.bits.spread_of.Goals as goal

pub loop-place-init : goal.loop-place-init
unfolding word_of spread
loop-place-init g c = record { sees = refl; fits = omega arith }

pub overflow_add-word : goal.overflow_add-word
overflow_add-word g c =
    let l = c.loop-place in
    let b = get_or c.args.bits l.place false in
    let most : 2 ^ suc (3 * l.place) ≤ 2 ^ 32 = pow_mono {i = suc (3 * l.place)} {j = 32} (omega arith) in
    rw (c.from.ensures, worth b (3 * l.place) (omega arith)) (omega (arith, above-two l.word (3 * l.place) b l.invariant.fits, most))

pub loop-place-preserved : goal.loop-place-preserved
loop-place-preserved g c =
    let l = c.loop-place in
    let b = get_or c.args.bits l.place false in
    let within : l.place < length c.args.bits = omega arith in
    let next : 3 * (l.place + 1) - 2 ≡ suc (3 * l.place) = omega arith in
    rw (c.from.ensures, worth b (3 * l.place) (omega arith), next, add-one)
    record {
      sees = ap (λ (w : ℕ). w + 2 ^ (3 * l.place) * cond b 1 0) l.invariant.sees ∙ sym (spread-next c.args.bits l.place within);
      fits = above-two l.word (3 * l.place) b l.invariant.fits;
    }
