-- One number more is put in front of those that are.
use mathlib.Core.Path.{◌≡◌, refl}
use native.Mathlib.Omega.{arith}
use lib.ListN.{length}
use Prim.Native.Nat.{ℕ, ◌-◌}
use Rattle.std.proofs.lemmas.List.{drop_all, length-set}
use Rattle.text.proofs.Rows.{put-more, put-all, row-ascii, short, some}
use Rattle.text.proofs.row.put.Goals as goal

pub loop-left-init : goal.loop-left-init
loop-left-init c =
    let room : length c.args.text.now ≡ 147 = omega arith in
    rw (drop_all 147 c.args.text.now (omega arith), drop_all (length c.args.numbers.now) c.args.numbers.now (omega arith))
    (refl, room, omega arith, omega arith, omega arith)

pub write_digits-at-requires : goal.write_digits-at-requires
write_digits-at-requires c =
    let digits = short c.args.numbers.now (λ k. (c.type_inv.numbers k).fits) in
    (omega (arith, digits), omega arith)

pub overflow_sub-at : goal.overflow_sub-at
overflow_sub-at c =
    let digits = short c.args.numbers.now (λ k. (c.type_inv.numbers k).fits) in
    omega (arith, digits)

pub loop-left-preserved : goal.loop-left-preserved
loop-left-preserved c =
    let now = c.loop-left in
    let left = now.left - 1 in
    let digits = short c.args.numbers.now (λ k. (c.type_inv.numbers k).fits) in
    let nonempty = some c.args.numbers.now (λ k. (c.type_inv.numbers k).fits) in
    let start = c.write_digits-at.result - 1 in (
      put-more now.text c.write_digits-at.new.buf c.args.numbers.now left now.left now.at start c.write_digits-at.result
          (omega arith) (omega (arith, nonempty)) (omega arith) (omega (arith, nonempty)) now.invariant.0 c.write_digits-at.ensures.written,
      omega (arith, length-set {A = ℕ}),
      omega (arith, digits),
      omega (arith, nonempty),
      omega arith,
    )

pub returns-clause-within : goal.returns-clause-within
returns-clause-within c = omega arith

pub returns-clause-written : goal.returns-clause-written
returns-clause-written c =
    put-all c.loop-left.text c.args.numbers.now c.loop-left.at c.loop-left.left (omega arith) (omega arith) c.loop-left.invariant.0

pub returns-clause-ascii : goal.returns-clause-ascii
returns-clause-ascii c = row-ascii c.args.numbers.now (λ k. (c.type_inv.numbers k).fits)
