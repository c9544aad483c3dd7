-- `image::write::put_records` meets its contract: the invariant: writing the alarms that are left gives what writing all gives, and room is left
-- for them. Assumes nothing.
use borrow.Author.Rules.{rules}
use Rattle.image.proofs.Images.{length-first, sets_first, records-none}
use Rattle.image.proofs.Blocks.{length-read, record-read}
use mathlib.Core.Path.{sym, ap, ◌∙◌}
use Prim.Native.Nat.{◌≤◌}
use native.Mathlib.Omega.{arith}
use lib.ListN.{length}
use lib.Seq.{sets}
use Rattle.image.specs.Internal.Write.{read_as}
use Rattle.image.proofs.write.put_records.Goals as goal

pub put_record-at-requires : goal.put_record-at-requires
put_record-at-requires c =
    let a = c.args in
    let l = c.loop-index in
    let long : a.end ≤ length (read_as a.form a.words.now) = omega (arith, length-read a.form a.words.now, c.requires.end_le_all_most) in
    let e = record-read a.form a.words.now l.index (search rules) c.alarm_in-alarm.ensures c.settings_in.ensures in
    rw e (omega (arith, length-first a.form (read_as a.form a.words.now) l.index a.end (search rules) long))

pub loop-index-preserved : goal.loop-index-preserved
loop-index-preserved c =
    let a = c.args in
    let l = c.loop-index in
    let xs = read_as a.form a.words.now in
    let long : a.end ≤ length xs = omega (arith, length-read a.form a.words.now, c.requires.end_le_all_most) in
    let e = record-read a.form a.words.now l.index (search rules) c.alarm_in-alarm.ensures c.settings_in.ensures in
    let n = length-first a.form xs l.index a.end (search rules) long in
    let s = sets_first a.form xs l.index a.end l.out l.at (search rules) long in
    let p = c.put_record-at in
    let r = rw e at p.ensures.value in
    record {
      same_length = p.auto.out ∙ l.invariant.same_length;
      room = omega arith;
      left = rw (p.ensures.out_after, r, e) (s ∙ l.invariant.left);
    }

pub returns : goal.returns
returns c =
    let a = c.args in
    let l = c.loop-index in
    let e = records-none a.form (read_as a.form a.words.now) l.index a.end c.loop-index-test.false in
    record {
      value = omega (arith, ap length e);
      out_after = sym (ap (sets l.out l.at) e) ∙ l.invariant.left;
    }
