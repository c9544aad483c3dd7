-- `image::write::write_block` meets its contract: both sections one after the other, where there is room. Assumes nothing.
use Rattle.std.proofs.Common.{Ok}
use Rattle.image.proofs.Images.{image-length, image-front, room, section-room}
use Rattle.image.proofs.Blocks.{digital-same, analog-same}
use Rattle.settings.specs.declared.types.Form.TheVariants.{Digital, Analog}
use Rattle.layout.specs.Internal.Block.{count_in, settings_in}
use Rattle.image.specs.Internal.Write.{written_of, image_buffer, read_as}
use Prim.Native.Nat.{◌≤◌}
use native.Mathlib.Omega.{arith}
use mathlib.Core.Path.{sym, ap, ◌∙◌}
use Rattle.image.proofs.write.write_block.Goals as goal

pub returns-then-not-has_room : goal.returns-then-not-has_room
unfolding written_of image_buffer settings_in
returns-then-not-has_room c =
    let h = c.has_room in
    let t = rw c.counts_in-counts.ensures at (sym h.ensures ∙ c.if-not-has_room.true) in
    record {
      value = rw c.at.ensures (simp t);
      out_after = simp t;
    }

pub put_section-next-requires : goal.put_section-next-requires
put_section-next-requires c =
    let counts = c.counts_in-counts.result in
    let ws = c.args.words.now in
    let h = c.has_room in
    let r = room counts _ (sym h.ensures ∙ c.if-not-has_room.false) in
    record {
      few = omega (arith, section-room Digital 0 counts.digital (read_as Digital ws), r.most, r.image);
      room = omega (arith, section-room Digital 0 counts.digital (read_as Digital ws), r.most, r.image);
    }

pub put_section-length-requires : goal.put_section-length-requires
put_section-length-requires c =
    let counts = c.counts_in-counts.result in
    let ws = c.args.words.now in
    let h = c.has_room in
    let r = room counts _ (sym h.ensures ∙ c.if-not-has_room.false) in
    let first = section-room Digital 0 counts.digital (read_as Digital ws) in
    let second = section-room Analog counts.digital counts.analog (read_as Analog ws) in
    record { few = omega (arith, r.most, r.image); room = omega (arith, r.most, r.image) }

pub returns : goal.returns
unfolding written_of image_buffer settings_in
returns c =
    let a = c.args in
    let ws = a.words.now in
    let s = settings_in ws in
    let h = c.has_room in
    let same = c.counts_in-counts.ensures in
    let t = rw same at (sym h.ensures ∙ c.if-not-has_room.false) in
    let r = room _ _ t in
    let m : count_in ws ≤ 24 = omega (arith, r.most) in
    let p = rw (same, digital-same ws m) at c.put_section-next.ensures in
    let q = rw (same, analog-same ws m) at c.put_section-length.ensures in
    record {
      value = rw t (ap Ok (image-length s p.value q.value));
      out_after = rw t (image-front s a.out.now r p.value p.out_after q.out_after);
    }
