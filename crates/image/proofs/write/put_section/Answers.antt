-- `image::write::put_section` meets its contract: the count, then the records. Assumes nothing.
use Rattle.image.proofs.Images.{section-length}
use Rattle.image.specs.Internal.Write.{section_bytes, read_as}
use native.Mathlib.Numerals.{add-one}
use native.Mathlib.Omega.{arith}
use lib.ListN.{length-set}
use mathlib.Core.Path.{◌∙◌}
use Rattle.image.proofs.write.put_section.Goals as goal

pub bounds-out-at : goal.bounds-out-at
unfolding section_bytes
bounds-out-at c =
    let a = c.args in
    omega (arith, section-length a.form a.first a.count (read_as a.form a.words.now))

pub put_records-requires : goal.put_records-requires
unfolding section_bytes
put_records-requires c =
    let a = c.args in
    record {
      end_le_all_most = omega (arith, section-length a.form a.first a.count (read_as a.form a.words.now));
      room = omega (arith, length-set a.out.now a.at a.count, section-length a.form a.first a.count (read_as a.form a.words.now));
    }

pub returns : goal.returns
unfolding section_bytes
returns c =
    let a = c.args in
    let p = c.put_records in
    record {
      value = omega (arith, section-length a.form a.first a.count (read_as a.form a.words.now));
      out_after = p.ensures.out_after ∙ rw add-one;
    }
