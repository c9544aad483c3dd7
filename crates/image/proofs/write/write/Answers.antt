-- `image::write::write` meets its contract: words that are no settings block are refused. Assumes nothing.
use Rattle.image.specs.Internal.Write.{write_of, write_buffer}
use Rattle.image.proofs.write.write.Goals as goal

pub returns-in-Some : goal.returns-in-Some
unfolding write_of write_buffer
returns-in-Some c =
    let b = c.in-Some.ensures in
    let w = c.write_block.ensures in
    record {
      value = rw b.0 (rw b.1 at w.value);
      out_after = rw b.0 (rw b.1 at w.out_after);
    }

pub returns-in-None : goal.returns-in-None
unfolding write_of write_buffer
returns-in-None c =
    record {
      value = rw (c.missing.ensures, c.in-None.ensures);
      out_after = rw c.in-None.ensures;
    }
