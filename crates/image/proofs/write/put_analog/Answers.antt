-- `image::write::put_analog` meets its contract: a byte and fifteen numbers, of which seven are patterns of REALs. Assumes nothing.
use mathlib.Core.Path.{refl, ◌∙◌}
use Rattle.image.specs.Internal.Write.{analog_bytes}
use Rattle.wire.proofs.Laws.{byte-then}
use Rattle.image.proofs.write.put_analog.Goals as goal

pub returns : goal.returns
unfolding analog_bytes
returns c =
    byte-then c.args.out.now c.args.at c.args.flags _ refl
    (c.put_words.ensures
    ∙ rw (
      c.to_pattern.ensures,
      c.to_pattern-2.ensures,
      c.to_pattern-3.ensures,
      c.to_pattern-4.ensures,
      c.to_pattern-5.ensures,
      c.to_pattern-6.ensures,
      c.to_pattern-7.ensures,
    ))
