-- `image::write::put_digital` meets its contract: a byte and two numbers. Assumes nothing.
use mathlib.Core.Path.{refl}
use Rattle.image.specs.Internal.Write.{digital_bytes}
use Rattle.wire.proofs.Laws.{byte-then}
use Rattle.image.proofs.write.put_digital.Goals as goal

pub returns : goal.returns
unfolding digital_bytes
returns c = byte-then c.args.out.now c.args.at c.args.flags _ refl c.put_words.ensures
