-- `host_bytes::answer::put_words` meets its contract. Assumes nothing.
use Rattle.wire.proofs.Front.{front-put}
use Rattle.host_bytes.proofs.answer.put_words.Goals as goal

pub returns : goal.returns
returns c = rw c.copy_from_slice.ensures.after (front-put c.args.words.now c.args.values.now c.requires)
