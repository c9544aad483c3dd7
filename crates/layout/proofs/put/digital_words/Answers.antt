-- `layout::put::digital_words` meets its contract: two pairs. Assumes nothing.
use borrow.Author.Rules.{rules}
use Rattle.layout.proofs.Stores.{digital-said}
use Rattle.layout.proofs.put.digital_words.Goals as goal

pub returns : goal.returns
returns c =
    let both = digital-said (search rules) c.from.ensures c.pair-first.ensures c.pair.ensures in
    record { words_are = both.0; read_back = both.1 }
