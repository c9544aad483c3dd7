-- `layout::put::analog_words` meets its contract: pairs of numbers and of REALs. Assumes nothing.
use borrow.Author.Rules.{rules}
use Rattle.layout.proofs.Stores.{analog-said}
use Rattle.layout.proofs.put.analog_words.Goals as goal

pub returns : goal.returns
returns c =
    let both = analog-said (search rules) c.from.ensures c.pair.ensures c.args.g c.args.s
    c.real_pair.ensures c.real_pair-2.ensures c.real_pair-3.ensures c.pattern.ensures c.pair-2.ensures
    c.pair-3.ensures c.pair-4.ensures c.pair-5.ensures in
    record { words_are = both.0; read_back = both.1 }
