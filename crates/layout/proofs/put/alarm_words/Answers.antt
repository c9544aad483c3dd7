-- `layout::put::alarm_words` meets its contract: by the kind. Assumes nothing.
use Rattle.layout.specs.Internal.Words.{alarm_words}
use Rattle.layout.proofs.put.alarm_words.Goals as goal

pub returns-in-Digital-clause-words_are : goal.returns-in-Digital-clause-words_are
unfolding alarm_words
returns-in-Digital-clause-words_are c = rw c.in-Digital.is c.digital_words.ensures.words_are

pub returns-in-Analog-clause-words_are : goal.returns-in-Analog-clause-words_are
unfolding alarm_words
returns-in-Analog-clause-words_are c = rw c.in-Analog.is c.analog_words.ensures.words_are
