-- The blocks of a bank, as code has them.
use Rattle.std.specs.Prelude.{ℕ, List, ◌≡◌}
use Rattle.bank.specs.Lent.{Words}
use Rattle.bank.specs.declared.blocks.Blocks.{Blocks}
use Rattle.bank.specs.declared.blocks.Kept.{Kept}
use Rattle.bank.specs.Internal.Words.{words_in}

abbrev pub words_under : Blocks → Words
words_under b = words_in b.settings.now b.states.now b.marks.now

-- the words of a bank: its settings, and what it keeps
abbrev pub kept_words : List ℕ → Kept → Words
kept_words settings k = words_in settings k.states.now k.marks.now

-- what is kept is kept in the same words that were lent
abbrev pub SameWords : Kept → Kept → Type 0
SameWords before after = (after.states.ghost_name ≡ before.states.ghost_name) × (after.marks.ghost_name ≡ before.marks.ghost_name)
