-- A bank in blocks of its own.
use Rattle.std.specs.Prelude.{ℕ, cond, replicate, Result, Ok}
use Rattle.settings.specs.Refusals.{and_then}
use Rattle.settings.specs.declared.refusals.Refusal.{Refusal}
use Rattle.report.specs.declared.report.AlarmReport.{AlarmReport}
use Rattle.settings.specs.Counts.{are_good, in_all}
use Rattle.layout.specs.Internal.Block.{counts_in}
use Rattle.layout.specs.Internal.Sizes.{marks_size, settings_size, states_size}
use Rattle.bank.specs.Lent.{Words}
use Rattle.bank_text.specs.declared.owned.Bank.{Bank}

-- its words, as the library's calls see them
abbrev pub words_of : Bank → Words
words_of b = record { settings = b.settings; states = b.states; marks = b.marks }

-- words that no call wrote yet
abbrev pub blank_words : Words
blank_words = record { settings = replicate settings_size 0; states = replicate states_size 0; marks = replicate marks_size 0 }

-- how many alarms it has
abbrev pub alarms_of : Words → ℕ
alarms_of w = cond (are_good (counts_in w.settings)) (in_all (counts_in w.settings)) 0

-- a report, or why it is refused
abbrev pub said_of : AlarmReport → Result AlarmReport Refusal
said_of found = and_then found.reply (λ _. Ok found)
