-- A bank in words that a caller lends: settings, states, and counts and stamps. Every content of the words stands for some bank.
use Rattle.std.specs.Prelude.{ℕ, cond, List, eqb, length, get_or, replicate, Result, Ok, Err, ⊤}
use Rattle.layout.specs.Internal.Sizes.{marks_size, states_size}
use Rattle.settings.specs.Counts.{all_most}
use Rattle.settings.specs.declared.refusals.Refusal.{Refusal}
use Rattle.layout.specs.Internal.Block.{no_bank, placed, settings_in, is_block, state_at}
use Rattle.state.specs.Internal.Held.{fresh_state}
use Rattle.state.specs.Internal.State.{state_in}
use Rattle.bank.specs.Lent.{Words}
use Rattle.bank.specs.Internal.Bank.{Bank}

abbrev pub words_in : List ℕ → List ℕ → List ℕ → Words
words_in settings states marks = record { settings = settings; states = states; marks = marks }

-- what follows from an answer: two cases, where a word for each would be longer
abbrev pub on_reply : {X : Type 0} → Result ⊤ Refusal → X → (Refusal → X) → X
on_reply (Ok accepted) x f = x
on_reply (Err r) x f = f r

-- ---- words that a call wrote

-- each block has its length, and the first word of the settings is the layout's. Else 42, and the block: 0 settings, 1 states, 2 counts and stamps
unfoldable pub fit_of : Words → Result ⊤ Refusal
fit_of w =
    cond (is_block w.settings)
    (cond (eqb (length w.states) states_size) (cond (eqb (length w.marks) marks_size) (Ok tt) (Err (no_bank 2))) (Err (no_bank 1)))
    (Err (no_bank 0))

-- ---- the bank that they stand for

unfoldable pub bank_in : Words → Bank
bank_in w =
    record {
      settings = settings_in w.settings;
      time = get_or w.states 0 0;
      states = placed (λ p. state_in w.states (state_at p)) all_most (replicate all_most fresh_state);
      marks = w.marks;
    }
