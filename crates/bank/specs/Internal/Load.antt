-- What loading a settings image makes of the words that a caller lends.
use Rattle.std.specs.Prelude.{ℕ, cond, List, eqb, length, replicate, Result, Ok, Err, ⊤}
use Rattle.layout.specs.Internal.Sizes.{marks_size, settings_size, states_size}
use Rattle.layout.specs.Internal.Block.{no_bank}
use Rattle.settings.specs.Refusals.{and_then}
use Rattle.settings.specs.Internal.Replies.{reply_of}
use Rattle.settings.specs.declared.refusals.Refusal.{Refusal}
use Rattle.layout.specs.Internal.Block.{settings_words}
use Rattle.reader.specs.Read.{read_of, settings_of}
use Rattle.bank.specs.Lent.{Words}
use Rattle.bank.specs.Internal.Words.{on_reply}

-- each block has its length, whatever its words are. Else 42, and the block
unfoldable pub room_of : Words → Result ⊤ Refusal
room_of w =
    cond (eqb (length w.settings) settings_size)
    (cond (eqb (length w.states) states_size) (cond (eqb (length w.marks) marks_size) (Ok tt) (Err (no_bank 2))) (Err (no_bank 1)))
    (Err (no_bank 0))

-- the words of a bank before its first scan; of a refused image, of a bank without alarms
unfoldable pub loaded_words : List ℕ → Words
loaded_words image = record { settings = settings_words (settings_of image); states = replicate states_size 0; marks = replicate marks_size 0 }

-- the reply: blocks of other lengths are refused before the image is read
unfoldable pub load_reply : Words → List ℕ → Result ⊤ Refusal
load_reply w image = and_then (room_of w) (λ _. reply_of (read_of image))

-- the words after it; blocks of other lengths stay as they were
unfoldable pub load_words : Words → List ℕ → Words
load_words w image = on_reply (room_of w) (loaded_words image) (λ r. w)
