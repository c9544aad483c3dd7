-- Many scans of a bank, each on the words as the one before left them, and on what is left of one event buffer.
use Rattle.std.specs.Prelude.{ℕ, zero, suc, ◌+◌, ◌-◌, ◌*◌, ◌/◌, List, ◌++◌, length, take, drop, None, Some, Result, Ok, Err}
use Rattle.std.specs.Option.{option_or}
use Rattle.settings.specs.Refusals.{and_then}
use Rattle.settings.specs.declared.refusals.Refusal.{Refusal}
use Rattle.layout.specs.Internal.Block.{counts_in}
use Rattle.scan_record.specs.Internal.Size.{length_of}
use Rattle.bank.specs.Internal.Words.{on_reply, fit_of}
use Rattle.bank.specs.Lent.{Words}
use Rattle.scan.specs.Internal.Words.{answer_of, scanned_words, buffer_of}
use Rattle.event.specs.Event.{event_size}
use Rattle.replay.specs.declared.replay.Tally.{Tally}

-- the length of a bank's records
abbrev pub size_for : Words → ℕ
size_for w = length_of (counts_in w.settings)

-- the record with an index, from 0; the last one may be shorter
abbrev pub drive_record : ℕ → List ℕ → ℕ → List ℕ
drive_record size bytes i = take size (drop (size * i) bytes)

-- how many records there are; a shorter rest is one
abbrev pub records_in : ℕ → List ℕ → ℕ
records_in size bytes = (length bytes + (size - 1)) / size

-- before the first record
abbrev pub none_yet : Tally
none_yet = record { events = 0; refused = 0; first = None }

-- after the answer to the record with index i: n more events, or a refusal, of which the first is kept
abbrev pub counted : Tally → Result ℕ Refusal → ℕ → Tally
counted t (Ok n) i = record { events = t.events + n; refused = t.refused; first = t.first }
counted t (Err r) i = record { events = t.events; refused = t.refused + 1; first = option_or t.first (Some (record { refusal = r; index = i })) }

-- after some records: the words, how the records were answered, and the event buffer
pub record Progress : Type 0 where
  pub words : Words
  pub tally : Tally
  pub buffer : List ℕ

-- the part of the buffer with the events so far
abbrev pub used_of : Progress → List ℕ
used_of p = take (event_size * p.tally.events) p.buffer

-- what is left of it
abbrev pub left_of : Progress → List ℕ
left_of p = drop (event_size * p.tally.events) p.buffer

-- one more record, with index i: a scan that is lent what is left of the buffer
unfoldable pub onward : Progress → ℕ → List ℕ → Progress
onward p i rec =
    record {
      words = scanned_words p.words rec (length (left_of p));
      tally = counted p.tally (answer_of p.words rec (length (left_of p))) i;
      buffer = used_of p ++ buffer_of p.words rec (left_of p);
    }

-- after the first n records
unfoldable pub progress_after : Words → List ℕ → List ℕ → ℕ → Progress
progress_after w bytes out zero = record { words = w; tally = none_yet; buffer = out }
progress_after w bytes out (suc n) = onward (progress_after w bytes out n) n (drive_record (size_for w) bytes n)

-- after all of them
abbrev pub replay_of : Words → List ℕ → List ℕ → Progress
replay_of w bytes out = progress_after w bytes out (records_in (size_for w) bytes)

-- ---- a replay, whatever the words are

-- what is answered; words that are no bank are refused, and no record is looked at
unfoldable pub replayed_of : Words → List ℕ → List ℕ → Result Tally Refusal
replayed_of w bytes out = and_then (fit_of w) (λ _. Ok (replay_of w bytes out).tally)

-- the words after it
unfoldable pub replayed_words : Words → List ℕ → List ℕ → Words
replayed_words w bytes out = on_reply (fit_of w) (replay_of w bytes out).words (λ r. w)

-- the lent event buffer after it
unfoldable pub replayed_buffer : Words → List ℕ → List ℕ → List ℕ
replayed_buffer w bytes out = on_reply (fit_of w) (replay_of w bytes out).buffer (λ r. out)
