-- The calls of a host: the number of a refusal as the result, and an answer in words. An answer that is too short is refused by 40, and a
-- report buffer that is too short by 41; everything stays then.
use Rattle.std.specs.Prelude.{ℕ, Bool, cond, List, [], ◌∷◌, ◌++◌, ltb, length, Option, None, Some, Result, Ok, Err, ⊤}
use Rattle.std.specs.Result.{is_ok}
use Rattle.std.proofs.lemmas.List.Edits.{sets}
use Rattle.settings.specs.Refusals.{number_of}
use Rattle.settings.specs.declared.refusals.Refusal.{Refusal}
use Rattle.settings.specs.declared.counts.Counts.{Counts}
use Rattle.layout.specs.Internal.Block.{counts_in}
use Rattle.report.specs.declared.report.AlarmReport.{AlarmReport}
use Rattle.replay.specs.declared.replay.Tally.{Tally}
use Rattle.replay.specs.declared.replay.FirstRefusal.{FirstRefusal}
use Rattle.host_bytes.specs.Bytes.{report_bytes, report_size}

-- ---- what is new unless a buffer is too short

abbrev pub unless : {X : Type 0} → Bool → X → X → X
unless short old new = cond short old new

-- an answer has fewer than n words
abbrev pub short_answer : ℕ → List ℕ → Bool
short_answer n answer = ltb (length answer) n

-- ---- the answers: number and place of a refusal, or 0 and 0, and what the call has to say

abbrev pub number_in : {A : Type 0} → Result A Refusal → ℕ
number_in (Ok x) = 0
number_in (Err r) = number_of r.reason

abbrev pub refusal_words : Refusal → List ℕ
refusal_words r = number_of r.reason ∷ r.place ∷ []

abbrev pub reply_words : Result ⊤ Refusal → List ℕ
reply_words (Ok x) = 0 ∷ 0 ∷ []
reply_words (Err r) = refusal_words r

-- load: the numbers of digital and of analog alarms, 0 of a refused image
abbrev pub load_words : Result ⊤ Refusal → Counts → List ℕ
load_words (Ok x) counts = 0 ∷ 0 ∷ counts.digital ∷ counts.analog ∷ []
load_words (Err r) counts = refusal_words r ++ 0 ∷ 0 ∷ []

abbrev pub load_answer : Result ⊤ Refusal → List ℕ → List ℕ
load_answer reply settings = load_words reply (counts_in settings)

-- scan: the number of events; write: the length of the image
abbrev pub counted_words : Result ℕ Refusal → List ℕ
counted_words (Ok n) = 0 ∷ 0 ∷ n ∷ []
counted_words (Err r) = refusal_words r ++ 0 ∷ []

-- replay: how many events and refused records there are, and number, place and index of the first refusal; of words that are no bank, that refusal
abbrev pub tally_words : ℕ → ℕ → Option FirstRefusal → List ℕ
tally_words events refused None = events ∷ refused ∷ 0 ∷ 0 ∷ 0 ∷ []
tally_words events refused (Some f) = events ∷ refused ∷ refusal_words f.refusal ++ f.index ∷ []

abbrev pub replay_words : Result Tally Refusal → List ℕ
replay_words (Ok t) = tally_words t.events t.refused t.first
replay_words (Err r) = 0 ∷ 0 ∷ refusal_words r ++ 0 ∷ []

-- report: the bytes of an accepted one
abbrev pub report_out : AlarmReport → List ℕ → List ℕ
report_out said out = cond (is_ok said.reply) (sets out 0 (report_bytes said)) out

abbrev pub report_code : ℕ → ℕ → AlarmReport → ℕ
report_code words room said = cond (ltb words 2) 40 (cond (ltb room report_size) 41 (number_in said.reply))
