-- The six conditions of an analog alarm in words of bits: met, freed, ready and acknowledged have a bit for each, at every third place.
use Rattle.std.specs.Prelude.{ℕ, ◌*◌, Bool, List, ◌++◌, take, drop}
use Rattle.wire.specs.Bits.{bit}
use Rattle.wire.specs.Internal.Words.{word_of}
use Rattle.wire.specs.Internal.Places.{condition_bit}
use Rattle.condition.specs.Internal.Outcome.{outcome_bits}
use Rattle.decision.specs.declared.decide.Cells.{Cells}

-- the outcome of the condition at place k, from its bits in the flags
abbrev pub cell : ℕ → Bool → ℕ → ℕ → ℕ → ℕ → Bool → ℕ → List Bool
cell flags enabled met frees ready acks required k =
    outcome_bits
    (record { enabled = enabled; met = bit met (3 * k); frees = bit frees (3 * k); ready = bit ready (3 * k); ack = bit acks (3 * k); required = required })
    (bit flags (condition_bit k 0)) (bit flags (condition_bit k 1))

-- of six outcomes, what is kept, and the events
abbrev pub six : (List Bool → List Bool) → (ℕ → List Bool) → List Bool
six part of = part (of 0) ++ (part (of 1) ++ (part (of 2) ++ (part (of 3) ++ (part (of 4) ++ part (of 5)))))

unfoldable pub cells_of : ℕ → Bool → ℕ → ℕ → ℕ → ℕ → Bool → Cells
cells_of flags enabled met frees ready acks required =
    record {
      kept = word_of (six (take 3) (cell flags enabled met frees ready acks required));
      events = word_of (six (drop 3) (cell flags enabled met frees ready acks required));
    }
