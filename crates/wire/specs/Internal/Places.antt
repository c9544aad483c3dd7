-- Where bits stand in the two words of an alarm, its flags and the events of a scan: first those of the whole alarm, then three for each
-- condition.
use Rattle.std.specs.Prelude.{ℕ, ◌+◌, ◌*◌, ◌/◌, ◌^◌, Bool, false, List, [], ◌∷◌}

-- the flags of the whole alarm: disabled, suppressed, InFaulted, a rate sample is stored, the run of the high and of the low side goes on
abbrev pub disabled_flag : ℕ
disabled_flag = 0

abbrev pub suppressed_flag : ℕ
suppressed_flag = 1

abbrev pub faulted_flag : ℕ
faulted_flag = 2

abbrev pub sampled_flag : ℕ
sampled_flag = 3

abbrev pub high_flag : ℕ
high_flag = 4

abbrev pub low_flag : ℕ
low_flag = 5

-- of its events, the count reset
abbrev pub reset_event : ℕ
reset_event = 4

-- behind these, bits of the flags and of the events that nothing uses: they are never set
abbrev pub free_flags : List Bool → List Bool
free_flags rest = false ∷ false ∷ false ∷ rest

abbrev pub free_events : List Bool
free_events = false ∷ false ∷ false ∷ false ∷ []

-- the first bit of the first condition
abbrev pub first_condition : ℕ
first_condition = 9

-- what a one counts there
abbrev pub condition_unit : ℕ
condition_unit = 2 ^ first_condition

-- how many bits a word has: three for each of six conditions
abbrev pub word_bits : ℕ
word_bits = first_condition + 18

-- the j-th bit of the condition at place c
abbrev pub condition_bit : ℕ → ℕ → ℕ
condition_bit c j = first_condition + j + 3 * c

-- a word from the bits of the condition at place c on
abbrev pub from_condition : ℕ → ℕ → ℕ
from_condition c w = w / 2 ^ condition_bit c 0

-- a bit for each of the six conditions, at every third place: 111111 to base 8
abbrev pub six_bits : ℕ
six_bits = 37449

-- what three words of such bits, side by side, are below
abbrev pub six_range : ℕ
six_range = 2 ^ 18
