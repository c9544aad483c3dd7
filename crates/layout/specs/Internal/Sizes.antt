-- The sizes of a bank's blocks, in words: places for alarms, behind a head that the settings and the states have.
use Rattle.std.specs.Prelude.{ℕ, ◌+◌, ◌*◌}

-- how many alarms a block has room for
abbrev pub places : ℕ
places = 36

-- what stands in front of the alarms: the layout word, the counts, and room for a third one; the time, and room for more
abbrev pub settings_head : ℕ
settings_head = 4

abbrev pub states_head : ℕ
states_head = 4

-- an alarm's settings; its state, with room for more; its counts and stamps
abbrev pub alarm_size : ℕ
alarm_size = 8

abbrev pub state_size : ℕ
state_size = 16

abbrev pub mark_size : ℕ
mark_size = 25

abbrev pub settings_size : ℕ
settings_size = settings_head + alarm_size * places

abbrev pub states_size : ℕ
states_size = states_head + state_size * places

abbrev pub marks_size : ℕ
marks_size = mark_size * places
