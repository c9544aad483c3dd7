-- How the conditions of an alarm are numbered: 0 for the one of a digital alarm, 1 to 6 for those of an analog one.
use Rattle.std.specs.Prelude.{ℕ}
use Rattle.settings.specs.declared.types.Form.{Form}
use Rattle.settings.specs.declared.types.Form.TheVariants.{Digital, Analog}

-- the first number
abbrev pub first_number : Form → ℕ
first_number Digital = 0
first_number Analog = 1

-- the number past the last
abbrev pub end_of_numbers : Form → ℕ
end_of_numbers Digital = 1
end_of_numbers Analog = 7
