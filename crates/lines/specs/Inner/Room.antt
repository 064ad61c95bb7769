-- How many bytes the writers ask for, at most.
use Rattle.std.specs.Prelude.{ℕ}

-- a number of 64 bits and the character after it
abbrev pub number_room : ℕ
number_room = 21

-- four numbers
abbrev pub code_room : ℕ
code_room = 84

-- a count of one byte, or "far"
abbrev pub ending_room : ℕ
ending_room = 3

-- 32 digits, a blank, an ending and a line feed
abbrev pub line_room : ℕ
line_room = 37

-- "clean", "mended", "far" and "places", each with a blank and a number
abbrev pub closing_room : ℕ
closing_room = 108
