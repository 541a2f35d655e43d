-- Hexadecimal digits as bytes of text, in upper case. Assumes nothing.
use Rattle.std.specs.Prelude.{ℕ, ◌+◌, ◌/◌, ◌%◌, cond, List, [], ◌∷◌, ◌++◌, nat_lt}

-- the digit of a number below 16: 48 is `0`, and 55 + 10 is `A`
abbrev pub hex_digit : ℕ → ℕ
hex_digit n = cond (nat_lt n 10) (48 + n) (55 + n)

-- the last two digits of a number
abbrev pub hex_two : ℕ → List ℕ
hex_two n = hex_digit (n / 16 % 16) ∷ hex_digit (n % 16) ∷ []

-- the last four digits of a number
abbrev pub hex_four : ℕ → List ℕ
hex_four n = hex_two (n / 256 % 256) ++ hex_two (n % 256)
