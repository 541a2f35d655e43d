-- The bits of a word, and the two's complement of an offset in twelve of them. Assumes nothing.
use Rattle.std.specs.Prelude.{ℕ, ◌+◌, ◌-◌, ◌/◌, ◌%◌, ◌^◌, ◌<◌, ℤ, pos, negsuc}

-- the number that bits `high` down to `low` of the word spell
abbrev pub bits : ℕ → ℕ → ℕ → ℕ
bits high low word = (word / 2 ^ low) % 2 ^ (high + 1 - low)

-- an offset lies from −2048 to 2047
abbrev pub InOffsetRange : ℤ → Type 0
InOffsetRange (pos n) = n < 2048
InOffsetRange (negsuc n) = n < 2048

-- the twelve bits of an offset: −1 is 4095
abbrev pub offset_field : ℤ → ℕ
offset_field (pos n) = n
offset_field (negsuc n) = 4095 - n
