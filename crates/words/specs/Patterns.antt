-- Which words are defined: those that fit a pattern and whose other bits are 0. Assumes nothing.
use Rattle.std.specs.Prelude.{◌≡◌, ℕ, ◌^◌, ◌<◌, ◌⊎◌}
use Rattle.words.specs.Bits.{bits}

-- sub to test of two registers: bits 17–14 choose, bit 13 is 0, and bits 2–0 are unused
abbrev pub RegisterPattern : ℕ → Type 0
RegisterPattern w = (bits 17 14 w < 10) × (bits 13 13 w ≡ 0) × (bits 2 0 w ≡ 0)

-- subi to testi of a register and a constant: bits 17–14 choose, bit 13 is 1
abbrev pub ImmediatePattern : ℕ → Type 0
ImmediatePattern w = (bits 17 14 w < 10) × (bits 13 13 w ≡ 1)

-- ror, rol, rorc, rolc: bits 2–0 choose
abbrev pub RotatePattern : ℕ → Type 0
RotatePattern w = (bits 17 13 w ≡ 0b10100) × (bits 2 0 w < 4)

-- clrc to seti: bits 2–0 choose, and bits 12–3 are unused
abbrev pub FlagPattern : ℕ → Type 0
FlagPattern w = (bits 17 13 w ≡ 0b10110) × (bits 12 3 w ≡ 0) × (bits 2 0 w < 6)

-- export to lspi: bits 2–0 choose
abbrev pub TransferPattern : ℕ → Type 0
TransferPattern w = bits 17 13 w ≡ 0b10111

-- bz to callnc: bits 14–12 choose
abbrev pub ConditionalPattern : ℕ → Type 0
ConditionalPattern w = bits 17 15 w ≡ 0b110

-- call (0) and b (3)
abbrev pub UnconditionalPattern : ℕ → Type 0
UnconditionalPattern w = (bits 17 15 w ≡ 0b111) × ((bits 14 12 w ≡ 0) ⊎ (bits 14 12 w ≡ 3))

-- ret (1) and iret (2): bits 11–0 are unused
abbrev pub ReturnPattern : ℕ → Type 0
ReturnPattern w = (bits 17 15 w ≡ 0b111) × ((bits 14 12 w ≡ 1) ⊎ (bits 14 12 w ≡ 2)) × (bits 11 0 w ≡ 0)

abbrev pub Fits : ℕ → Type 0
Fits w = RegisterPattern w ⊎ (ImmediatePattern w ⊎ (RotatePattern w ⊎ (FlagPattern w ⊎ (TransferPattern w ⊎ (ConditionalPattern w ⊎ (UnconditionalPattern w ⊎ ReturnPattern w))))))

abbrev pub Defined : ℕ → Type 0
Defined w = (w < 2 ^ 18) × Fits w
