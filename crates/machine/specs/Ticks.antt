-- What a tick tells the machine: the byte that a port would give, and the interrupt line. Assumes nothing.
use Rattle.std.specs.Prelude.{ℕ, ◌%◌, Bool, nat_le}

-- bits 7–0
abbrev pub port_byte : ℕ → ℕ
port_byte tick = tick % 256

-- bit 8 of a number below 512
abbrev pub line : ℕ → Bool
line tick = nat_le 256 tick
