-- What operations, rotations and flag words compute. Assumes nothing.
use Rattle.std.specs.Prelude.{ℕ, ◌+◌, ◌-◌, ◌*◌, ◌/◌, ◌%◌, Bool, true, false, cond, ◌==◌, bit_and, bit_or, bit_xor, nat_le, nat_lt}
use Rattle.words.specs.declared.codes.FlagChange.{FlagChange}
use Rattle.words.specs.declared.codes.FlagChange.TheVariants.{Clrc, Setc, Clrz, Setz, Clri, Seti}
use Rattle.words.specs.declared.codes.Operation.{Operation}
use Rattle.words.specs.declared.codes.Operation.TheVariants.{Sub, Subc, Add, Addc, Mov, And, Or, Xor, Cmp, Test}
use Rattle.words.specs.declared.codes.Rotation.{Rotation}
use Rattle.words.specs.declared.codes.Rotation.TheVariants.{Ror, Rol, Rorc, Rolc}
use Rattle.machine.specs.declared.board.operations.Outcome.{Outcome}
use Rattle.machine.specs.Cores.{Core, register, with_register, with_flags, with_interrupts}

-- a result and the carry that goes with it
abbrev pub Computed : Type 0
Computed = Outcome

abbrev pub bit : Bool → ℕ
bit flag = cond flag 1 0

-- modulo 256, with carry where the sum passes 255
abbrev pub sum : ℕ → ℕ → Computed
sum a b = record { value = (a + b) % 256; carry = nat_le 256 (a + b) }

-- modulo 256, with carry where the difference is negative
abbrev pub difference : ℕ → ℕ → Computed
difference a b = record { value = (a + 512 - b) % 256; carry = nat_lt a b }

abbrev pub computed : Operation → Bool → ℕ → ℕ → Computed
computed Sub carry a b = difference a b
computed Subc carry a b = difference a (b + bit carry)
computed Add carry a b = sum a b
computed Addc carry a b = sum a (b + bit carry)
computed Mov carry a b = record { value = b; carry = carry }
computed And carry a b = record { value = bit_and a b; carry = carry }
computed Or carry a b = record { value = bit_or a b; carry = carry }
computed Xor carry a b = record { value = bit_xor a b; carry = carry }
computed Cmp carry a b = difference a b
computed Test carry a b = record { value = bit_and a b; carry = carry }

-- whether the result goes into Rd: comparing and testing keep it
abbrev pub keeps : Operation → Bool
keeps Sub = false
keeps Subc = false
keeps Add = false
keeps Addc = false
keeps Mov = false
keeps And = false
keeps Or = false
keeps Xor = false
keeps Cmp = true
keeps Test = true

-- by one bit; through the carry, the bit that falls out becomes the carry
abbrev pub rotated : Rotation → Bool → ℕ → Computed
rotated Ror carry b = record { value = 128 * (b % 2) + b / 2; carry = carry }
rotated Rol carry b = record { value = (2 * b) % 256 + b / 128; carry = carry }
rotated Rorc carry b = record { value = 128 * bit carry + b / 2; carry = (b % 2 == 1) }
rotated Rolc carry b = record { value = (2 * b) % 256 + bit carry; carry = (b / 128 == 1) }

-- the result into a register, and both flags
abbrev pub settled : ℕ → Computed → Core → Core
settled rd result core = with_register rd result.value (with_flags result.carry (result.value == 0) core)

abbrev pub operated : Operation → ℕ → ℕ → Core → Core
operated operation rd second core =
    cond (keeps operation) (with_flags result.carry (result.value == 0) core) (settled rd result core)
  where
    result : Computed
    result = computed operation core.carry (register core rd) second

abbrev pub flagged : FlagChange → Core → Core
flagged Clrc core = with_flags false core.zero core
flagged Setc core = with_flags true core.zero core
flagged Clrz core = with_flags core.carry false core
flagged Setz core = with_flags core.carry true core
flagged Clri core = with_interrupts false core.service core
flagged Seti core = with_interrupts true core.service core
