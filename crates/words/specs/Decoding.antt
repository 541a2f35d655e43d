-- The instruction that a word stands for, as a computation; that it is the one that writes the word is a law. Assumes nothing.
use Rattle.std.specs.Prelude.{ℕ, ◌-◌, cond, ℤ, pos, negsuc, Some, None, Option, ◌==◌, nat_lt}
use Rattle.words.specs.declared.codes.Condition.{Condition}
use Rattle.words.specs.declared.codes.Condition.TheVariants.{Zero, NotZero, Carry, NotCarry}
use Rattle.words.specs.declared.codes.FlagChange.{FlagChange}
use Rattle.words.specs.declared.codes.FlagChange.TheVariants.{Clrc, Setc, Clrz, Setz, Clri, Seti}
use Rattle.words.specs.declared.codes.Operation.{Operation}
use Rattle.words.specs.declared.codes.Operation.TheVariants.{Sub, Subc, Add, Addc, Mov, And, Or, Xor, Cmp, Test}
use Rattle.words.specs.declared.codes.Rotation.{Rotation}
use Rattle.words.specs.declared.codes.Rotation.TheVariants.{Ror, Rol, Rorc, Rolc}
use Rattle.words.specs.declared.codes.Transfer.{Transfer}
use Rattle.words.specs.declared.codes.Transfer.TheVariants.{Export, Import, Store, Load}
use Rattle.words.specs.declared.instruction.Instruction.{Instruction}
use Rattle.words.specs.declared.instruction.Instruction.TheVariants.{Register, Immediate, Rotate, Flag, Direct, Indirect, BranchIf, CallIf, Call, Return, ReturnFromInterrupt, Branch}
use Rattle.words.specs.Bits.{bits}

unfoldable pub operation_at : ℕ → Operation
operation_at n = cond (nat_lt n 5) (cond (nat_lt n 2) (cond (n == 0) Sub Subc) (cond (n == 2) Add (cond (n == 3) Addc Mov))) (cond (nat_lt n 7) (cond (n == 5) And Or) (cond (n == 7) Xor (cond (n == 8) Cmp Test)))

unfoldable pub rotation_at : ℕ → Rotation
rotation_at n = cond (nat_lt n 2) (cond (n == 0) Ror Rol) (cond (n == 2) Rorc Rolc)

unfoldable pub flag_at : ℕ → FlagChange
flag_at n = cond (nat_lt n 3) (cond (n == 0) Clrc (cond (n == 1) Setc Clrz)) (cond (n == 3) Setz (cond (n == 4) Clri Seti))

unfoldable pub transfer_at : ℕ → Transfer
transfer_at n = cond (nat_lt n 2) (cond (n == 0) Export Import) (cond (n == 4) Store Load)

unfoldable pub condition_at : ℕ → Condition
condition_at n = cond (nat_lt n 2) (cond (n == 0) Zero NotZero) (cond (n == 2) Carry NotCarry)

unfoldable pub offset_at : ℕ → ℤ
offset_at n = cond (nat_lt n 2048) (pos n) (negsuc (4095 - n))

unfoldable pub instruction_of : ℕ → Option Instruction
instruction_of w =
    cond (nat_lt w 0x28000) (cond (bits 13 13 w == 1) (Some (Immediate (operation_at (bits 17 14 w)) (bits 12 8 w) (bits 7 0 w))) (cond (bits 2 0 w == 0) (Some (Register (operation_at (bits 17 14 w)) (bits 12 8 w) (bits 7 3 w))) None))
    (cond (nat_lt w 0x2A000) (cond (nat_lt (bits 2 0 w) 4) (Some (Rotate (rotation_at (bits 2 0 w)) (bits 12 8 w) (bits 7 3 w))) None)
    (cond (nat_lt w 0x2C000) None
    (cond (nat_lt w 0x2C006) (Some (Flag (flag_at (bits 2 0 w))))
    (cond (nat_lt w 0x2E000) None
    (cond (nat_lt w 0x30000) (cond (bits 1 1 w == 0) (Some (Direct (transfer_at (bits 2 0 w)) (bits 12 8 w) (bits 7 3 w))) (Some (Indirect (transfer_at (bits 2 0 w - 2)) (bits 12 8 w) (bits 7 3 w))))
    (cond (nat_lt w 0x34000) (Some (BranchIf (condition_at (bits 13 12 w)) (offset_at (bits 11 0 w))))
    (cond (nat_lt w 0x38000) (Some (CallIf (condition_at (bits 13 12 w)) (offset_at (bits 11 0 w))))
    (cond (nat_lt w 0x39000) (Some (Call (offset_at (bits 11 0 w))))
    (cond (w == 0x39000) (Some Return)
    (cond (nat_lt w 0x3A000) None
    (cond (w == 0x3A000) (Some ReturnFromInterrupt)
    (cond (nat_lt w 0x3B000) None
    (cond (nat_lt w 0x3C000) (Some (Branch (offset_at (bits 11 0 w)))) None)))))))))))))
