-- The number that stands in a word for each operation, rotation, flag change, transfer and condition. Assumes nothing.
use Rattle.std.specs.Prelude.{ℕ}
use Rattle.words.specs.declared.codes.Operation.{Operation}
use Rattle.words.specs.declared.codes.Operation.TheVariants.{Sub, Subc, Add, Addc, Mov, And, Or, Xor, Cmp, Test}
use Rattle.words.specs.declared.codes.Rotation.{Rotation}
use Rattle.words.specs.declared.codes.Rotation.TheVariants.{Ror, Rol, Rorc, Rolc}
use Rattle.words.specs.declared.codes.FlagChange.{FlagChange}
use Rattle.words.specs.declared.codes.FlagChange.TheVariants.{Clrc, Setc, Clrz, Setz, Clri, Seti}
use Rattle.words.specs.declared.codes.Transfer.{Transfer}
use Rattle.words.specs.declared.codes.Transfer.TheVariants.{Export, Import, Store, Load}
use Rattle.words.specs.declared.codes.Condition.{Condition}
use Rattle.words.specs.declared.codes.Condition.TheVariants.{Zero, NotZero, Carry, NotCarry}

abbrev pub operation_code : Operation → ℕ
operation_code Sub = 0
operation_code Subc = 1
operation_code Add = 2
operation_code Addc = 3
operation_code Mov = 4
operation_code And = 5
operation_code Or = 6
operation_code Xor = 7
operation_code Cmp = 8
operation_code Test = 9

abbrev pub rotation_code : Rotation → ℕ
rotation_code Ror = 0
rotation_code Rol = 1
rotation_code Rorc = 2
rotation_code Rolc = 3

abbrev pub flag_code : FlagChange → ℕ
flag_code Clrc = 0
flag_code Setc = 1
flag_code Clrz = 2
flag_code Setz = 3
flag_code Clri = 4
flag_code Seti = 5

abbrev pub transfer_code : Transfer → ℕ
transfer_code Export = 0
transfer_code Import = 1
transfer_code Store = 4
transfer_code Load = 5

abbrev pub condition_code : Condition → ℕ
condition_code Zero = 0
condition_code NotZero = 1
condition_code Carry = 2
condition_code NotCarry = 3
