-- The text of an instruction: the mnemonic and operands of the maker's guide. Assumes nothing.
use Rattle.std.specs.Prelude.{ℕ, cond, List, ◌++◌, codes, decimal, nat_lt}
use Rattle.std.specs.Fmt.{signed_decimal}
use Rattle.words.specs.declared.codes.Condition.{Condition}
use Rattle.words.specs.declared.codes.Condition.TheVariants.{Zero, NotZero, Carry, NotCarry}
use Rattle.words.specs.declared.codes.FlagChange.{FlagChange}
use Rattle.words.specs.declared.codes.FlagChange.TheVariants.{Clrc, Setc, Clrz, Setz, Clri, Seti}
use Rattle.words.specs.declared.codes.Operation.{Operation}
use Rattle.words.specs.declared.codes.Operation.TheVariants.{Sub, Subc, Add, Addc, Mov, And, Or, Xor, Cmp, Test}
use Rattle.words.specs.declared.codes.Rotation.{Rotation}
use Rattle.words.specs.declared.codes.Rotation.TheVariants.{Ror, Rol, Rorc, Rolc}
use Rattle.words.specs.declared.codes.Transfer.{Transfer}
use Rattle.words.specs.declared.codes.Transfer.TheVariants.{Export, Import, Store, Load}
use Rattle.words.specs.declared.instruction.Instruction.{Instruction}
use Rattle.words.specs.declared.instruction.Instruction.TheVariants.{Register, Immediate, Rotate, Flag, Direct, Indirect, BranchIf, CallIf, Call, Return, ReturnFromInterrupt, Branch}
use Rattle.words.specs.Hex.{hex_two}

abbrev pub register_mnemonic : Operation → List ℕ
register_mnemonic Sub = codes "sub"
register_mnemonic Subc = codes "subc"
register_mnemonic Add = codes "add"
register_mnemonic Addc = codes "addc"
register_mnemonic Mov = codes "mov"
register_mnemonic And = codes "and"
register_mnemonic Or = codes "or"
register_mnemonic Xor = codes "xor"
register_mnemonic Cmp = codes "cmp"
register_mnemonic Test = codes "test"

abbrev pub immediate_mnemonic : Operation → List ℕ
immediate_mnemonic Sub = codes "subi"
immediate_mnemonic Subc = codes "subic"
immediate_mnemonic Add = codes "addi"
immediate_mnemonic Addc = codes "addic"
immediate_mnemonic Mov = codes "movi"
immediate_mnemonic And = codes "andi"
immediate_mnemonic Or = codes "ori"
immediate_mnemonic Xor = codes "xori"
immediate_mnemonic Cmp = codes "cmpi"
immediate_mnemonic Test = codes "testi"

abbrev pub rotation_mnemonic : Rotation → List ℕ
rotation_mnemonic Ror = codes "ror"
rotation_mnemonic Rol = codes "rol"
rotation_mnemonic Rorc = codes "rorc"
rotation_mnemonic Rolc = codes "rolc"

abbrev pub flag_mnemonic : FlagChange → List ℕ
flag_mnemonic Clrc = codes "clrc"
flag_mnemonic Setc = codes "setc"
flag_mnemonic Clrz = codes "clrz"
flag_mnemonic Setz = codes "setz"
flag_mnemonic Clri = codes "clri"
flag_mnemonic Seti = codes "seti"

-- the indirect form adds an `i`
abbrev pub transfer_mnemonic : Transfer → List ℕ
transfer_mnemonic Export = codes "export"
transfer_mnemonic Import = codes "import"
transfer_mnemonic Store = codes "ssp"
transfer_mnemonic Load = codes "lsp"

-- what follows the `b` or the `call` of a conditional word
abbrev pub condition_suffix : Condition → List ℕ
condition_suffix Zero = codes "z"
condition_suffix NotZero = codes "nz"
condition_suffix Carry = codes "c"
condition_suffix NotCarry = codes "nc"

-- `R` and the number in at least two digits
abbrev pub register_name : ℕ → List ℕ
register_name n = cond (nat_lt n 10) (codes "R0" ++ decimal n) (codes "R" ++ decimal n)

abbrev pub two_operands : List ℕ → List ℕ → List ℕ → List ℕ
two_operands mnemonic first second = mnemonic ++ (codes " " ++ (first ++ (codes "," ++ second)))

abbrev pub text : Instruction → List ℕ
text (Register operation rd rb) = two_operands (register_mnemonic operation) (register_name rd) (register_name rb)
text (Immediate operation rd constant) = two_operands (immediate_mnemonic operation) (register_name rd) (codes "0x" ++ hex_two constant)
text (Rotate rotation rd rb) = two_operands (rotation_mnemonic rotation) (register_name rd) (register_name rb)
text (Flag change) = flag_mnemonic change
text (Direct transfer rd number) = two_operands (transfer_mnemonic transfer) (register_name rd) (codes "0x" ++ hex_two number)
text (Indirect transfer rd rb) = transfer_mnemonic transfer ++ (two_operands (codes "i") (register_name rd) (register_name rb))
text (BranchIf condition offset) = codes "b" ++ (condition_suffix condition ++ (codes " " ++ signed_decimal offset))
text (CallIf condition offset) = codes "call" ++ (condition_suffix condition ++ (codes " " ++ signed_decimal offset))
text (Call offset) = codes "call " ++ signed_decimal offset
text Return = codes "ret"
text ReturnFromInterrupt = codes "iret"
text (Branch offset) = codes "b " ++ signed_decimal offset
