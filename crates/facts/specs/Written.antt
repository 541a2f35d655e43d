-- The register that an instruction writes: the one into which its result goes. Assumes nothing.
use Rattle.std.specs.Prelude.{ℕ, Some, None, Option}
use Rattle.words.specs.declared.codes.Operation.{Operation}
use Rattle.words.specs.declared.codes.Operation.TheVariants.{Sub, Subc, Add, Addc, Mov, And, Or, Xor, Cmp, Test}
use Rattle.words.specs.declared.codes.Transfer.{Transfer}
use Rattle.words.specs.declared.codes.Transfer.TheVariants.{Export, Import, Store, Load}
use Rattle.words.specs.declared.instruction.Instruction.{Instruction}
use Rattle.words.specs.declared.instruction.Instruction.TheVariants.{Register, Immediate, Rotate, Flag, Direct, Indirect, BranchIf, CallIf, Call, Return, ReturnFromInterrupt, Branch}

-- a comparison has no result but the flags
abbrev pub result : Operation → ℕ → Option ℕ
result Sub rd = Some rd
result Subc rd = Some rd
result Add rd = Some rd
result Addc rd = Some rd
result Mov rd = Some rd
result And rd = Some rd
result Or rd = Some rd
result Xor rd = Some rd
result Cmp rd = None
result Test rd = None

-- what leaves the register does not write it
abbrev pub received : Transfer → ℕ → Option ℕ
received Export rd = None
received Import rd = Some rd
received Store rd = None
received Load rd = Some rd

abbrev pub written : Instruction → Option ℕ
written (Register operation rd rb) = result operation rd
written (Immediate operation rd constant) = result operation rd
written (Rotate rotation rd rb) = Some rd
written (Flag change) = None
written (Direct transfer rd number) = received transfer rd
written (Indirect transfer rd rb) = received transfer rd
written (BranchIf condition offset) = None
written (CallIf condition offset) = None
written (Call offset) = None
written Return = None
written ReturnFromInterrupt = None
written (Branch offset) = None
