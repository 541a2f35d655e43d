-- Which instructions have a word, and the word that each writes. Assumes nothing.
use Rattle.std.specs.Prelude.{ℕ, ◌+◌, ◌*◌, ◌^◌, ◌<◌}
use Rattle.words.specs.declared.instruction.Instruction.{Instruction}
use Rattle.words.specs.declared.instruction.Instruction.TheVariants.{Register, Immediate, Rotate, Flag, Direct, Indirect, BranchIf, CallIf, Call, Return, ReturnFromInterrupt, Branch}
use Rattle.words.specs.Bits.{InOffsetRange, offset_field}
use Rattle.words.specs.Codes.{operation_code, rotation_code, flag_code, transfer_code, condition_code}

-- every field fits its bits
abbrev pub Valid : Instruction → Type 0
Valid (Register operation rd rb) = (rd < 32) × (rb < 32)
Valid (Immediate operation rd constant) = (rd < 32) × (constant < 256)
Valid (Rotate rotation rd rb) = (rd < 32) × (rb < 32)
Valid (Flag change) = Unit {0}
Valid (Direct transfer rd number) = (rd < 32) × (number < 32)
Valid (Indirect transfer rd rb) = (rd < 32) × (rb < 32)
Valid (BranchIf condition offset) = InOffsetRange offset
Valid (CallIf condition offset) = InOffsetRange offset
Valid (Call offset) = InOffsetRange offset
Valid Return = Unit {0}
Valid ReturnFromInterrupt = Unit {0}
Valid (Branch offset) = InOffsetRange offset

abbrev pub word_of : Instruction → ℕ
word_of (Register operation rd rb) = operation_code operation * 2 ^ 14 + rd * 2 ^ 8 + rb * 2 ^ 3
word_of (Immediate operation rd constant) = operation_code operation * 2 ^ 14 + 2 ^ 13 + rd * 2 ^ 8 + constant
word_of (Rotate rotation rd rb) = 0b10100 * 2 ^ 13 + rd * 2 ^ 8 + rb * 2 ^ 3 + rotation_code rotation
word_of (Flag change) = 0b10110 * 2 ^ 13 + flag_code change
word_of (Direct transfer rd number) = 0b10111 * 2 ^ 13 + rd * 2 ^ 8 + number * 2 ^ 3 + transfer_code transfer
word_of (Indirect transfer rd rb) = 0b10111 * 2 ^ 13 + rd * 2 ^ 8 + rb * 2 ^ 3 + 2 + transfer_code transfer
word_of (BranchIf condition offset) = 0b110 * 2 ^ 15 + condition_code condition * 2 ^ 12 + offset_field offset
word_of (CallIf condition offset) = 0b110 * 2 ^ 15 + 2 ^ 14 + condition_code condition * 2 ^ 12 + offset_field offset
word_of (Call offset) = 0b111 * 2 ^ 15 + offset_field offset
word_of Return = 0b111 * 2 ^ 15 + 1 * 2 ^ 12
word_of ReturnFromInterrupt = 0b111 * 2 ^ 15 + 2 * 2 ^ 12
word_of (Branch offset) = 0b111 * 2 ^ 15 + 3 * 2 ^ 12 + offset_field offset
