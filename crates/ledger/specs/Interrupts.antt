-- Which images can be interrupted, and where the handler's marks start. Assumes nothing.
use Rattle.std.specs.Prelude.{ℕ, Bool, true, false, cond, ◌||◌, List, [], ◌∷◌, Some, None, Option}
use Rattle.words.specs.declared.codes.FlagChange.{FlagChange}
use Rattle.words.specs.declared.codes.FlagChange.TheVariants.{Clrc, Setc, Clrz, Setz, Clri, Seti}
use Rattle.words.specs.declared.instruction.Instruction.{Instruction}
use Rattle.words.specs.declared.instruction.Instruction.TheVariants.{Register, Immediate, Rotate, Flag, Direct, Indirect, BranchIf, CallIf, Call, Return, ReturnFromInterrupt, Branch}
use Rattle.words.specs.Decoding.{instruction_of}
use Rattle.facts.specs.declared.marks.FrameMarks.{FrameMarks}
use Rattle.facts.specs.Marks.{unmarked}

abbrev pub is_seti : FlagChange → Bool
is_seti Clrc = false
is_seti Setc = false
is_seti Clrz = false
is_seti Setz = false
is_seti Clri = false
is_seti Seti = true

abbrev pub enables : Instruction → Bool
enables (Register operation rd rb) = false
enables (Immediate operation rd constant) = false
enables (Rotate rotation rd rb) = false
enables (Flag change) = is_seti change
enables (Direct transfer rd number) = false
enables (Indirect transfer rd rb) = false
enables (BranchIf condition offset) = false
enables (CallIf condition offset) = false
enables (Call offset) = false
enables Return = false
enables ReturnFromInterrupt = false
enables (Branch offset) = false

abbrev pub word_enables : Option Instruction → Bool
word_enables None = false
word_enables (Some instruction) = enables instruction

-- some word enables interrupts, whether it is reached or not
abbrev pub interruptible : List ℕ → Bool
interruptible [] = false
interruptible (word ∷ image) = word_enables (instruction_of word) || interruptible image

abbrev pub outermost : FrameMarks
outermost = record { outer = true; routine = false }

-- what is marked at address 0: nothing where no interrupt can come
abbrev pub handler_start : List ℕ → FrameMarks
handler_start image = cond (interruptible image) outermost unmarked
