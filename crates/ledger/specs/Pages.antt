-- Which instructions reach the memory, and which page spans lie inside the owned pages. Assumes nothing.
use Rattle.std.specs.Prelude.{◌+◌, ◌*◌, Bool, true, false, ◌&&◌, Option, Some, None, nat_le}
use Rattle.words.specs.declared.codes.Transfer.{Transfer}
use Rattle.words.specs.declared.codes.Transfer.TheVariants.{Export, Import, Store, Load}
use Rattle.words.specs.declared.instruction.Instruction.{Instruction}
use Rattle.words.specs.declared.instruction.Instruction.TheVariants.{Register, Immediate, Rotate, Flag, Direct, Indirect, BranchIf, CallIf, Call, Return, ReturnFromInterrupt, Branch}
use Rattle.facts.specs.declared.spans.PageSpans.{PageSpans}
use Rattle.ledger.specs.declared.owned.OwnedPages.{OwnedPages}

-- from or to a cell, not a port
abbrev pub reaches_cell : Transfer → Bool
reaches_cell Export = false
reaches_cell Import = false
reaches_cell Store = true
reaches_cell Load = true

abbrev pub reaches_memory : Instruction → Bool
reaches_memory (Register operation rd rb) = false
reaches_memory (Immediate operation rd constant) = false
reaches_memory (Rotate rotation rd rb) = false
reaches_memory (Flag change) = false
reaches_memory (Direct transfer rd number) = reaches_cell transfer
reaches_memory (Indirect transfer rd rb) = reaches_cell transfer
reaches_memory (BranchIf condition offset) = false
reaches_memory (CallIf condition offset) = false
reaches_memory (Call offset) = false
reaches_memory Return = false
reaches_memory ReturnFromInterrupt = false
reaches_memory (Branch offset) = false

-- every page that the registers can name, from the lowest to the highest, is owned
abbrev pub inside_owned : OwnedPages → Option PageSpans → Bool
inside_owned owned None = true
inside_owned owned (Some spans) =
    nat_le owned.first (256 * spans.r15.low + spans.r14.low) && nat_le (256 * spans.r15.high + spans.r14.high) owned.last
