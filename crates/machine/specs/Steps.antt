-- One step of the machine: an interrupt entry, or the word at pc. Assumes nothing.
--
--   Outcome     where a step led, in how many cycles and with which export, or why it stopped
--   execute     what an instruction does
--   step        what one tick does
--   Steps       a call does that; where it stops it leaves all as it was
use Rattle.std.specs.Prelude.{◌≡◌, ℕ, ◌+◌, ◌*◌, Bool, cond, List, length, Some, None, Ok, Err, Option, Result, nat_lt, slice_index}
use Rattle.refusals.specs.declared.Refusal.{Refusal}
use Rattle.refusals.specs.declared.Refusal.TheVariants.{PcOutside, UndefinedWord, MissingPage, ExportsFull}
use Rattle.words.specs.declared.codes.Transfer.{Transfer}
use Rattle.words.specs.declared.codes.Transfer.TheVariants.{Export, Import, Store, Load}
use Rattle.words.specs.declared.instruction.Instruction.{Instruction}
use Rattle.words.specs.declared.instruction.Instruction.TheVariants.{Register, Immediate, Rotate, Flag, Direct, Indirect, BranchIf, CallIf, Call, Return, ReturnFromInterrupt, Branch}
use Rattle.words.specs.Decoding.{instruction_of}
use Rattle.memories.specs.Meaning.{Meaning, poked}
use Rattle.machine.specs.declared.step.Stepped.{Stepped}
use Rattle.machine.specs.Arithmetic.{operated, settled, rotated, flagged}
use Rattle.machine.specs.Cores.{Core, register, page_of, with_register, at}
use Rattle.machine.specs.Moves.{Moved, after, holds, passed, jumped, called, returned, interrupt_returned, interrupts, entered}
use Rattle.machine.specs.Ticks.{port_byte}

pub data Outcome : Type 0 where
  stopped : Refusal → Outcome
  went : Core → Meaning → ℕ → Option ℕ → Outcome

-- port and memory words take three cycles, all others and an interrupt entry two
abbrev pub plain_cycles : ℕ
plain_cycles = 2

abbrev pub transfer_cycles : ℕ
transfer_cycles = 3

-- the memory, the cycles and the export that go with a move
abbrev pub moving : Moved → Meaning → ℕ → Option ℕ → Outcome
moving (Ok core) memory cycles export = went core memory cycles export
moving (Err refusal) memory cycles export = stopped refusal

-- on to the next word; where the image has none, nothing is done
abbrev pub onward : ℕ → Core → (ℕ → Outcome) → Outcome
onward words core go = elim (after words core) [ Ok next ↦ go next | Err refusal ↦ stopped refusal ]

-- where this does not hold, stop with that refusal
abbrev pub only : Bool → Refusal → Outcome → Outcome
only holds refusal outcome = cond holds outcome (stopped refusal)

abbrev pub export_of : ℕ → ℕ → ℕ → ℕ
export_of page offset byte = (page * 256 + offset) * 256 + byte

-- between Rd and a port or cell of the page; `room` says whether the export list has room
abbrev pub transferred : Transfer → ℕ → Bool → ℕ → ℕ → ℕ → Core → Meaning → Outcome
transferred Export words room tick rd offset core memory =
    onward words core (λ next. only room (ExportsFull core.pc) (went (at next core) memory transfer_cycles (Some (export_of (page_of core) offset (register core rd)))))
transferred Import words room tick rd offset core memory =
    onward words core (λ next. went (at next (with_register rd (port_byte tick) core)) memory transfer_cycles None)
transferred Store words room tick rd offset core memory =
    onward words core (λ next. only (nat_lt (page_of core) memory.pages) (MissingPage core.pc) (went (at next core) (poked memory (page_of core) offset (register core rd)) transfer_cycles None))
transferred Load words room tick rd offset core memory =
    onward words core (λ next. only (nat_lt (page_of core) memory.pages) (MissingPage core.pc) (went (at next (with_register rd (memory.byte (page_of core) offset) core)) memory transfer_cycles None))

abbrev pub execute : Instruction → ℕ → Bool → ℕ → Core → Meaning → Outcome
execute (Register operation rd rb) words room tick core memory = onward words core (λ next. went (at next (operated operation rd (register core rb) core)) memory plain_cycles None)
execute (Immediate operation rd constant) words room tick core memory = onward words core (λ next. went (at next (operated operation rd constant core)) memory plain_cycles None)
execute (Rotate rotation rd rb) words room tick core memory = onward words core (λ next. went (at next (settled rd (rotated rotation core.carry (register core rb)) core)) memory plain_cycles None)
execute (Flag change) words room tick core memory = onward words core (λ next. went (at next (flagged change core)) memory plain_cycles None)
execute (Direct transfer rd number) words room tick core memory = transferred transfer words room tick rd number core memory
execute (Indirect transfer rd rb) words room tick core memory = transferred transfer words room tick rd (register core rb) core memory
execute (BranchIf condition offset) words room tick core memory = moving (cond (holds condition core) (jumped words offset core) (passed words core)) memory plain_cycles None
execute (CallIf condition offset) words room tick core memory = moving (cond (holds condition core) (called words offset core) (passed words core)) memory plain_cycles None
execute (Call offset) words room tick core memory = moving (called words offset core) memory plain_cycles None
execute Return words room tick core memory = moving (returned words core) memory plain_cycles None
execute ReturnFromInterrupt words room tick core memory = moving (interrupt_returned words core) memory plain_cycles None
execute (Branch offset) words room tick core memory = moving (jumped words offset core) memory plain_cycles None

-- neither a port nor the memory is reached
abbrev pub Plain : Instruction → Type 0
Plain (Register operation rd rb) = Unit {0}
Plain (Immediate operation rd constant) = Unit {0}
Plain (Rotate rotation rd rb) = Unit {0}
Plain (Flag change) = Unit {0}
Plain (Direct transfer rd number) = ⊥
Plain (Indirect transfer rd rb) = ⊥
Plain (BranchIf condition offset) = Unit {0}
Plain (CallIf condition offset) = Unit {0}
Plain (Call offset) = Unit {0}
Plain Return = Unit {0}
Plain ReturnFromInterrupt = Unit {0}
Plain (Branch offset) = Unit {0}

-- the word at pc, if it is an instruction
abbrev pub execute_at : Option Instruction → ℕ → Bool → ℕ → Core → Meaning → Outcome
execute_at None words room tick core memory = stopped (UndefinedWord core.pc)
execute_at (Some instruction) words room tick core memory = execute instruction words room tick core memory

abbrev pub step : List ℕ → Bool → ℕ → Core → Meaning → Outcome
step image room tick core memory =
    only (nat_lt core.pc (length image)) (PcOutside core.pc)
    (cond (interrupts tick core) (moving (entered core) memory plain_cycles None) (execute_at (instruction_of (slice_index image core.pc)) (length image) room tick core memory))

abbrev pub Steps : Outcome → Core → Meaning → Result Stepped Refusal → Core → Meaning → Type 0
Steps outcome core memory (Ok stepped) core' memory' = outcome ≡ went core' memory' stepped.cycles stepped.export
Steps outcome core memory (Err refusal) core' memory' = (outcome ≡ stopped refusal) × (core' ≡ core) × (memory' ≡ memory)
