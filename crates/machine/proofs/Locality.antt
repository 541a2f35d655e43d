-- A step changes at most one cell and at most one register. Assumes nothing.
use Rattle.std.proofs.Common.{◌≡◌, ℕ, Bool, true, false, cond, ltb, List, length, get_or, ℤ, Some, None, Ok, Err, Option, Result, refl, inl, inr}
use Rattle.refusals.specs.declared.Refusal.{Refusal}
use Rattle.words.specs.declared.codes.FlagChange.{FlagChange}
use Rattle.words.specs.declared.codes.FlagChange.TheVariants.{Clrc, Setc, Clrz, Setz, Clri, Seti}
use Rattle.words.specs.declared.codes.Operation.{Operation}
use Rattle.words.specs.declared.codes.Operation.TheVariants.{Sub, Subc, Add, Addc, Mov, And, Or, Xor, Cmp, Test}
use Rattle.words.specs.declared.codes.Transfer.{Transfer}
use Rattle.words.specs.declared.codes.Transfer.TheVariants.{Export, Import, Store, Load}
use Rattle.words.specs.declared.instruction.Instruction.{Instruction}
use Rattle.words.specs.declared.instruction.Instruction.TheVariants.{Register, Immediate, Rotate, Flag, Direct, Indirect, BranchIf, CallIf, Call, Return, ReturnFromInterrupt, Branch}
use Rattle.words.specs.Decoding.{instruction_of}
use Rattle.memories.specs.Meaning.{Meaning}
use Rattle.machine.specs.declared.stack.Entry.{Entry}
use Rattle.machine.specs.Arithmetic.{operated, flagged}
use Rattle.machine.specs.Cores.{Core, page_of, at}
use Rattle.machine.specs.Laws.{OneCell, OneRegister}
use Rattle.machine.specs.Moves.{Moved, unless, going, back, after, target, way_back, holds, passed, jumped, called, returned, interrupt_returned, interrupts, entered}
use Rattle.machine.specs.Steps.{moving, transferred, execute, execute_at, step}
use Rattle.machine.proofs.Outcomes.{Every, every_only, every_onward, every_choice}

-- holds of the core that a move leads to
abbrev pub EveryMoved : (Core → Type 0) → Moved → Type 0
EveryMoved P (Ok core) = P core
EveryMoved P (Err refusal) = Unit {0}

module _ (P : Core → Type 0) where
  pub moved_going : (next : Result ℕ Refusal) (go : ℕ → Moved) → ((a : ℕ) → next ≡ Ok a → EveryMoved P (go a)) → EveryMoved P (going next go)
  moved_going (Ok a) go h = h a refl
  moved_going (Err refusal) go h = tt

  pub moved_unless : (holds : Bool) (refusal : Refusal) (moved : Moved) → (holds ≡ true → EveryMoved P moved) → EveryMoved P (unless holds refusal moved)
  moved_unless true refusal moved h = h refl
  moved_unless false refusal moved h = tt

  pub moved_back : (way : Result Entry Refusal) (make : Entry → Core) → ((entry : Entry) → way ≡ Ok entry → P (at entry.address (make entry))) → EveryMoved P (back way make)
  moved_back (Ok entry) make h = h entry refl
  moved_back (Err refusal) make h = tt

  pub moved_choice : (b : Bool) (x y : Moved) → (b ≡ true → EveryMoved P x) → (b ≡ false → EveryMoved P y) → EveryMoved P (cond b x y)
  moved_choice true x y h k = h refl
  moved_choice false x y h k = k refl

operated_one : (operation : Operation) (rd second : ℕ) (core : Core) → OneRegister core (operated operation rd second core)
operated_one Sub rd second core = inr (rd, _, refl)
operated_one Subc rd second core = inr (rd, _, refl)
operated_one Add rd second core = inr (rd, _, refl)
operated_one Addc rd second core = inr (rd, _, refl)
operated_one Mov rd second core = inr (rd, _, refl)
operated_one And rd second core = inr (rd, _, refl)
operated_one Or rd second core = inr (rd, _, refl)
operated_one Xor rd second core = inr (rd, _, refl)
operated_one Cmp rd second core = inl refl
operated_one Test rd second core = inl refl

flagged_none : (change : FlagChange) (core : Core) → (flagged change core).registers ≡ core.registers
flagged_none Clrc core = refl
flagged_none Setc core = refl
flagged_none Clrz core = refl
flagged_none Setz core = refl
flagged_none Clri core = refl
flagged_none Seti core = refl

module _ (core : Core) where
  Same : Core → Type 0
  Same core' = core'.registers ≡ core.registers

  passed_same : (words : ℕ) → EveryMoved Same (passed words core)
  unfolding Same
  passed_same words = moved_going Same (after words core) _ (λ a e. refl)

  jumped_same : (words : ℕ) (offset : ℤ) → EveryMoved Same (jumped words offset core)
  unfolding Same
  jumped_same words offset = moved_going Same (target words offset core) _ (λ a e. refl)

  called_same : (words : ℕ) (offset : ℤ) → EveryMoved Same (called words offset core)
  unfolding Same
  called_same words offset =
      moved_going Same (target words offset core) _ (λ a e. moved_going Same (after words core) _ (λ b f. moved_unless Same (ltb (length core.stack) 16) _ _ (λ h. refl)))

  returned_same : (words : ℕ) → EveryMoved Same (returned words core)
  unfolding Same
  returned_same words = moved_back Same (way_back words core) _ (λ entry e. refl)

  iret_same : (words : ℕ) → EveryMoved Same (interrupt_returned words core)
  unfolding Same
  iret_same words = moved_unless Same core.service _ _ (λ h. moved_back Same (way_back words core) _ (λ entry e. refl))

  entered_same : EveryMoved Same (entered core)
  unfolding Same
  entered_same = moved_unless Same (ltb (length core.stack) 16) _ _ (λ h. refl)

  module _ (memory : Meaning) where
    Local : Core → Meaning → ℕ → Option ℕ → Type 0
    Local core' memory' cycles export = OneCell memory memory' × OneRegister core core'

    moving_local : (moved : Moved) → EveryMoved Same moved → (cycles : ℕ) → Every Local (moving moved memory cycles None)
    unfolding Local Same
    moving_local (Ok core') h cycles = (inl refl, inl h)
    moving_local (Err refusal) h cycles = tt

    transfer_local : (transfer : Transfer) (words : ℕ) (room : Bool) (tick rd offset : ℕ) → Every Local (transferred transfer words room tick rd offset core memory)
    unfolding Local
    transfer_local Export words room tick rd offset = every_onward Local words core _ (λ a e. every_only Local room _ _ (λ h. (inl refl, inl refl)))
    transfer_local Import words room tick rd offset = every_onward Local words core _ (λ a e. (inl refl, inr (rd, _, refl)))
    transfer_local Store words room tick rd offset = every_onward Local words core _ (λ a e. every_only Local (ltb (page_of core) memory.pages) _ _ (λ h. (inr (page_of core, offset, _, refl), inl refl)))
    transfer_local Load words room tick rd offset = every_onward Local words core _ (λ a e. every_only Local (ltb (page_of core) memory.pages) _ _ (λ h. (inl refl, inr (rd, _, refl))))

    execute_local : (instruction : Instruction) (words : ℕ) (room : Bool) (tick : ℕ) → Every Local (execute instruction words room tick core memory)
    unfolding Local
    execute_local (Register operation rd rb) words room tick = every_onward Local words core _ (λ a e. (inl refl, operated_one operation rd _ core))
    execute_local (Immediate operation rd constant) words room tick = every_onward Local words core _ (λ a e. (inl refl, operated_one operation rd constant core))
    execute_local (Rotate rotation rd rb) words room tick = every_onward Local words core _ (λ a e. (inl refl, inr (rd, _, refl)))
    execute_local (Flag change) words room tick = every_onward Local words core _ (λ a e. (inl refl, inl (flagged_none change core)))
    execute_local (Direct transfer rd number) words room tick = transfer_local transfer words room tick rd number
    execute_local (Indirect transfer rd rb) words room tick = transfer_local transfer words room tick rd _
    execute_local (BranchIf condition offset) words room tick = moving_local _ (moved_choice Same (holds condition core) _ _ (λ h. jumped_same words offset) (λ h. passed_same words)) 2
    execute_local (CallIf condition offset) words room tick = moving_local _ (moved_choice Same (holds condition core) _ _ (λ h. called_same words offset) (λ h. passed_same words)) 2
    execute_local (Call offset) words room tick = moving_local _ (called_same words offset) 2
    execute_local Return words room tick = moving_local _ (returned_same words) 2
    execute_local ReturnFromInterrupt words room tick = moving_local _ (iret_same words) 2
    execute_local (Branch offset) words room tick = moving_local _ (jumped_same words offset) 2

    execute_at_local : (found : Option Instruction) (words : ℕ) (room : Bool) (tick : ℕ) → Every Local (execute_at found words room tick core memory)
    execute_at_local None words room tick = tt
    execute_at_local (Some instruction) words room tick = execute_local instruction words room tick

    pub step_local : (image : List ℕ) (room : Bool) (tick : ℕ) → Every (λ core' memory' cycles export. OneCell memory memory' × OneRegister core core') (step image room tick core memory)
    unfolding Local
    step_local image room tick =
        every_only Local (ltb core.pc (length image)) _ _ (λ inside. every_choice Local (interrupts tick core) _ _
        (λ e. moving_local (entered core) entered_same 2)
        (λ e. execute_at_local (instruction_of (get_or image core.pc 0)) (length image) room tick))
