-- What holds of every outcome of a step, shown through the parts that a step is made of. Assumes nothing.
use Rattle.std.proofs.Common.{◌≡◌, ℕ, ◌≤◌, Bool, true, false, cond, ltb, List, length, get_or, Some, None, Ok, Err, Option, Result, refl, arith}
use Rattle.refusals.specs.declared.Refusal.{Refusal}
use Rattle.words.specs.declared.codes.Transfer.{Transfer}
use Rattle.words.specs.declared.codes.Transfer.TheVariants.{Export, Import, Store, Load}
use Rattle.words.specs.declared.instruction.Instruction.{Instruction}
use Rattle.words.specs.declared.instruction.Instruction.TheVariants.{Register, Immediate, Rotate, Flag, Direct, Indirect, BranchIf, CallIf, Call, Return, ReturnFromInterrupt, Branch}
use Rattle.words.specs.Decoding.{instruction_of}
use Rattle.memories.specs.Meaning.{Meaning}
use Rattle.machine.specs.Cores.{Core, page_of}
use Rattle.machine.specs.Moves.{Moved, after, interrupts, entered}
use Rattle.machine.specs.Steps.{Outcome, stopped, went, moving, onward, only, transferred, execute, execute_at, step}

abbrev pub Every : (Core → Meaning → ℕ → Option ℕ → Type 0) → Outcome → Type 0
Every P (stopped refusal) = Unit {0}
Every P (went core memory cycles export) = P core memory cycles export

module _ (P : Core → Meaning → ℕ → Option ℕ → Type 0) where
  pub every_only : (holds : Bool) (refusal : Refusal) (outcome : Outcome) → (holds ≡ true → Every P outcome) → Every P (only holds refusal outcome)
  every_only true refusal outcome h = h refl
  every_only false refusal outcome h = tt

  pub every_moving : (moved : Moved) (memory : Meaning) (cycles : ℕ) (export : Option ℕ) → ((core : Core) → moved ≡ Ok core → P core memory cycles export) → Every P (moving moved memory cycles export)
  every_moving (Ok core) memory cycles export h = h core refl
  every_moving (Err refusal) memory cycles export h = tt

  every_next : (next : Result ℕ Refusal) (go : ℕ → Outcome) → ((a : ℕ) → next ≡ Ok a → Every P (go a)) → Every P (elim next [ Ok a ↦ go a | Err refusal ↦ stopped refusal ])
  every_next (Ok a) go h = h a refl
  every_next (Err refusal) go h = tt

  pub every_onward : (words : ℕ) (core : Core) (go : ℕ → Outcome) → ((a : ℕ) → after words core ≡ Ok a → Every P (go a)) → Every P (onward words core go)
  every_onward words core go h = every_next (after words core) go h

  pub every_choice : (b : Bool) (x y : Outcome) → (b ≡ true → Every P x) → (b ≡ false → Every P y) → Every P (cond b x y)
  every_choice true x y h k = h refl
  every_choice false x y h k = k refl

-- two or three cycles, and an export only where there is room
pub record Usual (room : Bool) (core : Core) (memory : Meaning) (cycles : ℕ) (export : Option ℕ) : Type 0 where
  pub least : 2 ≤ cycles
  pub most : cycles ≤ 3
  pub quiet : room ≡ false → export ≡ None

plain_usual : (room : Bool) (core : Core) (memory : Meaning) → Usual room core memory 2 None
plain_usual room core memory = record { least = omega arith; most = omega arith; quiet = λ e. refl }

silent_usual : (room : Bool) (core : Core) (memory : Meaning) → Usual room core memory 3 None
silent_usual room core memory = record { least = omega arith; most = omega arith; quiet = λ e. refl }

loud_usual : (core : Core) (memory : Meaning) (export : ℕ) → Usual true core memory 3 (Some export)
loud_usual core memory export = record { least = omega arith; most = omega arith; quiet = λ e. let z : ◌≡◌ {A = ℕ} 0 1 = cc in absurd (omega arith) }

loud_only : (room : Bool) (refusal : Refusal) (core : Core) (memory : Meaning) (export : ℕ) → Every (Usual room) (only room refusal (went core memory 3 (Some export)))
loud_only true refusal core memory export = loud_usual core memory export
loud_only false refusal core memory export = tt

module _ (words : ℕ) (room : Bool) (tick : ℕ) (core : Core) (memory : Meaning) where
  transfer_usual : (transfer : Transfer) (rd offset : ℕ) → Every (Usual room) (transferred transfer words room tick rd offset core memory)
  transfer_usual Export rd offset = every_onward (Usual room) words core _ (λ a e. loud_only room _ _ memory _)
  transfer_usual Import rd offset = every_onward (Usual room) words core _ (λ a e. silent_usual room _ _)
  transfer_usual Store rd offset = every_onward (Usual room) words core _ (λ a e. every_only (Usual room) (ltb (page_of core) memory.pages) _ _ (λ h. silent_usual room _ _))
  transfer_usual Load rd offset = every_onward (Usual room) words core _ (λ a e. every_only (Usual room) (ltb (page_of core) memory.pages) _ _ (λ h. silent_usual room _ _))

  execute_usual : (instruction : Instruction) → Every (Usual room) (execute instruction words room tick core memory)
  execute_usual (Register operation rd rb) = every_onward (Usual room) words core _ (λ a e. plain_usual room _ _)
  execute_usual (Immediate operation rd constant) = every_onward (Usual room) words core _ (λ a e. plain_usual room _ _)
  execute_usual (Rotate rotation rd rb) = every_onward (Usual room) words core _ (λ a e. plain_usual room _ _)
  execute_usual (Flag change) = every_onward (Usual room) words core _ (λ a e. plain_usual room _ _)
  execute_usual (Direct transfer rd number) = transfer_usual transfer rd number
  execute_usual (Indirect transfer rd rb) = transfer_usual transfer rd _
  execute_usual (BranchIf condition offset) = every_moving (Usual room) _ memory 2 None (λ c e. plain_usual room c memory)
  execute_usual (CallIf condition offset) = every_moving (Usual room) _ memory 2 None (λ c e. plain_usual room c memory)
  execute_usual (Call offset) = every_moving (Usual room) _ memory 2 None (λ c e. plain_usual room c memory)
  execute_usual Return = every_moving (Usual room) _ memory 2 None (λ c e. plain_usual room c memory)
  execute_usual ReturnFromInterrupt = every_moving (Usual room) _ memory 2 None (λ c e. plain_usual room c memory)
  execute_usual (Branch offset) = every_moving (Usual room) _ memory 2 None (λ c e. plain_usual room c memory)

  execute_at_usual : (found : Option Instruction) → Every (Usual room) (execute_at found words room tick core memory)
  execute_at_usual None = tt
  execute_at_usual (Some instruction) = execute_usual instruction

pub step_usual : (image : List ℕ) (room : Bool) (tick : ℕ) (core : Core) (memory : Meaning) → Every (Usual room) (step image room tick core memory)
step_usual image room tick core memory =
    every_only (Usual room) (ltb core.pc (length image)) _ _ (λ inside. every_choice (Usual room) (interrupts tick core) _ _
    (λ e. every_moving (Usual room) (entered core) memory 2 None (λ c h. plain_usual room c memory))
    (λ e. execute_at_usual (length image) room tick core memory (instruction_of (get_or image core.pc 0))))
