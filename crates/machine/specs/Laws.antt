-- Laws of whole steps and runs. Assumes nothing.
use Rattle.std.specs.Prelude.{◌≡◌, ℕ, ◌-◌, ◌*◌, ◌≤◌, Bool, true, ◌⊎◌, List, ◌++◌, length, Some, None, Option, slice_index, slice_set}
use Rattle.words.specs.declared.instruction.Instruction.TheVariants.{ReturnFromInterrupt}
use Rattle.words.specs.Decoding.{instruction_of}
use Rattle.memories.specs.Meaning.{Meaning, poked}
use Rattle.machine.specs.Cores.{Core}
use Rattle.machine.specs.Moves.{interrupts}
use Rattle.machine.specs.Runs.{ran, later}
use Rattle.machine.specs.Steps.{went, step}

-- no cell changed, or one
abbrev pub OneCell : Meaning → Meaning → Type 0
OneCell before after = (after ≡ before) ⊎ ((page : ℕ) × (offset : ℕ) × (byte : ℕ) × (after ≡ poked before page offset byte))

-- no register changed, or one
abbrev pub OneRegister : Core → Core → Type 0
OneRegister before after =
    (after.registers ≡ before.registers) ⊎ ((number : ℕ) × (value : ℕ) × (after.registers ≡ slice_set before.registers number value))

pub record MachineLaws : Type 0 where
  -- a run over two lists of ticks is the run over both, as long as nothing stopped the first
  pub joins : (image : List ℕ) (room : ℕ) (first second : List ℕ) (core : Core) (memory : Meaning) → (ran image room first core memory).stop ≡ None → ran image room (first ++ second) core memory ≡ later (ran image room first core memory).ticks (ran image room first core memory).cycles (ran image room first core memory).exports (ran image (room - length (ran image room first core memory).exports) second (ran image room first core memory).core (ran image room first core memory).memory)
  -- a step changes at most one cell and at most one register, beside pc, flags and stack
  pub local : (image : List ℕ) (room : Bool) (tick : ℕ) (core core' : Core) (memory memory' : Meaning) (cycles : ℕ) (export : Option ℕ) → step image room tick core memory ≡ went core' memory' cycles export → OneCell memory memory' × OneRegister core core'
  -- an interrupt whose handler only returns gives all back
  pub transparent : (image : List ℕ) (room : Bool) (tick next : ℕ) (core core' : Core) (memory memory' : Meaning) (cycles : ℕ) (export : Option ℕ) → instruction_of (slice_index image 0) ≡ Some ReturnFromInterrupt → interrupts tick core ≡ true → step image room tick core memory ≡ went core' memory' cycles export → step image room next core' memory' ≡ went core memory 2 None
  -- two or three cycles to each tick that was spent
  pub paced : (image : List ℕ) (room : ℕ) (ticks : List ℕ) (core : Core) (memory : Meaning) → (2 * (ran image room ticks core memory).ticks ≤ (ran image room ticks core memory).cycles) × ((ran image room ticks core memory).cycles ≤ 3 * (ran image room ticks core memory).ticks)
