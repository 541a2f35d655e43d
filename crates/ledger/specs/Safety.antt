-- What the machine never does on an image with a ledger, whatever the ticks, the ports and the caller do. Assumes nothing.
--
--   Provides    a memory has all the owned pages
--   Safe        a state from which no step and no run faults, within the depth, and with its foreign cells untouched
--   SafeImage   with such a memory, every state that can be reached is safe, and so is what any list of calls leaves
--   Safety      every image with a ledger is a safe one
--
-- Where the memory lacks an owned page, nothing is promised. A step refused for its tick is no fault.
use Rattle.std.specs.Prelude.{◌≡◌, ℕ, ◌<◌, ◌≤◌, Bool, false, ◌⊎◌, List, [], length, Some}
use Rattle.std.specs.List.{AllByRecursion}
use Rattle.refusals.specs.declared.Refusal.{Refusal}
use Rattle.refusals.specs.declared.Refusal.TheVariants.{ExportsFull}
use Rattle.memories.specs.Meaning.{Meaning, Sound}
use Rattle.machine.specs.Calls.{Call, State, Poke, Fits, Reached, performs, last_poked}
use Rattle.machine.specs.Cores.{Core, fresh}
use Rattle.machine.specs.Runs.{ran}
use Rattle.machine.specs.Steps.{stopped, step}
use Rattle.ledger.specs.declared.owned.OwnedPages.{OwnedPages}
use Rattle.ledger.specs.declared.row.Row.{Row}
use Rattle.ledger.specs.Ledgers.{Ledger}
use Rattle.ledger.specs.Needs.{depth}
use Rattle.ledger.specs.Pokes.{pokes_of}

pub record Provides (owned : OwnedPages) (memory : Meaning) : Type 0 where
  pub sound : Sound memory
  pub pages : owned.last < memory.pages

abbrev pub Foreign : OwnedPages → ℕ → Type 0
Foreign owned page = (page < owned.first) ⊎ (owned.last < page)

pub record Safe (image : List ℕ) (owned : OwnedPages) (rows : List Row) (memory₀ : Meaning) (pokes : List Poke) (core : Core) (memory : Meaning) : Type 0 where
  -- a step stops only where an export finds no room
  pub steps : (room : Bool) (tick : ℕ) (refusal : Refusal)
      → step image room tick core memory ≡ stopped refusal
      → (room ≡ false) × (refusal ≡ ExportsFull core.pc)
  -- so does a run, whatever its ticks
  pub runs : (room : ℕ) (ticks : List ℕ) (refusal : Refusal)
      → (ran image room ticks core memory).stop ≡ Some refusal
      → refusal ≡ ExportsFull (ran image room ticks core memory).core.pc
  -- the stack keeps to the ledger's depth
  pub shallow : length core.stack ≤ depth image rows
  -- a cell outside the owned pages holds what was last poked there, or its first byte
  pub untouched : (page offset : ℕ)
      → Foreign owned page
      → memory.byte page offset ≡ last_poked pokes page offset (memory₀.byte page offset)

-- a newly reset board with a memory
abbrev pub start : Meaning → State
start memory₀ = record { core = fresh; memory = memory₀ }

abbrev pub ReachedSafe : List ℕ → OwnedPages → List Row → Meaning → Type 0
ReachedSafe image owned rows memory₀ =
    (pokes : List Poke) (core : Core) (memory : Meaning) → Reached image memory₀ pokes core memory → Safe image owned rows memory₀ pokes core memory

-- what calls whose numbers fit leave of a newly reset board, with the pokes that they make, can be reached
abbrev pub Courses : List ℕ → Meaning → Type 0
Courses image memory₀ =
    (calls : List Call) → AllByRecursion Fits calls → Reached image memory₀ (pokes_of image calls (start memory₀) []) (performs image calls (start memory₀)).core (performs image calls (start memory₀)).memory

abbrev pub PerformedSafe : List ℕ → OwnedPages → List Row → Meaning → Type 0
PerformedSafe image owned rows memory₀ =
    (calls : List Call) → AllByRecursion Fits calls → Safe image owned rows memory₀ (pokes_of image calls (start memory₀) []) (performs image calls (start memory₀)).core (performs image calls (start memory₀)).memory

pub record SafeImage (image : List ℕ) (owned : OwnedPages) (rows : List Row) : Type 0 where
  -- every state that steps, resets and pokes can reach
  pub reached : (memory₀ : Meaning) → Provides owned memory₀ → ReachedSafe image owned rows memory₀
  -- every state that a list of calls leaves, runs among them
  pub performed : (memory₀ : Meaning) → Provides owned memory₀ → PerformedSafe image owned rows memory₀

pub record Safety : Type 0 where
  pub images : (image : List ℕ) (owned : OwnedPages) (rows : List Row)
      → 2 ≤ length image
      → length image ≤ 4096
      → Ledger image owned rows
      → SafeImage image owned rows
  -- lists of calls lead nowhere else than steps, resets and pokes do, with a ledger or without
  pub courses : (image : List ℕ) (memory₀ : Meaning) → Courses image memory₀
