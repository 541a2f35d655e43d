-- What the machine never does on an image with a ledger, its stack kept to a limit however far a run goes. Assumes nothing.
--
--   SafeWithin        a safe state, its stack within the limit, now and in every run from here
--   SafeImageWithin   with a memory that has the owned pages, every state that can be reached is safe within the limit, and so
--                     is what any list of calls leaves
--   SafetyWithin      every image with a ledger is a safe one, its limit the depth of the ledger
use Rattle.std.specs.Prelude.{◌≡◌, ℕ, ◌≤◌, Bool, false, List, [], length, Some}
use Rattle.std.specs.List.{AllByRecursion}
use Rattle.refusals.specs.declared.Refusal.{Refusal}
use Rattle.refusals.specs.declared.Refusal.TheVariants.{ExportsFull}
use Rattle.memories.specs.Meaning.{Meaning}
use Rattle.machine.specs.Calls.{Call, Poke, Fits, Reached, performs, last_poked}
use Rattle.machine.specs.Cores.{Core}
use Rattle.machine.specs.Runs.{ran}
use Rattle.machine.specs.Steps.{stopped, step}
use Rattle.ledger.specs.declared.owned.OwnedPages.{OwnedPages}
use Rattle.ledger.specs.declared.row.Row.{Row}
use Rattle.ledger.specs.Ledgers.{Ledger}
use Rattle.ledger.specs.Needs.{depth}
use Rattle.ledger.specs.Pokes.{pokes_of}
use Rattle.ledger.specs.Safety.{Provides, Foreign, Courses, start}

pub record SafeWithin (image : List ℕ) (owned : OwnedPages) (limit : ℕ) (memory₀ : Meaning) (pokes : List Poke) (core : Core) (memory : Meaning) : Type 0 where
  -- a step stops only where an export finds no room
  pub steps : (room : Bool) (tick : ℕ) (refusal : Refusal)
      → step image room tick core memory ≡ stopped refusal
      → (room ≡ false) × (refusal ≡ ExportsFull core.pc)
  -- so does a run, whatever its ticks
  pub runs : (room : ℕ) (ticks : List ℕ) (refusal : Refusal)
      → (ran image room ticks core memory).stop ≡ Some refusal
      → refusal ≡ ExportsFull (ran image room ticks core memory).core.pc
  -- the stack keeps to the limit, now and however far a run goes from here
  pub shallow : length core.stack ≤ limit
  pub shallows : (room : ℕ) (ticks : List ℕ) → length (ran image room ticks core memory).core.stack ≤ limit
  -- a cell outside the owned pages holds what was last poked there, or its first byte
  pub untouched : (page offset : ℕ)
      → Foreign owned page
      → memory.byte page offset ≡ last_poked pokes page offset (memory₀.byte page offset)

abbrev pub ReachedSafeWithin : List ℕ → OwnedPages → ℕ → Meaning → Type 0
ReachedSafeWithin image owned limit memory₀ =
    (pokes : List Poke) (core : Core) (memory : Meaning) → Reached image memory₀ pokes core memory → SafeWithin image owned limit memory₀ pokes core memory

abbrev pub PerformedSafeWithin : List ℕ → OwnedPages → ℕ → Meaning → Type 0
PerformedSafeWithin image owned limit memory₀ =
    (calls : List Call) → AllByRecursion Fits calls → SafeWithin image owned limit memory₀ (pokes_of image calls (start memory₀) []) (performs image calls (start memory₀)).core (performs image calls (start memory₀)).memory

pub record SafeImageWithin (image : List ℕ) (owned : OwnedPages) (limit : ℕ) : Type 0 where
  -- every state that steps, resets and pokes can reach
  pub reached : (memory₀ : Meaning) → Provides owned memory₀ → ReachedSafeWithin image owned limit memory₀
  -- every state that a list of calls leaves, runs among them
  pub performed : (memory₀ : Meaning) → Provides owned memory₀ → PerformedSafeWithin image owned limit memory₀

pub record SafetyWithin : Type 0 where
  pub images : (image : List ℕ) (owned : OwnedPages) (rows : List Row)
      → 2 ≤ length image
      → length image ≤ 4096
      → Ledger image owned rows
      → SafeImageWithin image owned (depth image rows)
  -- lists of calls lead nowhere else than steps, resets and pokes do, with a ledger or without
  pub courses : (image : List ℕ) (memory₀ : Meaning) → Courses image memory₀
