-- What a list of calls does to the board and the memory, and which states can be reached. Assumes nothing.
--
--   Call        a call of the machine or of its memory
--   does        what one call leaves; a refused one leaves all as it was
--   performs    what a list of them leaves, one after another
--   Fits        the page, offset and byte of a call fit their types
--   Reached     the states that steps, resets and pokes reach from a newly reset board, with the pokes so far, the newest
--               first. It takes steps at any tick, so no list of calls leads anywhere else
use Rattle.std.specs.Prelude.{◌≡◌, ℕ, ◌<◌, Bool, cond, ◌&&◌, List, [], ◌∷◌, Some, None, Option, ◌==◌, nat_lt}
use Rattle.refusals.specs.declared.Refusal.{Refusal}
use Rattle.memories.specs.Meaning.{Meaning, poked}
use Rattle.machine.specs.Cores.{Core, fresh}
use Rattle.machine.specs.Runs.{Ran, ran, hindered, lone}
use Rattle.machine.specs.Steps.{Outcome, stopped, went, step}

pub data Call : Type 0 where
  -- a tick
  stepping : ℕ → Call
  -- ticks, and the length of the export list
  running : List ℕ → ℕ → Call
  resetting : Call
  counting : Call
  -- a page and an offset
  peeking : ℕ → ℕ → Call
  -- a page, an offset and a byte
  poking : ℕ → ℕ → ℕ → Call

pub record State : Type 0 where
  pub core : Core
  pub memory : Meaning

abbrev pub state_after : Outcome → State → State
state_after (stopped refusal) state = state
state_after (went core memory cycles export) state = record { core = core; memory = memory }

-- the run, if nothing keeps it from starting
abbrev pub started : Option Refusal → Ran → State → State
started None run state = record { core = run.core; memory = run.memory }
started (Some refusal) run state = state

abbrev pub does : List ℕ → Call → State → State
does image (stepping tick) state = state_after (lone image tick state.core state.memory) state
does image (running ticks room) state = started (hindered image ticks) (ran image room ticks state.core state.memory) state
does image resetting state = record { core = fresh; memory = state.memory }
does image counting state = state
does image (peeking page offset) state = state
does image (poking page offset byte) state =
    record { core = state.core; memory = cond (nat_lt page state.memory.pages) (poked state.memory page offset byte) state.memory }

abbrev pub performs : List ℕ → List Call → State → State
performs image [] state = state
performs image (call ∷ calls) state = performs image calls (does image call state)

abbrev pub Fits : Call → Type 0
Fits (stepping tick) = Unit {0}
Fits (running ticks room) = Unit {0}
Fits resetting = Unit {0}
Fits counting = Unit {0}
Fits (peeking page offset) = (page < 65536) × (offset < 256)
Fits (poking page offset byte) = (page < 65536) × ((offset < 256) × (byte < 256))

-- a poke that was not refused
pub record Poke : Type 0 where
  pub page : ℕ
  pub offset : ℕ
  pub byte : ℕ

pub data Reached (image : List ℕ) (memory₀ : Meaning) : List Poke → Core → Meaning → Type 0 where
  begun : Reached image memory₀ [] fresh memory₀
  stepped : {pokes : List Poke} {core core' : Core} {memory memory' : Meaning} {cycles : ℕ} {export : Option ℕ} (room : Bool) (tick : ℕ) → Reached image memory₀ pokes core memory → step image room tick core memory ≡ went core' memory' cycles export → Reached image memory₀ pokes core' memory'
  was_reset : {pokes : List Poke} {core : Core} {memory : Meaning} → Reached image memory₀ pokes core memory → Reached image memory₀ pokes fresh memory
  was_poked : {pokes : List Poke} {core : Core} {memory : Meaning} (page offset byte : ℕ) → page < memory.pages → offset < 256 → byte < 256 → Reached image memory₀ pokes core memory → Reached image memory₀ (record { page = page; offset = offset; byte = byte } ∷ pokes) core (poked memory page offset byte)

-- the byte last poked into a cell, or what it held at first
abbrev pub last_poked : List Poke → ℕ → ℕ → ℕ → ℕ
last_poked [] page offset first = first
last_poked (poke ∷ pokes) page offset first =
    cond (page == poke.page && offset == poke.offset) poke.byte (last_poked pokes page offset first)
