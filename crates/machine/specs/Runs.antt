-- A run over a list of ticks, and what keeps a step or a run from starting. Assumes nothing.
--
--   Ran         what a run came to
--   ran         the run over a list of ticks, with room for so many exports
--   hindered    why a run does not start
use Rattle.std.specs.Prelude.{◌≡◌, ℕ, ◌+◌, ◌-◌, Bool, true, cond, ◌&&◌, List, [], ◌∷◌, ◌++◌, length, drop, Some, None, Ok, Err, Option, Result, nat_le, nat_lt}
use Rattle.refusals.specs.declared.Refusal.{Refusal}
use Rattle.refusals.specs.declared.Refusal.TheVariants.{ImageLength, TooManyTicks, TickTooLarge}
use Rattle.refusals.specs.Numbers.{number_of}
use Rattle.memories.specs.Meaning.{Meaning}
use Rattle.machine.specs.declared.report.RunReport.{RunReport}
use Rattle.machine.specs.Cores.{Core}
use Rattle.machine.specs.Steps.{Outcome, stopped, went, step}

pub record Ran : Type 0 where
  pub core : Core
  pub memory : Meaning
  -- the ticks that were spent, and the cycles of their steps
  pub ticks : ℕ
  pub cycles : ℕ
  pub exports : List ℕ
  -- nothing where every tick was used
  pub stop : Option Refusal

abbrev pub list_of : Option ℕ → List ℕ
list_of None = []
list_of (Some export) = export ∷ []

-- what came before a run, and the run
abbrev pub later : ℕ → ℕ → List ℕ → Ran → Ran
later ticks cycles exports rest = record {
  core = rest.core;
  memory = rest.memory;
  ticks = ticks + rest.ticks;
  cycles = cycles + rest.cycles;
  exports = exports ++ rest.exports;
  stop = rest.stop;
}

-- a run that ends here
abbrev pub ended : Core → Meaning → Option Refusal → Ran
ended core memory stop = record { core = core; memory = memory; ticks = 0; cycles = 0; exports = []; stop = stop }

-- a step that stops spends no tick and leaves all as it was
unfoldable pub ran : List ℕ → ℕ → List ℕ → Core → Meaning → Ran
ran image room [] core memory = ended core memory None
ran image room (tick ∷ ticks) core memory = elim (step image (nat_lt 0 room) tick core memory) [
  | stopped refusal ↦ ended core memory (Some refusal)
  | went core' memory' cycles export ↦ later 1 cycles (list_of export) (ran image (room - length (list_of export)) ticks core' memory')
]

-- the number of what stopped a run: 0 where every tick was used
abbrev pub stop_number : Option Refusal → ℕ
stop_number None = 0
stop_number (Some refusal) = number_of refusal

-- 2 to 4,096 words
abbrev pub fits_image : ℕ → Bool
fits_image words = nat_le 2 words && nat_le words 4096

-- the place of the first tick that is not below 512, counted on from a place
abbrev pub first_large : ℕ → List ℕ → Option ℕ
first_large place [] = None
first_large place (tick ∷ ticks) = cond (nat_lt tick 512) (first_large (place + 1) ticks) (Some place)

abbrev pub large_tick : Option ℕ → Option Refusal
large_tick None = None
large_tick (Some place) = Some (TickTooLarge place)

abbrev pub hindered : List ℕ → List ℕ → Option Refusal
hindered image ticks =
    cond (fits_image (length image)) (cond (nat_le (length ticks) 65536) (large_tick (first_large 0 ticks)) (Some TooManyTicks)) (Some ImageLength)

-- a lone step, with room for its export; its tick has place 0
abbrev pub lone : List ℕ → ℕ → Core → Meaning → Outcome
lone image tick core memory =
    elim (hindered image (tick ∷ [])) [ None ↦ step image true tick core memory | Some refusal ↦ stopped refusal ]

-- what a run reports and leaves; the exports stand at the front of the given list
pub record Reports (result : Ran) (report : RunReport) (exports : List ℕ) (core' : Core) (memory' : Meaning) (exports' : List ℕ) : Type 0 where
  pub core : core' ≡ result.core
  pub memory : memory' ≡ result.memory
  pub listed : exports' ≡ result.exports ++ drop (length result.exports) exports
  pub ticks : report.ticks ≡ result.ticks
  pub cycles : report.cycles ≡ result.cycles
  pub exported : report.exports ≡ length result.exports
  pub stop : report.stop ≡ result.stop
  pub pc : report.pc ≡ result.core.pc

-- a run that does not start changes nothing
abbrev pub Runs : List ℕ → List ℕ → Core → Meaning → List ℕ → Result RunReport Refusal → Core → Meaning → List ℕ → Type 0
Runs image ticks core memory exports (Ok report) core' memory' exports' =
    (hindered image ticks ≡ None) × Reports (ran image (length exports) ticks core memory) report exports core' memory' exports'
Runs image ticks core memory exports (Err refusal) core' memory' exports' =
    (hindered image ticks ≡ Some refusal) × (core' ≡ core) × (memory' ≡ memory) × (exports' ≡ exports)
