-- How a run's report and its export list take up one step. Assumes nothing.
use Rattle.std.specs.Prelude.{◌≡◌, ℕ, ◌+◌, ◌<◌, List, length, Some, None, Option, slice_set}
use Rattle.machine.specs.declared.report.RunReport.{RunReport}
use Rattle.machine.specs.declared.step.Stepped.{Stepped}
use Rattle.machine.specs.Runs.{list_of}

-- there is a place for the export
abbrev pub Holds : Option ℕ → ℕ → List ℕ → Type 0
Holds None place exports = Unit {0}
Holds (Some export) place exports = place < length exports

abbrev pub noted : Option ℕ → ℕ → List ℕ → List ℕ
noted None place exports = exports
noted (Some export) place exports = slice_set exports place export

pub record Counts (before : RunReport) (stepped : Stepped) (exports : List ℕ) (after : RunReport) (exports' : List ℕ) : Type 0 where
  pub ticks : after.ticks ≡ before.ticks + 1
  pub cycles : after.cycles ≡ before.cycles + stepped.cycles
  pub exported : after.exports ≡ before.exports + length (list_of stepped.export)
  pub stop : after.stop ≡ before.stop
  pub listed : exports' ≡ noted stepped.export before.exports exports
