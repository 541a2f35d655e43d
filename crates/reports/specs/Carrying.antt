-- What a job comes to when it is carried out. Assumes nothing.
--
--   Judged       the verdict on an image that is inspected with the given rows
--   Tried        the run of an image on a newly reset board, a board memory of the given bytes and a list for its exports
--   CarriesOut   both: 4,096 rows of zeros, 64 pages of zeros, and room for 4,096 exports
use Rattle.std.specs.Prelude.{◌≡◌, ℕ, List, replicate, Result}
use Rattle.refusals.specs.declared.Refusal.{Refusal}
use Rattle.memories.specs.Kinds.{of_bytes}
use Rattle.memories.specs.Meaning.{Meaning}
use Rattle.machine.specs.declared.report.RunReport.{RunReport}
use Rattle.machine.specs.Cores.{Core, fresh}
use Rattle.machine.specs.Runs.{Runs}
use Rattle.ledger.specs.declared.owned.OwnedPages.{OwnedPages}
use Rattle.ledger.specs.declared.row.Row.{Row}
use Rattle.ledger.specs.Rows.{blank_row}
use Rattle.inspection.specs.declared.passed.PassedImage.{PassedImage}
use Rattle.inspection.specs.Inspects.{Inspects, verdict_of}
use Rattle.reports.specs.declared.outcome.JobReport.{JobReport}

pub record Judged (words : List ℕ) (owned : OwnedPages) (rows : List Row) (verdict : Result ℕ Refusal) : Type 0 where
  pub answer : Result PassedImage Refusal
  pub after : List Row
  pub inspected : Inspects words owned rows answer after
  pub told : verdict ≡ verdict_of answer

pub record Tried (words ticks cells exports : List ℕ) (run : Result RunReport Refusal) : Type 0 where
  pub core : Core
  pub memory : Meaning
  pub after : List ℕ
  pub runs : Runs words ticks fresh (of_bytes cells) exports run core memory after

-- the run is tried whatever the verdict is
pub record CarriesOut (owned : OwnedPages) (words ticks : List ℕ) (report : JobReport) : Type 0 where
  pub verdict : Judged words owned (replicate 4096 blank_row) report.verdict
  pub run : Tried words ticks (replicate 16384 0) (replicate 4096 0) report.run
