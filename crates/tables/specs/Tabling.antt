-- The table of the program that the bytes of a job tell. Assumes nothing.
use Rattle.std.specs.Prelude.{◌≡◌, ℕ, ◌⊎◌, List, replicate, Ok, Err}
use Rattle.refusals.specs.declared.Refusal.{Refusal}
use Rattle.ledger.specs.declared.owned.OwnedPages.{OwnedPages}
use Rattle.ledger.specs.declared.row.Row.{Row}
use Rattle.ledger.specs.Rows.{blank_row}
use Rattle.inspection.specs.declared.passed.PassedImage.{PassedImage}
use Rattle.inspection.specs.Inspects.{Inspects}
use Rattle.jobs.specs.declared.job.JobError.{JobError}
use Rattle.jobs.specs.declared.job.JobError.TheVariants.{Refused, OutOfMemory}
use Rattle.jobs.specs.Jobs.{Means, Starved, accepted, refused}
use Rattle.tables.specs.Table.{table_text}

-- the table of the rows that inspection leaves
pub record PassedTable (owned : OwnedPages) (words : List ℕ) (rows : List Row) (text : List ℕ) : Type 0 where
  pub passed : PassedImage
  pub after : List Row
  pub inspected : Inspects words owned rows (Ok passed) after
  pub told : text ≡ table_text words after

pub record RefusedImage (owned : OwnedPages) (words : List ℕ) (rows : List Row) (refusal : Refusal) : Type 0 where
  pub after : List Row
  pub inspected : Inspects words owned rows (Err refusal) after

pub record Passing (owned : OwnedPages) (words : List ℕ) (rows : List Row) : Type 0 where
  pub passed : PassedImage
  pub after : List Row
  pub inspected : Inspects words owned rows (Ok passed) after

-- memory can be wanting only for the table of an image that passes
abbrev pub NoTable : OwnedPages → List ℕ → List Row → JobError → Type 0
NoTable owned words rows (Refused refusal) = RefusedImage owned words rows refusal
NoTable owned words rows OutOfMemory = Passing owned words rows

-- a job is inspected with 4,096 rows of zeros
pub record JobTable (bytes text : List ℕ) : Type 0 where
  pub owned : OwnedPages
  pub words : List ℕ
  pub ticks : List ℕ
  pub means : Means bytes (accepted owned words ticks)
  pub table : PassedTable owned words (replicate 4096 blank_row) text

-- the bytes tell a job whose program is not tabled for this error
pub record NoProgramTable (bytes : List ℕ) (error : JobError) : Type 0 where
  pub owned : OwnedPages
  pub words : List ℕ
  pub ticks : List ℕ
  pub means : Means bytes (accepted owned words ticks)
  pub none : NoTable owned words (replicate 4096 blank_row) error

-- reading the job ends in this error
abbrev pub Unread : List ℕ → JobError → Type 0
Unread bytes (Refused refusal) = Means bytes (refused refusal)
Unread bytes OutOfMemory = Starved bytes

abbrev pub NoJobTable : List ℕ → JobError → Type 0
NoJobTable bytes error = Unread bytes error ⊎ NoProgramTable bytes error
