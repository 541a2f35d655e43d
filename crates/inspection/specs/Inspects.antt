-- What inspection answers, and what it leaves in the rows. Assumes nothing.
--
--   Certified  a passed image is one that passes, at its depth
--   Inspects   a passed image with its rows, or a refusal, or an obstacle that comes before
use Rattle.std.specs.Prelude.{◌≡◌, ℕ, ◌⊎◌, List, ◌++◌, length, drop, replicate, Ok, Err, Result}
use Rattle.refusals.specs.declared.Refusal.{Refusal}
use Rattle.ledger.specs.declared.owned.OwnedPages.{OwnedPages}
use Rattle.ledger.specs.declared.row.Row.{Row}
use Rattle.ledger.specs.Rows.{blank_row}
use Rattle.ledger.specs.Limits.{SafeImageWithin}
use Rattle.inspection.specs.declared.passed.PassedImage.{PassedImage}
use Rattle.inspection.specs.Obstacles.{Unobstructed, Obstructed}
pub use Rattle.inspection.specs.Passing.{front, Passes, Caused, Refused, Decides, Judges, Certifies}

abbrev pub Certified : PassedImage → Type 0
Certified passed = Certifies passed.words.now passed.owned passed.depth

pub record Answered (image : List ℕ) (owned : OwnedPages) (rows : List Row) (passed : PassedImage) (rows' : List Row) : Type 0 where
  pub words : passed.words.now ≡ image
  pub pages : passed.owned ≡ owned
  pub certified : Certified passed
  pub passes : Passes image owned (front image rows') passed.depth
  -- no fault, no deeper stack, no foreign cell, whatever the interrupt, the ports and the caller do
  pub safe : SafeImageWithin image owned passed.depth
  pub rest : drop (length image) rows' ≡ drop (length image) rows

abbrev pub Inspects : List ℕ → OwnedPages → List Row → Result PassedImage Refusal → List Row → Type 0
Inspects image owned rows (Ok passed) rows' = Unobstructed image owned (length rows) × Answered image owned rows passed rows'
Inspects image owned rows (Err refusal) rows' =
    (Obstructed image owned (length rows) refusal × (rows' ≡ rows))
    ⊎ (Unobstructed image owned (length rows) × Refused image owned refusal × (rows' ≡ replicate (length image) blank_row ++ drop (length image) rows))

-- the certified depth, or the refusal
abbrev pub verdict_of : Result PassedImage Refusal → Result ℕ Refusal
verdict_of (Ok passed) = Ok passed.depth
verdict_of (Err refusal) = Err refusal

-- the relation leaves nothing open: one verdict, and one list of rows
abbrev pub OneVerdict : Type 0
OneVerdict =
    (image : List ℕ) (owned : OwnedPages) (rows : List Row) (r s : Result PassedImage Refusal) (after after' : List Row)
    → Inspects image owned rows r after
    → Inspects image owned rows s after'
    → (verdict_of r ≡ verdict_of s) × (after ≡ after')
