-- When an image passes, and when it is refused. Assumes nothing.
--
--   front      the rows of the words of an image
--   Passes     an image passes with its smallest ledger; no ledger of it has a smaller depth
--   Refused    an image has no ledger, and is refused for the first cause that its smallest marks and spans show
--   Certifies  some rows pass the image at a depth
use Rattle.std.specs.Prelude.{◌≡◌, ℕ, ◌≤◌, List, length, take, replicate, Ok, Err, Result}
use Rattle.refusals.specs.declared.Refusal.{Refusal}
use Rattle.ledger.specs.declared.owned.OwnedPages.{OwnedPages}
use Rattle.ledger.specs.declared.row.Row.{Row}
use Rattle.ledger.specs.Ledgers.{Ledger}
use Rattle.ledger.specs.Needs.{depth}
use Rattle.ledger.specs.Rows.{blank_row}
use Rattle.ledger.specs.Verdicts.{Surveyed, Because, SmallestLedger, NoLedger}
use Rattle.inspection.specs.Obstacles.{FitsDevice, SmallWords}

abbrev pub front : List ℕ → List Row → List Row
front image rows = take (length image) rows

pub record Passes (image : List ℕ) (owned : OwnedPages) (rows : List Row) (certified : ℕ) : Type 0 where
  pub ledger : SmallestLedger image owned rows
  pub value : certified ≡ depth image rows
  pub least : (other : List Row) → Ledger image owned other → certified ≤ depth image other

pub record Caused (image : List ℕ) (owned : OwnedPages) (refusal : Refusal) : Type 0 where
  pub rows : List Row
  pub surveyed : Surveyed image rows
  pub because : Because image owned rows refusal

pub record Refused (image : List ℕ) (owned : OwnedPages) (refusal : Refusal) : Type 0 where
  pub none : NoLedger image owned
  pub cause : Caused image owned refusal

-- the verdict alone
abbrev pub Decides : List ℕ → OwnedPages → Result ℕ Refusal → List Row → Type 0
Decides image owned (Ok certified) rows = Passes image owned rows certified
Decides image owned (Err refusal) rows = Caused image owned refusal

-- the rows of an image that is judged, one for each word: its smallest ledger, or zeros
abbrev pub Judges : List ℕ → OwnedPages → Result ℕ Refusal → List Row → Type 0
Judges image owned (Ok certified) rows = Passes image owned rows certified
Judges image owned (Err refusal) rows = Refused image owned refusal × (rows ≡ replicate (length image) blank_row)

-- some rows with which an image of small words passes
pub record Certifies (image : List ℕ) (owned : OwnedPages) (certified : ℕ) : Type 0 where
  pub rows : List Row
  pub fits : FitsDevice image
  pub small : SmallWords image
  pub passes : Passes image owned rows certified
