-- What is true of all rows and ledgers of an image. Assumes nothing.
--
--   Larger       rows that mark and span all that others do
--   CausesGrow   each cause that rows have, larger rows have
--   LedgerLaws   besides, the smallest ledger is one, and more owned pages do no harm
use Rattle.std.specs.Prelude.{◌≡◌, ℕ, ◌≤◌, List, length}
use Rattle.facts.specs.Marks.{marks}
use Rattle.facts.specs.Spans.{spans}
use Rattle.facts.specs.Tables.{Below}
use Rattle.ledger.specs.declared.owned.OwnedPages.{OwnedPages}
use Rattle.ledger.specs.declared.row.Row.{Row}
use Rattle.ledger.specs.Causes.{LeadsOutside, Undefined, MixedFrames, MisplacedReturn, WritesPageRegister, ForeignPage}
use Rattle.ledger.specs.Needs.{TooDeep}
use Rattle.ledger.specs.Rows.{mains, handlers, page_spans}
use Rattle.ledger.specs.Verdicts.{SmallestLedger}

pub record Larger (image : List ℕ) (rows other : List Row) : Type 0 where
  pub long : length rows ≡ length image
  pub main : Below marks (length image) (mains rows) (mains other)
  pub handler : Below marks (length image) (handlers rows) (handlers other)
  pub spans : Below spans (length image) (page_spans rows) (page_spans other)

-- closed or not
pub record CausesGrow (image : List ℕ) (rows other : List Row) : Type 0 where
  pub outside : (a : ℕ) → LeadsOutside image rows a → LeadsOutside image other a
  pub undefined : (a : ℕ) → Undefined image rows a → Undefined image other a
  pub mixed : (a : ℕ) → MixedFrames rows a → MixedFrames other a
  pub misplaced : (a : ℕ) → MisplacedReturn image rows a → MisplacedReturn image other a
  pub writes : (a : ℕ) → WritesPageRegister image rows a → WritesPageRegister image other a
  pub deep : TooDeep image rows → TooDeep image other
  pub foreign : (owned : OwnedPages) (a : ℕ) → ForeignPage image owned rows a → ForeignPage image owned other a

pub record LedgerLaws : Type 0 where
  pub grow : (image : List ℕ) (rows other : List Row) → Larger image rows other → CausesGrow image rows other
  pub unique : (image : List ℕ) (owned : OwnedPages) (rows other : List Row)
      → SmallestLedger image owned rows
      → SmallestLedger image owned other
      → rows ≡ other
  -- with the same rows, so at the same depth
  pub wider : (image : List ℕ) (owned wide : OwnedPages) (rows : List Row)
      → wide.first ≤ owned.first
      → owned.last ≤ wide.last
      → SmallestLedger image owned rows
      → SmallestLedger image wide rows
