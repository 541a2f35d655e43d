-- What is read from a sheet, and what work on it leaves as it was. Assumes nothing.
--
--   reached      the main program or the handler can come to an address
--   needed       the needs in the rows
--   cause_on     the cause from 5 to 9 at an address
--   foreign_on   cause 11 at an address
--   SameFacts    rows that differ in their needs at the most
--   SameSheet    the same words, and rows of the same lender
--   FindsFacts   the rows have the smallest facts and no needs yet
--   RaisesNeeds  needs only rise, and all else is as it was
--   SettlesNeeds the needs are the least, and all else is as it was
use Rattle.std.specs.Prelude.{◌≡◌, ℕ, Bool, List, map, Option, slice_index}
use Rattle.refusals.specs.declared.Refusal.{Refusal}
use Rattle.facts.specs.declared.spans.PageSpans.{PageSpans}
use Rattle.ledger.specs.declared.owned.OwnedPages.{OwnedPages}
use Rattle.ledger.specs.declared.row.Row.{Row}
use Rattle.ledger.specs.Rows.{mains, handlers, page_spans, needs}
use Rattle.inspection.specs.declared.sheet.Sheet.{Sheet}
use Rattle.inspection.specs.Facts.{Facts}
use Rattle.inspection.specs.Looking.{cause_in, foreign_in}
use Rattle.inspection.specs.Needing.{marked_in, Lifts, Settled}

abbrev pub reached : Sheet → ℕ → Bool
reached sheet = marked_in (mains sheet.rows.now) (handlers sheet.rows.now)

abbrev pub needed : Sheet → List ℕ
needed sheet = needs sheet.rows.now

abbrev pub cause_on : Sheet → ℕ → Option Refusal
cause_on sheet = cause_in sheet.words.now (mains sheet.rows.now) (handlers sheet.rows.now)

abbrev pub foreign_on : Sheet → OwnedPages → Option PageSpans → ℕ → Option Refusal
foreign_on sheet owned all = foreign_in sheet.words.now owned (mains sheet.rows.now) (handlers sheet.rows.now) (page_spans sheet.rows.now) all

-- a row but for its need
abbrev pub needless : Row → Row
needless row = record { main = row.main; handler = row.handler; r14 = row.r14; r15 = row.r15; need = 0 }

pub record SameFacts (before after : List Row) : Type 0 where
  pub rows : map needless after ≡ map needless before

-- by the loan's name the lender learns what its rows hold at the end
pub record SameSheet (before after : Sheet) : Type 0 where
  pub words : after.words.now ≡ before.words.now
  pub loan : after.rows.ghost_name ≡ before.rows.ghost_name

pub record FindsFacts (before : Sheet) (interrupted : Bool) (after : Sheet) (all : Option PageSpans) : Type 0 where
  pub same : SameSheet before after
  pub facts : Facts before.words.now interrupted after.rows.now all
  pub unneeded : (a : ℕ) → slice_index (needed after) a ≡ 0

pub record RaisesNeeds (before after : Sheet) (changed : Bool) : Type 0 where
  pub same : SameSheet before after
  pub facts : SameFacts before.rows.now after.rows.now
  pub lifts : Lifts before.words.now (reached before) (needed before) (needed after) changed

pub record SettlesNeeds (before after : Sheet) : Type 0 where
  pub same : SameSheet before after
  pub facts : SameFacts before.rows.now after.rows.now
  pub settled : Settled before.words.now (reached before) (needed after)
