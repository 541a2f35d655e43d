-- When a list of rows is a ledger of an image with its owned pages. Assumes nothing.
use Rattle.std.specs.Prelude.{◌≡◌, ℕ, ◌≤◌, List, length, Option, Some}
use Rattle.facts.specs.declared.spans.PageSpans.{PageSpans}
use Rattle.facts.specs.Marks.{marks}
use Rattle.facts.specs.Spans.{spans, zero_both}
use Rattle.facts.specs.Tables.{Closed}
use Rattle.ledger.specs.declared.owned.OwnedPages.{OwnedPages}
use Rattle.ledger.specs.declared.row.Row.{Row}
use Rattle.ledger.specs.Causes.{LeadsOutside, Undefined, MixedFrames, MisplacedReturn, WritesPageRegister, ForeignPage}
use Rattle.ledger.specs.Interrupts.{outermost, handler_start}
use Rattle.ledger.specs.Needs.{Needs, depth}
use Rattle.ledger.specs.Rows.{mains, handlers, page_spans}

-- both page registers are 0
abbrev pub zero_spans : Option PageSpans
zero_spans = Some zero_both

-- any rows that are closed and show no cause, the smallest or not
pub record Ledger (image : List ℕ) (owned : OwnedPages) (rows : List Row) : Type 0 where
  -- a row for each word
  pub long : length rows ≡ length image
  pub main : Closed marks image 1 outermost (mains rows)
  pub handler : Closed marks image 0 (handler_start image) (handlers rows)
  pub spans : Closed spans image 1 zero_spans (page_spans rows)
  pub inside : (a : ℕ) → LeadsOutside image rows a → ⊥
  pub defined : (a : ℕ) → Undefined image rows a → ⊥
  pub apart : (a : ℕ) → MixedFrames rows a → ⊥
  pub returns : (a : ℕ) → MisplacedReturn image rows a → ⊥
  pub keeps : (a : ℕ) → WritesPageRegister image rows a → ⊥
  pub owns : (a : ℕ) → ForeignPage image owned rows a → ⊥
  pub needs : Needs image rows
  pub shallow : depth image rows ≤ 16
