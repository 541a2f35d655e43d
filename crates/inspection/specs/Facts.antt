-- The facts that an inspection finds: both contexts' marks, the page spans and their summary. Assumes nothing.
use Rattle.std.specs.Prelude.{◌≡◌, ℕ, Bool, cond, List, slice_index_or, Option}
use Rattle.facts.specs.declared.marks.FrameMarks.{FrameMarks}
use Rattle.facts.specs.declared.spans.PageSpans.{PageSpans}
use Rattle.facts.specs.Marks.{marks, unmarked}
use Rattle.facts.specs.Spans.{point, spans}
use Rattle.facts.specs.Tables.{Smallest, summary}
use Rattle.ledger.specs.declared.row.Row.{Row}
use Rattle.ledger.specs.Interrupts.{outermost}
use Rattle.ledger.specs.Ledgers.{zero_spans}
use Rattle.ledger.specs.Rows.{MainMarked, blank_row, mains, handlers, page_spans}

-- where interrupts can come, the handler starts at address 0
abbrev pub handler_marks : Bool → FrameMarks
handler_marks interrupted = cond interrupted outermost unmarked

-- where the main program never comes a row has zeros for spans
pub record Facts (image : List ℕ) (interrupted : Bool) (rows : List Row) (all : Option PageSpans) : Type 0 where
  pub main : Smallest marks image 1 outermost (mains rows)
  pub handler : Smallest marks image 0 (handler_marks interrupted) (handlers rows)
  pub spanned : Smallest spans image 1 zero_spans (page_spans rows)
  pub spanless : (a : ℕ) → (MainMarked rows a → ⊥) → ((slice_index_or rows a blank_row).r14 ≡ point 0) × ((slice_index_or rows a blank_row).r15 ≡ point 0)
  pub value : all ≡ summary spans image (page_spans rows)
