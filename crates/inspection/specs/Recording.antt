-- The rows that record the facts and needs of an image. Assumes nothing.
use Rattle.std.specs.Prelude.{◌≡◌, ℕ, ◌<◌, List, length, slice_index, slice_index_or, None, Some, Option}
use Rattle.facts.specs.declared.marks.FrameMarks.{FrameMarks}
use Rattle.facts.specs.declared.spans.PageSpans.{PageSpans}
use Rattle.facts.specs.Marks.{marks}
use Rattle.facts.specs.Spans.{point, spans}
use Rattle.facts.specs.Tables.{fact_at}
use Rattle.ledger.specs.declared.row.Row.{Row}
use Rattle.ledger.specs.Rows.{blank_row}

abbrev pub row_of : FrameMarks → FrameMarks → Option PageSpans → ℕ → Row
row_of main handler None need = record { main = main; handler = handler; r14 = point 0; r15 = point 0; need = need }
row_of main handler (Some s) need = record { main = main; handler = handler; r14 = s.r14; r15 = s.r15; need = need }

-- the row of what four tables have at an address
abbrev pub row_in : List FrameMarks → List FrameMarks → List (Option PageSpans) → List ℕ → ℕ → Row
row_in mains handlers here need a = row_of (fact_at marks mains a) (fact_at marks handlers a) (fact_at spans here a) (slice_index need a)

pub record Records (words : ℕ) (mains handlers : List FrameMarks) (here : List (Option PageSpans)) (need : List ℕ) (rows : List Row) : Type 0 where
  pub long : length rows ≡ words
  pub each : (a : ℕ) → a < words → slice_index_or rows a blank_row ≡ row_in mains handlers here need a
