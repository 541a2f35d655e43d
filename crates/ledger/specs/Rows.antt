-- What a list of rows says at each address: the marks of both contexts, the page spans and the needs. Assumes nothing.
--
--   blank_row       zeros
--   mains           the marks of the main program
--   handlers        the marks of the interrupt handler
--   page_spans      the spans of the page registers, nothing where the main program never comes
--   MainMarked      the main program can come to the address
--   HandlerMarked   the handler can come to it
--   Marked          either can
use Rattle.std.specs.Prelude.{◌≡◌, ℕ, true, cond, ◌⊎◌, List, map, Option, Some, None, slice_index}
use Rattle.facts.specs.declared.marks.FrameMarks.{FrameMarks}
use Rattle.facts.specs.declared.spans.PageSpans.{PageSpans}
use Rattle.facts.specs.Marks.{marks, unmarked}
pub use Rattle.facts.specs.Marks.{any_frame}
use Rattle.facts.specs.Spans.{point, spans}
use Rattle.facts.specs.Tables.{fact_at, summary}
use Rattle.ledger.specs.declared.row.Row.{Row}

-- zeros: nothing comes here
abbrev pub blank_row : Row
blank_row = record { main = unmarked; handler = unmarked; r14 = point 0; r15 = point 0; need = 0 }

abbrev pub mains : List Row → List FrameMarks
mains rows = map (λ row. row.main) rows

abbrev pub handlers : List Row → List FrameMarks
handlers rows = map (λ row. row.handler) rows

-- without a main mark the intervals of a row say nothing
abbrev pub spans_of : Row → Option PageSpans
spans_of row = cond (any_frame row.main) (Some (record { r14 = row.r14; r15 = row.r15 })) None

abbrev pub page_spans : List Row → List (Option PageSpans)
page_spans rows = map spans_of rows

abbrev pub needs : List Row → List ℕ
needs rows = map (λ row. row.need) rows

abbrev pub main_at : List Row → ℕ → FrameMarks
main_at rows a = fact_at marks (mains rows) a

abbrev pub handler_at : List Row → ℕ → FrameMarks
handler_at rows a = fact_at marks (handlers rows) a

abbrev pub spans_at : List Row → ℕ → Option PageSpans
spans_at rows a = fact_at spans (page_spans rows) a

abbrev pub need_at : List Row → ℕ → ℕ
need_at rows a = slice_index (needs rows) a

-- all spans gathered: where the page registers lie whenever an interrupt comes
abbrev pub all_spans : List ℕ → List Row → Option PageSpans
all_spans image rows = summary spans image (page_spans rows)

abbrev pub MainMarked : List Row → ℕ → Type 0
MainMarked rows a = any_frame (main_at rows a) ≡ true

abbrev pub HandlerMarked : List Row → ℕ → Type 0
HandlerMarked rows a = any_frame (handler_at rows a) ≡ true

abbrev pub Marked : List Row → ℕ → Type 0
Marked rows a = MainMarked rows a ⊎ HandlerMarked rows a
