-- What rows say that record the smallest facts. Assumes nothing.
use Rattle.std.proofs.Common.{◌≡◌, ℕ, ◌<◌, Bool, false, List, [], map, length, get_or, sym, refl, ap, ◌∙◌, inl, inr, arith, None, Some, Option}
use Rattle.std.proofs.lemmas.List.FromFn.{get_or-map-range_with_len, length-map-range_with_len}
use Rattle.std.proofs.lemmas.List.{get_or_past, length-map}
use Rattle.std.proofs.lemmas.Bool.{cases_lt, false_from_ne_true, cond-true, cond-false, true≢false}
use Rattle.std.specs.List.{range_with_len}
use Rattle.facts.specs.declared.marks.FrameMarks.{FrameMarks}
use Rattle.facts.specs.declared.spans.PageSpans.{PageSpans}
use Rattle.facts.specs.Marks.{marks, any_frame}
use Rattle.facts.specs.Spans.{point, spans}
use Rattle.facts.specs.Tables.{fact_at, summary, Smallest, known}
use Rattle.facts.proofs.Lasting.{marks_laws, spans_where_marked}
use Rattle.facts.specs.SpansLaws.{spans_laws}
use Rattle.facts.proofs.Tables.{smallest_agree, summary_agree}
use Rattle.ledger.specs.declared.row.Row.{Row}
use Rattle.ledger.specs.Interrupts.{outermost}
use Rattle.ledger.specs.Ledgers.{zero_spans}
use Rattle.ledger.specs.Rows.{blank_row, main_at, handler_at, spans_at, need_at, mains, handlers, page_spans, needs, spans_of, MainMarked}
use Rattle.ledger.proofs.RowFacts.{main_at_lem, handler_at_lem, spans_at_lem, need_at_lem}
use Rattle.inspection.specs.Facts.{handler_marks, Facts}
use Rattle.inspection.specs.Recording.{row_of, row_in, Records}
use Rattle.inspection.proofs.Shallow.{known_marked}

-- the parts of a row
row_main : (main handler : FrameMarks) (s : Option PageSpans) (need : ℕ) → (row_of main handler s need).main ≡ main
row_main main handler None need = refl
row_main main handler (Some s) need = refl

row_handler : (main handler : FrameMarks) (s : Option PageSpans) (need : ℕ) → (row_of main handler s need).handler ≡ handler
row_handler main handler None need = refl
row_handler main handler (Some s) need = refl

row_need : (main handler : FrameMarks) (s : Option PageSpans) (need : ℕ) → (row_of main handler s need).need ≡ need
row_need main handler None need = refl
row_need main handler (Some s) need = refl

-- spans are recorded where the main program comes
row_spans : (main handler : FrameMarks) (s : Option PageSpans) (need : ℕ) → known spans s ≡ any_frame main → spans_of (row_of main handler s need) ≡ s
row_spans main handler None need e = cond-false _ _ _ (sym e)
row_spans main handler (Some s) need e = cond-true _ _ _ (sym e)

row_spanless : (main handler : FrameMarks) (s : Option PageSpans) (need : ℕ) → known spans s ≡ false → ((row_of main handler s need).r14 ≡ point 0) × ((row_of main handler s need).r15 ≡ point 0)
row_spanless main handler None need e = (refl, refl)
row_spanless main handler (Some s) need e = absurd (true≢false e)

-- rows that record given tables
pub record_of : (n : ℕ) (main handler : List FrameMarks) (here : List (Option PageSpans)) (need : List ℕ) → Records n main handler here need (map (row_in main handler here need) (range_with_len 0 n))
record_of n main handler here need = record {
  long = length-map-range_with_len (row_in main handler here need) 0 n;
  each = λ a h. get_or-map-range_with_len (row_in main handler here need) 0 n a a blank_row h (omega arith);
}

module _ {n : ℕ} {main handler : List FrameMarks} {here : List (Option PageSpans)} {need : List ℕ} {rows : List Row} (records : Records n main handler here need rows) where
  pub main_recorded : (a : ℕ) → a < n → main_at rows a ≡ fact_at marks main a
  main_recorded a h = main_at_lem rows a ∙ ap (λ row. row.main) (records.each a h) ∙ row_main (fact_at marks main a) (fact_at marks handler a) (fact_at spans here a) (get_or need a 0)

  pub handler_recorded : (a : ℕ) → a < n → handler_at rows a ≡ fact_at marks handler a
  handler_recorded a h = handler_at_lem rows a ∙ ap (λ row. row.handler) (records.each a h) ∙ row_handler (fact_at marks main a) (fact_at marks handler a) (fact_at spans here a) (get_or need a 0)

  pub need_recorded : (a : ℕ) → a < n → need_at rows a ≡ get_or need a 0
  need_recorded a h = need_at_lem rows a ∙ ap (λ row. row.need) (records.each a h) ∙ row_need (fact_at marks main a) (fact_at marks handler a) (fact_at spans here a) (get_or need a 0)

-- rows that record no needs
pub unneeded : {n : ℕ} {main handler : List FrameMarks} {here : List (Option PageSpans)} {rows : List Row} → Records n main handler here [] rows → (a : ℕ) → need_at rows a ≡ 0
unneeded {n} {rows = rows} records a = elim (cases_lt a n) [
  | inl h ↦ need_recorded records a h
  | inr h ↦ get_or_past (needs rows) a 0 (omega (arith, records.long, length-map rows (λ row. row.need)))
]

module _ {image : List ℕ} {main handler : List FrameMarks} {here : List (Option PageSpans)} {need : List ℕ} {rows : List Row}
    (records : Records (length image) main handler here need rows)
    (marked_main : Smallest marks image 1 outermost main)
    (spanned : Smallest spans image 1 zero_spans here)
  where
    -- spans are known where the main program comes
    spans_known : (a : ℕ) → a < length image → known spans (fact_at spans here a) ≡ any_frame (fact_at marks main a)
    spans_known a h = sym (spans_where_marked image 1 outermost zero_spans main here marked_main spanned refl a h) ∙ known_marked (fact_at marks main a)

    pub spans_recorded : (a : ℕ) → a < length image → spans_at rows a ≡ fact_at spans here a
    spans_recorded a h = spans_at_lem rows a ∙ ap spans_of (records.each a h) ∙ row_spans (fact_at marks main a) (fact_at marks handler a) (fact_at spans here a) (get_or need a 0) (spans_known a h)

    spanless_recorded : (a : ℕ) → (MainMarked rows a → ⊥) → ((get_or rows a blank_row).r14 ≡ point 0) × ((get_or rows a blank_row).r15 ≡ point 0)
    spanless_recorded a none = elim (cases_lt a (length image)) [
      | inl h ↦
          let unknown : known spans (fact_at spans here a) ≡ false = spans_known a h ∙ false_from_ne_true _ (λ m. none (ap any_frame (main_recorded records a h) ∙ m)) in
          let both = row_spanless (fact_at marks main a) (fact_at marks handler a) (fact_at spans here a) (get_or need a 0) unknown in
          (ap (λ row. row.r14) (records.each a h) ∙ both.0, ap (λ row. row.r15) (records.each a h) ∙ both.1)
      | inr h ↦
          let beyond : get_or rows a blank_row ≡ blank_row = get_or_past rows a blank_row (omega (arith, records.long)) in
          (ap (λ row. row.r14) beyond, ap (λ row. row.r15) beyond)
    ]

    pub facts_recorded : {able : Bool} → Smallest marks image 0 (handler_marks able) handler → Facts image able rows (summary spans image here)
    facts_recorded {able} marked_handler = record {
      main = smallest_agree marks_laws image 1 outermost main (mains rows) (λ a h. sym (main_recorded records a h)) marked_main;
      handler = smallest_agree marks_laws image 0 (handler_marks able) handler (handlers rows) (λ a h. sym (handler_recorded records a h)) marked_handler;
      spanned = smallest_agree spans_laws image 1 zero_spans here (page_spans rows) (λ a h. sym (spans_recorded a h)) spanned;
      spanless = spanless_recorded;
      value = summary_agree spans_laws image here (page_spans rows) (λ a h. sym (spans_recorded a h));
    }
