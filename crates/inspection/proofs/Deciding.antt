-- From what the searches found to the verdict. Assumes nothing.
use Rattle.std.proofs.Common.{◌≡◌, ℕ, ◌<◌, ◌≤◌, false, List, length, get_or, sym, refl, ap, ◌∙◌, subst, inl, inr, ⊎_elim, arith, Option}
use Rattle.std.proofs.lemmas.List.{get_or_past, length-map}
use Rattle.std.proofs.lemmas.Bool.{cases_lt, false_from_ne_true, false≢true, or_cases, or_from, or_left, or_parts, or_right}
use Rattle.refusals.specs.declared.Refusal.{Refusal}
use Rattle.refusals.specs.declared.Refusal.TheVariants.{StackTooDeep}
use Rattle.facts.specs.declared.marks.FrameMarks.{FrameMarks}
use Rattle.facts.specs.declared.spans.PageSpans.{PageSpans}
use Rattle.facts.specs.Marks.{unmarked, any_frame}
use Rattle.facts.specs.Spans.{point}
use Rattle.ledger.specs.declared.owned.OwnedPages.{OwnedPages}
use Rattle.ledger.specs.declared.row.Row.{Row}
use Rattle.ledger.specs.Causes.{instruction_at, ForeignPage}
use Rattle.ledger.specs.Interrupts.{interruptible}
use Rattle.ledger.specs.Ledgers.{Ledger}
use Rattle.ledger.specs.Needs.{Suffices, TooDeep, deepest}
use Rattle.ledger.specs.Rows.{blank_row, mains, handlers, page_spans, needs, main_at, handler_at, spans_at, need_at, all_spans, Marked}
use Rattle.ledger.specs.Verdicts.{Clear, Because, early, deep, foreign, SmallestLedger, Surveyed}
use Rattle.ledger.proofs.Growing.{deepest_mono, least_depth}
use Rattle.ledger.proofs.RowFacts.{main_at_lem, handler_at_lem, need_at_lem}
use Rattle.inspection.specs.Facts.{Facts}
use Rattle.inspection.specs.First.{NoneBefore, FirstAt}
use Rattle.inspection.specs.Inspects.{Caused, Passes}
use Rattle.inspection.specs.Looking.{cause_of, cause_in, foreign_of, foreign_in}
use Rattle.inspection.specs.Needing.{marked_in, Allowed, Settled}
use Rattle.inspection.proofs.Clearing.{clear_here, cause_here}
use Rattle.inspection.proofs.Shallow.{allowed}
use Rattle.inspection.proofs.Straying.{foreign_found_lem, foreign_not}

unmarked_is : (m : FrameMarks) → any_frame m ≡ false → m ≡ unmarked
unmarked_is m e = let o = or_parts m.outer m.routine e in λ i. record { outer = o.0 i; routine = o.1 i }

blank_is : (row : Row) → row.main ≡ unmarked → row.handler ≡ unmarked → row.r14 ≡ point 0 → row.r15 ≡ point 0 → row.need ≡ 0 → row ≡ blank_row
blank_is row m h low high n = λ i. record { main = m i; handler = h i; r14 = low i; r15 = high i; need = n i }

-- a row for each word, with the smallest facts of the image
module _ {image : List ℕ} (owned : OwnedPages) {rows : List Row} {all : Option PageSpans} (long : length rows ≡ length image) (found : Facts image (interruptible image) rows all) where
  is_surveyed : Surveyed image rows
  is_surveyed = record { long = long; main = found.main; handler = found.handler; spans = found.spanned }

  -- past the image nothing is marked
  past_main : (a : ℕ) → length image ≤ a → main_at rows a ≡ unmarked
  past_main a h = get_or_past (mains rows) a unmarked (omega (arith, length-map rows (λ row. row.main)))

  past_handler : (a : ℕ) → length image ≤ a → handler_at rows a ≡ unmarked
  past_handler a h = get_or_past (handlers rows) a unmarked (omega (arith, length-map rows (λ row. row.handler)))

  clear_all : NoneBefore (length image) (cause_in image (mains rows) (handlers rows)) → (a : ℕ) → Clear image rows a
  clear_all none a = elim (cases_lt a (length image)) [
    | inl h ↦ clear_here image rows a (none a h)
    | inr h ↦ clear_here image rows a (λ j. cause_of (length image) a (instruction_at image a) (past_main a h j) (past_handler a h j))
  ]

  suffices_allowed : (need : List ℕ) → Allowed image (marked_in (mains rows) (handlers rows)) need → Suffices image rows need
  suffices_allowed need fine a m = fine a (⊎_elim (or_left _ _) (or_right _ _) m)

  allowed_suffices : (need : List ℕ) → Suffices image rows need → Allowed image (marked_in (mains rows) (handlers rows)) need
  allowed_suffices need suffices a m = suffices a (or_cases _ _ m)

  pub caused_early : {refusal : Refusal} → FirstAt (length image) (cause_in image (mains rows) (handlers rows)) refusal → Caused image owned refusal
  caused_early first = record {
    rows = rows;
    surveyed = is_surveyed;
    because = early first.address first.inside (λ b h. clear_here image rows b (first.before b h)) (cause_here image rows first.address first.here);
  }

  module _ (clear : NoneBefore (length image) (cause_in image (mains rows) (handlers rows))) (settled : Settled image (marked_in (mains rows) (handlers rows)) (needs rows)) where
    too_deep : 1 < length image → 16 < deepest image (needs rows) → TooDeep image rows
    too_deep two over other suffices few =
        let least = settled.least other (allowed_suffices other suffices) in
        omega (arith, deepest_mono image (needs rows) other (least 0 (omega arith)) (least 1 two))

    pub caused_deep : 1 < length image → 16 < deepest image (needs rows) → Caused image owned StackTooDeep
    caused_deep two over = record { rows = rows; surveyed = is_surveyed; because = deep (clear_all clear) (too_deep two over) }

    module _ (few : deepest image (needs rows) ≤ 16) where
      enough : Suffices image rows (needs rows)
      enough = suffices_allowed (needs rows) (allowed image (mains rows) (handlers rows) (needs rows) settled found.main found.handler few)

      foreign_path : (a : ℕ) → foreign_of a owned (instruction_at image a) (main_at rows a) (handler_at rows a) (spans_at rows a) (all_spans image rows) ≡ foreign_in image owned (mains rows) (handlers rows) (page_spans rows) all a
      foreign_path a = ap (foreign_of a owned (instruction_at image a) (main_at rows a) (handler_at rows a) (spans_at rows a)) (sym found.value)

      pub caused_foreign : {refusal : Refusal} → FirstAt (length image) (foreign_in image owned (mains rows) (handlers rows) (page_spans rows) all) refusal → Caused image owned refusal
      caused_foreign first =
          let at = first.address in
          let here = foreign_found_lem (foreign_path at ∙ first.here) in
          record {
            rows = rows;
            surveyed = is_surveyed;
            because = subst (Because image owned rows) here.1 (foreign at first.inside (clear_all clear) (λ over. over (needs rows) enough few) (λ b h. foreign_not (foreign_path b ∙ first.before b h)) here.0);
          }

      never_foreign : NoneBefore (length image) (foreign_in image owned (mains rows) (handlers rows) (page_spans rows) all) → (a : ℕ) → ForeignPage image owned rows a → ⊥
      never_foreign none a c = elim (cases_lt a (length image)) [
        | inl h ↦ foreign_not (foreign_path a ∙ none a h) c
        | inr h ↦ ⊎_elim
            (λ k. false≢true (ap any_frame (sym (past_main a h)) ∙ k.0))
            (λ k. false≢true (ap any_frame (sym (past_handler a h)) ∙ k.0))
            c.foreign
      ]

      is_ledger : NoneBefore (length image) (foreign_in image owned (mains rows) (handlers rows) (page_spans rows) all) → Ledger image owned rows
      is_ledger stays = record {
        long = long;
        main = found.main.closed;
        handler = found.handler.closed;
        spans = found.spanned.closed;
        inside = λ a. (clear_all clear a).inside;
        defined = λ a. (clear_all clear a).defined;
        apart = λ a. (clear_all clear a).apart;
        returns = λ a. (clear_all clear a).returns;
        keeps = λ a. (clear_all clear a).keeps;
        owns = never_foreign stays;
        needs = enough;
        shallow = few;
      }

      least_need : (other : List ℕ) → Suffices image rows other → (a : ℕ) → need_at rows a ≤ get_or other a 0
      least_need other suffices a = elim (cases_lt a (length image)) [
        | inl h ↦ settled.least other (allowed_suffices other suffices) a h
        | inr h ↦ omega (arith, get_or_past (needs rows) a 0 (omega (arith, length-map rows (λ row. row.need))))
      ]

      blank_rows : (a : ℕ) → (Marked rows a → ⊥) → get_or rows a blank_row ≡ blank_row
      blank_rows a none =
          let m : any_frame (main_at rows a) ≡ false = false_from_ne_true _ (λ k. none (inl k)) in
          let h : any_frame (handler_at rows a) ≡ false = false_from_ne_true _ (λ k. none (inr k)) in
          let both = found.spanless a (λ k. none (inl k)) in
          blank_is (get_or rows a blank_row) (sym (main_at_lem rows a) ∙ unmarked_is _ m) (sym (handler_at_lem rows a) ∙ unmarked_is _ h) both.0 both.1 (sym (need_at_lem rows a) ∙ settled.blank a (or_from _ _ m h))

      pub passes : NoneBefore (length image) (foreign_in image owned (mains rows) (handlers rows) (page_spans rows) all) → Passes image owned rows (deepest image (needs rows))
      passes stays =
          let smallest : SmallestLedger image owned rows = record {
            ledger = is_ledger stays;
            surveyed = is_surveyed;
            least = least_need;
            spanless = found.spanless;
            blank = blank_rows;
          } in
          record { ledger = smallest; value = refl; least = λ other ledger. least_depth smallest ledger }
