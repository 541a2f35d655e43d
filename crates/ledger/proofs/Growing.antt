-- Each cause that rows have, larger rows have too; so an image that has a cause in its smallest rows has no ledger. Assumes nothing.
use Rattle.std.proofs.Common.{◌≡◌, ℕ, ◌+◌, ◌*◌, ◌≤◌, Bool, true, false, cond, List, map, length, get_or, Option, Some, None, refl, inl, inr, ⊎_elim, arith}
use Rattle.std.proofs.lemmas.List.{get_or_past, length-map}
use Rattle.std.proofs.lemmas.Bool.{and_from, and_parts, both_ways, cases_Bool, cases_lt, false≢true, le-leb, leb-true}
use Rattle.facts.specs.declared.marks.FrameMarks.{FrameMarks}
use Rattle.facts.specs.declared.spans.PageSpans.{PageSpans}
use Rattle.facts.specs.Kinds.{Covers}
use Rattle.facts.specs.Marks.{marks, unmarked}
use Rattle.facts.specs.Spans.{spans}
use Rattle.facts.specs.MarksLaws.{marks_laws}
use Rattle.facts.specs.SpansLaws.{spans_laws}
use Rattle.facts.proofs.Summaries.{summary_mono}
use Rattle.refusals.specs.declared.Refusal.{Refusal}
use Rattle.ledger.specs.declared.owned.OwnedPages.{OwnedPages}
use Rattle.ledger.specs.declared.row.Row.{Row}
use Rattle.ledger.specs.Causes.{Mixed, MisplacedReturn, ForeignPage}
use Rattle.ledger.specs.Interrupts.{interruptible}
use Rattle.ledger.specs.Laws.{Larger, CausesGrow}
use Rattle.ledger.specs.Ledgers.{Ledger}
use Rattle.ledger.specs.Needs.{deepest, depth}
use Rattle.ledger.specs.Pages.{inside_owned}
use Rattle.ledger.specs.Rows.{any_frame, main_at, handler_at, spans_at, all_spans, mains, handlers, page_spans, needs, spans_of, MainMarked, HandlerMarked, Marked}
use Rattle.ledger.specs.Verdicts.{Surveyed, CauseAt, outside, undefined, mixed, misplaced, written, Because, early, deep, foreign, SmallestLedger, NoLedger}

outer_grows : (x y : FrameMarks) → Covers marks x y → y.outer ≡ true → x.outer ≡ true
outer_grows x y p h = grind arith

routine_grows : (x y : FrameMarks) → Covers marks x y → y.routine ≡ true → x.routine ≡ true
routine_grows x y p h = grind arith

any_grows : (x y : FrameMarks) → Covers marks x y → any_frame y ≡ true → any_frame x ≡ true
any_grows x y p h = grind arith

mixed_grows : (x y : FrameMarks) → Covers marks x y → Mixed y → Mixed x
mixed_grows x y p h = (outer_grows x y p h.0, routine_grows x y p h.1)

-- what lies inside the owned pages, lies there with less
inside_covered : (owned : OwnedPages) (x y : Option PageSpans) → Covers spans x y → inside_owned owned x ≡ true → inside_owned owned y ≡ true
inside_covered owned x None c h = refl
inside_covered owned None (Some y) c h = absurd (false≢true c)
inside_covered owned (Some x) (Some y) c h =
    let both = and_parts _ _ c in
    let low = and_parts _ _ both.0 in
    let high = and_parts _ _ both.1 in
    let ends = and_parts _ _ h in
    let a₀ = leb-true x.r14.low y.r14.low low.0 in
    let a₁ = leb-true y.r14.high x.r14.high low.1 in
    let b₀ = leb-true x.r15.low y.r15.low high.0 in
    let b₁ = leb-true y.r15.high x.r15.high high.1 in
    and_from _ _
    (le-leb owned.first (256 * y.r15.low + y.r14.low) (omega (arith, leb-true owned.first (256 * x.r15.low + x.r14.low) ends.0)))
    (le-leb (256 * y.r15.high + y.r14.high) owned.last (omega (arith, leb-true (256 * x.r15.high + x.r14.high) owned.last ends.1)))

outside_grows : (owned : OwnedPages) (x y : Option PageSpans) → Covers spans x y → inside_owned owned y ≡ false → inside_owned owned x ≡ false
outside_grows owned x y c out = elim (cases_Bool (inside_owned owned x)) [
  | inl t ↦ absurd (both_ways _ out (inside_covered owned x y c t))
  | inr f ↦ f
]

module _ {image : List ℕ} {rows other : List Row} (larger : Larger image rows other) where
  past_rows : {X : Type 0} (f : Row → X) (a : ℕ) → length image ≤ a → length (map f rows) ≤ a
  past_rows f a h = omega (arith, length-map rows f, larger.long)

  main_covers : (a : ℕ) → Covers marks (main_at other a) (main_at rows a)
  main_covers a = elim (cases_lt a (length image)) [
    | inl h ↦ larger.main a h
    | inr h ↦ rw (get_or_past (mains rows) a unmarked (past_rows (λ row. row.main) a h)) (marks_laws.order.lowest (main_at other a))
  ]

  handler_covers : (a : ℕ) → Covers marks (handler_at other a) (handler_at rows a)
  handler_covers a = elim (cases_lt a (length image)) [
    | inl h ↦ larger.handler a h
    | inr h ↦ rw (get_or_past (handlers rows) a unmarked (past_rows (λ row. row.handler) a h)) (marks_laws.order.lowest (handler_at other a))
  ]

  spans_cover : (a : ℕ) → Covers spans (spans_at other a) (spans_at rows a)
  spans_cover a = elim (cases_lt a (length image)) [
    | inl h ↦ larger.spans a h
    | inr h ↦ rw (get_or_past (page_spans rows) a None (past_rows spans_of a h)) (spans_laws.order.lowest (spans_at other a))
  ]

  main_marked_grows : (a : ℕ) → MainMarked rows a → MainMarked other a
  main_marked_grows a h = any_grows (main_at other a) (main_at rows a) (main_covers a) h

  handler_marked_grows : (a : ℕ) → HandlerMarked rows a → HandlerMarked other a
  handler_marked_grows a h = any_grows (handler_at other a) (handler_at rows a) (handler_covers a) h

  pub marked_grows : (a : ℕ) → Marked rows a → Marked other a
  marked_grows a h = ⊎_elim (λ k. inl (main_marked_grows a k)) (λ k. inr (handler_marked_grows a k)) h

  misplaced_grows : (a : ℕ) → MisplacedReturn image rows a → MisplacedReturn image other a
  misplaced_grows a h = ⊎_elim
      (λ ret. inl (ret.0, ⊎_elim (λ k. inl (outer_grows (main_at other a) (main_at rows a) (main_covers a) k)) (λ k. inr (outer_grows (handler_at other a) (handler_at rows a) (handler_covers a) k)) ret.1))
      (λ iret. inr (iret.0, ⊎_elim (λ k. inl (main_marked_grows a k)) (λ k. inr (routine_grows (handler_at other a) (handler_at rows a) (handler_covers a) k)) iret.1))
      h

  foreign_grows : (owned : OwnedPages) (a : ℕ) → ForeignPage image owned rows a → ForeignPage image owned other a
  foreign_grows owned a c = record {
    instruction = c.instruction;
    found = c.found;
    reaches = c.reaches;
    foreign = ⊎_elim
        (λ k. inl (main_marked_grows a k.0, outside_grows owned (spans_at other a) (spans_at rows a) (spans_cover a) k.1))
        (λ k. inr (handler_marked_grows a k.0, outside_grows owned (all_spans image other) (all_spans image rows) (summary_mono spans_laws image (page_spans rows) (page_spans other) larger.spans) k.1))
        c.foreign;
  }

  pub causes_grow : CausesGrow image rows other
  causes_grow = record {
    outside = λ a c. record { marked = marked_grows a c.marked; instruction = c.instruction; found = c.found; edge = c.edge; to = c.to; leads = c.leads; outside = c.outside };
    undefined = λ a c. record { marked = marked_grows a c.marked; none = c.none };
    mixed = λ a c. ⊎_elim (λ k. inl (mixed_grows (main_at other a) (main_at rows a) (main_covers a) k)) (λ k. inr (mixed_grows (handler_at other a) (handler_at rows a) (handler_covers a) k)) c;
    misplaced = misplaced_grows;
    writes = λ a c. record { marked = handler_marked_grows a c.marked; instruction = c.instruction; found = c.found; writes = c.writes };
    deep = λ none need suffices. none need (λ a m. suffices a (marked_grows a m));
    foreign = foreign_grows;
  }

-- the smallest rows lie below every ledger
pub surveyed_larger : {image : List ℕ} {owned : OwnedPages} {rows other : List Row} → Surveyed image rows → Ledger image owned other → Larger image rows other
surveyed_larger {rows = rows} {other = other} surveyed ledger = record {
  long = surveyed.long;
  main = surveyed.main.least (mains other) ledger.main;
  handler = surveyed.handler.least (handlers other) ledger.handler;
  spans = surveyed.spans.least (page_spans other) ledger.spans;
}

module _ {image : List ℕ} {owned : OwnedPages} {rows other : List Row} (ledger : Ledger image owned other) (grow : CausesGrow image rows other) where
  no_cause : (a : ℕ) {refusal : Refusal} → CauseAt image rows a refusal → ⊥
  no_cause a (outside c) = ledger.inside a (grow.outside a c)
  no_cause a (undefined _ c) = ledger.defined a (grow.undefined a c)
  no_cause a (mixed _ _ c) = ledger.apart a (grow.mixed a c)
  no_cause a (misplaced _ _ _ c) = ledger.returns a (grow.misplaced a c)
  no_cause a (written _ _ _ _ c) = ledger.keeps a (grow.writes a c)

  no_reason : {refusal : Refusal} → Because image owned rows refusal → ⊥
  no_reason (early a _ _ cause) = no_cause a cause
  no_reason (deep _ c) = grow.deep c (needs other) ledger.needs ledger.shallow
  no_reason (foreign a _ _ _ _ c) = ledger.owns a (grow.foreign owned a c)

pub refused_none : {image : List ℕ} {owned : OwnedPages} {rows : List Row} {refusal : Refusal} → Surveyed image rows → Because image owned rows refusal → NoLedger image owned
refused_none surveyed because other ledger = no_reason ledger (causes_grow (surveyed_larger surveyed ledger)) because

pub deepest_mono : (image x y : List ℕ) → get_or x 0 0 ≤ get_or y 0 0 → get_or x 1 0 ≤ get_or y 1 0 → deepest image x ≤ deepest image y
deepest_mono image x y handler main = go (interruptible image)
  where
    go : (able : Bool) → get_or x 1 0 + cond able (1 + get_or x 0 0) 0 ≤ get_or y 1 0 + cond able (1 + get_or y 0 0) 0
    go true = omega arith
    go false = omega arith

-- no ledger has a smaller depth than the smallest
pub least_depth : {image : List ℕ} {owned wide : OwnedPages} {rows other : List Row} → SmallestLedger image owned rows → Ledger image wide other → depth image rows ≤ depth image other
least_depth {image} {rows = rows} {other = other} smallest ledger =
    let larger = surveyed_larger smallest.surveyed ledger in
    let least = smallest.least (needs other) (λ a m. ledger.needs a (marked_grows larger a m)) in
    deepest_mono image (needs rows) (needs other) (least 0) (least 1)
