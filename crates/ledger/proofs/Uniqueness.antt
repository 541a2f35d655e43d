-- The smallest ledger is one, and stays the smallest where more pages are owned. Assumes nothing.
use Rattle.std.proofs.Common.{◌≡◌, ℕ, ◌+◌, ◌*◌, ◌<◌, ◌≤◌, true, false, List, length, get_or, Option, Some, None, sym, refl, ap, ◌∙◌, subst, inl, inr, ⊎_elim, arith}
use Rattle.std.proofs.lemmas.List.{ext_get_or}
use Rattle.std.proofs.lemmas.Bool.{and_from, and_parts, both_ways, cases_Bool, cond-true, le-leb, leb-true}
use Rattle.facts.specs.declared.spans.PageSpans.{PageSpans}
use Rattle.facts.specs.MarksLaws.{marks_laws}
use Rattle.facts.specs.SpansLaws.{spans_laws}
use Rattle.facts.proofs.Theorems.{smallest_laws}
use Rattle.ledger.specs.declared.owned.OwnedPages.{OwnedPages}
use Rattle.ledger.specs.declared.row.Row.{Row}
use Rattle.ledger.specs.Causes.{ForeignPage}
use Rattle.ledger.specs.Interrupts.{outermost, handler_start}
use Rattle.ledger.specs.Laws.{LedgerLaws}
use Rattle.ledger.specs.Ledgers.{zero_spans}
use Rattle.ledger.specs.Pages.{inside_owned}
use Rattle.ledger.specs.Rows.{any_frame, blank_row, mains, handlers, page_spans, needs, spans_of}
use Rattle.ledger.specs.Verdicts.{SmallestLedger}
use Rattle.ledger.proofs.Growing.{causes_grow, marked_grows, surveyed_larger}
use Rattle.ledger.proofs.RowFacts.{main_at_lem, handler_at_lem, spans_at_lem, need_at_lem}

same_spans : (x y : PageSpans) → Some x ≡ Some y → (x.r14 ≡ y.r14) × (x.r15 ≡ y.r15)
same_spans x y e = (cc, cc)

same_row : (x y : Row) → x.main ≡ y.main → x.handler ≡ y.handler → x.r14 ≡ y.r14 → x.r15 ≡ y.r15 → x.need ≡ y.need → x ≡ y
same_row x y m h low high n = λ i. record { main = m i; handler = h i; r14 = low i; r15 = high i; need = n i }

module _ {image : List ℕ} {owned : OwnedPages} {rows other : List Row} (one : SmallestLedger image owned rows) (two : SmallestLedger image owned other) where
  same_need : (a : ℕ) → (get_or rows a blank_row).need ≡ (get_or other a blank_row).need
  same_need a =
      let up = marked_grows (surveyed_larger one.surveyed two.ledger) in
      let down = marked_grows (surveyed_larger two.surveyed one.ledger) in
      let here = need_at_lem rows a in
      let there = need_at_lem other a in
      let p = one.least (needs other) (λ b m. two.ledger.needs b (up b m)) a in
      let q = two.least (needs rows) (λ b m. one.ledger.needs b (down b m)) a in
      omega arith

  module _ (a : ℕ) (inside : a < length image) where
    same_main : (get_or rows a blank_row).main ≡ (get_or other a blank_row).main
    same_main = sym (main_at_lem rows a) ∙ (smallest_laws marks_laws).unique image 1 outermost (mains rows) (mains other) one.surveyed.main two.surveyed.main a inside ∙ main_at_lem other a

    same_handler : (get_or rows a blank_row).handler ≡ (get_or other a blank_row).handler
    same_handler = sym (handler_at_lem rows a) ∙ (smallest_laws marks_laws).unique image 0 (handler_start image) (handlers rows) (handlers other) one.surveyed.handler two.surveyed.handler a inside ∙ handler_at_lem other a

    same_reach : spans_of (get_or rows a blank_row) ≡ spans_of (get_or other a blank_row)
    same_reach = sym (spans_at_lem rows a) ∙ (smallest_laws spans_laws).unique image 1 zero_spans (page_spans rows) (page_spans other) one.surveyed.spans two.surveyed.spans a inside ∙ spans_at_lem other a

    same_registers : ((get_or rows a blank_row).r14 ≡ (get_or other a blank_row).r14) × ((get_or rows a blank_row).r15 ≡ (get_or other a blank_row).r15)
    same_registers = elim (cases_Bool (any_frame (get_or rows a blank_row).main)) [
      | inl t ↦
          same_spans _ _ (sym (cond-true _ _ _ t) ∙ same_reach ∙ cond-true _ _ _ (ap any_frame (sym same_main) ∙ t))
      | inr f ↦
          let here = one.spanless a (λ m. both_ways _ f (ap any_frame (sym (main_at_lem rows a)) ∙ m)) in
          let there = two.spanless a (λ m. both_ways _ f (ap any_frame (same_main ∙ sym (main_at_lem other a)) ∙ m)) in
          (here.0 ∙ sym there.0, here.1 ∙ sym there.1)
    ]

    same_rows : get_or rows a blank_row ≡ get_or other a blank_row
    same_rows = same_row (get_or rows a blank_row) (get_or other a blank_row) same_main same_handler same_registers.0 same_registers.1 (same_need a)

  unique : rows ≡ other
  unique = ext_get_or blank_row rows other (one.surveyed.long ∙ sym two.surveyed.long) (λ a h. same_rows a (subst (λ n. a < n) one.surveyed.long h))

inside_wider : (owned wide : OwnedPages) (s : Option PageSpans) → wide.first ≤ owned.first → owned.last ≤ wide.last → inside_owned owned s ≡ true → inside_owned wide s ≡ true
inside_wider owned wide None low high h = refl
inside_wider owned wide (Some s) low high h =
    let ends = and_parts _ _ h in
    and_from _ _
    (le-leb wide.first (256 * s.r15.low + s.r14.low) (omega (arith, leb-true owned.first (256 * s.r15.low + s.r14.low) ends.0)))
    (le-leb (256 * s.r15.high + s.r14.high) wide.last (omega (arith, leb-true (256 * s.r15.high + s.r14.high) owned.last ends.1)))

module _ (image : List ℕ) (owned wide : OwnedPages) (rows : List Row) (low : wide.first ≤ owned.first) (high : owned.last ≤ wide.last) where
  outside_narrower : (s : Option PageSpans) → inside_owned wide s ≡ false → inside_owned owned s ≡ false
  outside_narrower s out = elim (cases_Bool (inside_owned owned s)) [
    | inl t ↦ absurd (both_ways _ out (inside_wider owned wide s low high t))
    | inr f ↦ f
  ]

  foreign_narrower : (a : ℕ) → ForeignPage image wide rows a → ForeignPage image owned rows a
  foreign_narrower a c = record {
    instruction = c.instruction;
    found = c.found;
    reaches = c.reaches;
    foreign = ⊎_elim (λ k. inl (k.0, outside_narrower _ k.1)) (λ k. inr (k.0, outside_narrower _ k.1)) c.foreign;
  }

  wider : SmallestLedger image owned rows → SmallestLedger image wide rows
  wider smallest = let ledger = smallest.ledger in record {
    ledger = record {
      long = ledger.long;
      main = ledger.main;
      handler = ledger.handler;
      spans = ledger.spans;
      inside = ledger.inside;
      defined = ledger.defined;
      apart = ledger.apart;
      returns = ledger.returns;
      keeps = ledger.keeps;
      owns = λ a c. ledger.owns a (foreign_narrower a c);
      needs = ledger.needs;
      shallow = ledger.shallow;
    };
    surveyed = smallest.surveyed;
    least = smallest.least;
    spanless = smallest.spanless;
    blank = smallest.blank;
  }

pub ledger_laws : LedgerLaws
ledger_laws = record {
  grow = λ image rows other larger. causes_grow larger;
  unique = λ image owned rows other one two. unique one two;
  wider = wider;
}
