-- The verdict on an image that is written out, by computation. Assumes nothing.
--
--   needs_found   what two rounds, from high addresses to low, make of no needs
--   Computed      the tests by which the facts are the smallest, the needs the least, and no cause from 5 to 9 holds
use Rattle.std.proofs.Common.{◌≡◌, ℕ, zero, suc, ◌+◌, ◌<◌, ◌≤◌, min, max, Bool, true, false, cond, not, ◌||◌, eqb, leb, List, map, length, get_or, Some, None, Option, refl, sym, ap, ◌∙◌, subst, inl, inr, ⊎_elim, arith}
use Rattle.std.proofs.lemmas.List.{ext_get_or, get_or_past, length-map}
use Rattle.std.proofs.lemmas.Bool.{both_ways, cases_lt, eqb-true, le-leb, leb-true, not_from_true, or_cases, false≢true}
use Rattle.std.specs.List.{range_with_len}
use Rattle.refusals.specs.declared.Refusal.{Refusal}
use Rattle.words.specs.declared.instruction.Instruction.{Instruction}
use Rattle.words.specs.Decoding.{instruction_of}
use Rattle.facts.specs.declared.marks.FrameMarks.{FrameMarks}
use Rattle.facts.specs.declared.spans.PageSpans.{PageSpans}
use Rattle.facts.specs.Marks.{marks, unmarked}
use Rattle.facts.specs.Spans.{spans}
use Rattle.facts.specs.Successors.{Edge, successors, within}
use Rattle.facts.specs.Tables.{Smallest, fact_at, summary}
use Rattle.facts.proofs.Computing.{every, every_below, every_step, step_tested, closes, raise, two_rounds, Under, raise_under, nothing_under, smallest_computed}
use Rattle.facts.proofs.Lasting.{marks_laws}
use Rattle.facts.specs.SpansLaws.{spans_laws}
use Rattle.ledger.specs.declared.owned.OwnedPages.{OwnedPages}
use Rattle.ledger.specs.declared.row.Row.{Row}
use Rattle.ledger.specs.Causes.{instruction_at}
use Rattle.ledger.specs.Interrupts.{interruptible, outermost, handler_start}
use Rattle.ledger.specs.Ledgers.{zero_spans}
use Rattle.ledger.specs.Needs.{pushes, deepest}
use Rattle.ledger.specs.Rows.{mains, handlers, page_spans, needs}
use Rattle.inspection.specs.Facts.{Facts}
use Rattle.inspection.specs.First.{NoneBefore}
use Rattle.inspection.specs.Inspects.{Passes, Refused}
use Rattle.inspection.specs.Looking.{cause_in, foreign_of, foreign_in}
use Rattle.inspection.specs.Needing.{cap, needing, need_of, called_need, marked_in, Allowed, Asks, Settled}
use Rattle.inspection.specs.Recording.{row_in, Records}
use Rattle.inspection.proofs.Asking.{asks, asks_none}
use Rattle.inspection.proofs.Deciding.{passes, caused_foreign}
use Rattle.inspection.proofs.Lifting.{needing_laws}
use Rattle.inspection.proofs.Recorded.{record_of, facts_recorded, main_recorded, handler_recorded, need_recorded, spans_recorded}
use Rattle.inspection.proofs.Verdicts.{refused}

abbrev pub is_none : Option Refusal → Bool
is_none None = true
is_none (Some refusal) = false

none_before : (n : ℕ) (cause : ℕ → Option Refusal) → every n (λ a. is_none (cause a)) ≡ true → NoneBefore n cause
none_before n cause t a h = go (cause a) (every_below n (λ b. is_none (cause b)) t a h)
  where
    go : (found : Option Refusal) → is_none found ≡ true → found ≡ None
    go None e = refl
    go (Some refusal) e = absurd (false≢true e)

abbrev pub main_found : List ℕ → List FrameMarks
main_found image = two_rounds marks image 1 outermost

abbrev pub handler_found : List ℕ → List FrameMarks
handler_found image = two_rounds marks image 0 (handler_start image)

abbrev pub spans_found : List ℕ → List (Option PageSpans)
spans_found image = two_rounds spans image 1 zero_spans

abbrev pub marked_found : List ℕ → ℕ → Bool
marked_found image = marked_in (main_found image) (handler_found image)

-- what the successors of an address ask for
abbrev pub asked : List ℕ → List ℕ → ℕ → Option Instruction → ℕ
asked image need a None = 0
asked image need a (Some i) =
    max (max (need_of need (within (length image) (successors a i)).next) (need_of need (within (length image) (successors a i)).target)) (max (called_need need (within (length image) (successors a i)).routine) (need_of need (within (length image) (successors a i)).resume))

abbrev pub ask : List ℕ → (ℕ → Bool) → ℕ → List ℕ → List ℕ
ask image marked a need = cond (marked a) (raise needing a (asked image need a (instruction_of (get_or image a 0))) need) need

abbrev pub ask_down : List ℕ → (ℕ → Bool) → ℕ → List ℕ → List ℕ
ask_down image marked zero need = need
ask_down image marked (suc n) need = ask_down image marked n (ask image marked n need)

abbrev pub needs_found : List ℕ → List ℕ
needs_found image =
    ask_down image (marked_found image) (length image) (ask_down image (marked_found image) (length image) (map (λ word. 0) image))

-- what one step asks for is found
abbrev pub suffices : List ℕ → Edge → ℕ → Instruction → ℕ → Bool
suffices image edge a i b = not (marked_found image a) || leb (min cap (pushes edge + get_or (needs_found image) b 0)) (get_or (needs_found image) a 0)

abbrev pub rows_found : List ℕ → List Row
rows_found image = map (row_in (main_found image) (handler_found image) (spans_found image) (needs_found image)) (range_with_len 0 (length image))

-- cause 11
abbrev pub foreign_found : List ℕ → OwnedPages → ℕ → Option Refusal
foreign_found image owned = foreign_in image owned (main_found image) (handler_found image) (spans_found image) (summary spans image (spans_found image))

pub record Computed (image : List ℕ) : Type 0 where
  pub two : 1 < length image
  pub longs : (length (main_found image) ≡ length image) × (length (handler_found image) ≡ length image) × (length (needs_found image) ≡ length image)
  pub mains : closes marks image 1 outermost (main_found image) ≡ true
  pub handlers : closes marks image 0 (handler_start image) (handler_found image) ≡ true
  pub spanned : closes spans image 1 zero_spans (spans_found image) ≡ true
  pub enough : every_step image (suffices image) ≡ true
  pub blank : every (length image) (λ a. marked_found image a || eqb (get_or (needs_found image) a 0) 0) ≡ true
  pub clear : every (length image) (λ a. is_none (cause_in image (main_found image) (handler_found image) a)) ≡ true

-- a list of needs that is enough stays above what is asked
module _ (image : List ℕ) (marked : ℕ → Bool) (other : List ℕ) (allowed : Allowed image marked other) where
  ask_under : (need : List ℕ) (a : ℕ) → a < length image → Under needing need other → Under needing (ask image marked a need) other
  ask_under need a h under = go (marked a) refl
    where
      answer : (found : Option Instruction) → instruction_of (get_or image a 0) ≡ found → Asks image need a (asked image need a found)
      answer None e = asks_none image need a e
      answer (Some i) e = asks image need a i e h _ refl

      go : (b : Bool) → marked a ≡ b → Under needing (cond b (raise needing a (asked image need a (instruction_of (get_or image a 0))) need) need) other
      go true m = raise_under needing_laws need a _ (λ n. get_or other n 0) (le-leb _ _ ((answer (instruction_of (get_or image a 0)) refl).least (get_or other a 0) (λ edge i b step. omega (arith, allowed a m edge i b step, leb-true (get_or need b 0) (get_or other b 0) (under b))))) under
      go false m = under

  down_under : (n : ℕ) (need : List ℕ) → n ≤ length image → Under needing need other → Under needing (ask_down image marked n need) other
  down_under zero need h under = under
  down_under (suc n) need h under = down_under n _ (omega arith) (ask_under need n (omega arith) under)

module _ {image : List ℕ} (computed : Computed image) where
  recorded : Records (length image) (main_found image) (handler_found image) (spans_found image) (needs_found image) (rows_found image)
  recorded = record_of (length image) (main_found image) (handler_found image) (spans_found image) (needs_found image)

  main_smallest : Smallest marks image 1 outermost (main_found image)
  main_smallest = smallest_computed marks_laws image 1 outermost computed.two computed.mains

  handler_smallest : Smallest marks image 0 (handler_start image) (handler_found image)
  handler_smallest = smallest_computed marks_laws image 0 (handler_start image) (omega (arith, computed.two)) computed.handlers

  spans_smallest : Smallest spans image 1 zero_spans (spans_found image)
  spans_smallest = smallest_computed spans_laws image 1 zero_spans computed.two computed.spanned

  facts_found : Facts image (interruptible image) (rows_found image) (summary spans image (spans_found image))
  facts_found = facts_recorded recorded main_smallest spans_smallest handler_smallest

  -- the lists that the rows hold
  rows_long : length (rows_found image) ≡ length image
  rows_long = recorded.long

  mains_are : mains (rows_found image) ≡ main_found image
  mains_are = ext_get_or unmarked _ _ (length-map (rows_found image) (λ row. row.main) ∙ rows_long ∙ sym computed.longs.0) (λ a h. main_recorded recorded a (omega (arith, length-map (rows_found image) (λ row. row.main), rows_long)))

  handlers_are : handlers (rows_found image) ≡ handler_found image
  handlers_are = ext_get_or unmarked _ _ (length-map (rows_found image) (λ row. row.handler) ∙ rows_long ∙ sym computed.longs.1) (λ a h. handler_recorded recorded a (omega (arith, length-map (rows_found image) (λ row. row.handler), rows_long)))

  needs_are : needs (rows_found image) ≡ needs_found image
  needs_are = ext_get_or 0 _ _ (length-map (rows_found image) (λ row. row.need) ∙ rows_long ∙ sym computed.longs.2) (λ a h. need_recorded recorded a (omega (arith, length-map (rows_found image) (λ row. row.need), rows_long)))

  marked_are : marked_in (mains (rows_found image)) (handlers (rows_found image)) ≡ marked_found image
  marked_are = λ j. marked_in (mains_are j) (handlers_are j)

  clear_computed : NoneBefore (length image) (cause_in image (mains (rows_found image)) (handlers (rows_found image)))
  clear_computed a h = (λ j. cause_in image (mains_are j) (handlers_are j) a) ∙ none_before (length image) (cause_in image (main_found image) (handler_found image)) computed.clear a h

  settled_found : Settled image (marked_found image) (needs_found image)
  settled_found = record {
    enough = λ a h m edge i b step. ⊎_elim
        (λ n. absurd (both_ways _ (not_from_true _ m) n))
        (λ t. leb-true _ _ t)
        (or_cases _ _ (step_tested image (suffices image) computed.enough edge a i b step));
    least = λ other allowed a h.
        let first = down_under image (marked_found image) other allowed (length image) _ (omega arith) (λ n. nothing_under needing_laws image (get_or other n 0) n) in
        leb-true _ _ (down_under image (marked_found image) other allowed (length image) _ (omega arith) first a);
    blank = λ a e. elim (cases_lt a (length image)) [
      | inl h ↦ ⊎_elim (λ m. absurd (both_ways _ e m)) (λ z. eqb-true _ 0 z) (or_cases _ _ (every_below (length image) (λ b. marked_found image b || eqb (get_or (needs_found image) b 0) 0) computed.blank a h))
      | inr h ↦ get_or_past (needs_found image) a 0 (omega (arith, computed.longs.2))
    ];
  }

  settled_computed : Settled image (marked_in (mains (rows_found image)) (handlers (rows_found image))) (needs (rows_found image))
  settled_computed = subst (λ marked. Settled image marked (needs (rows_found image))) (sym marked_are) (subst (Settled image (marked_found image)) (sym needs_are) settled_found)

  module _ (owned : OwnedPages) (few : deepest image (needs_found image) ≤ 16) where
    few_computed : deepest image (needs (rows_found image)) ≤ 16
    few_computed = subst (λ need. deepest image need ≤ 16) (sym needs_are) few

    foreign_is : (a : ℕ) → a < length image → foreign_in image owned (mains (rows_found image)) (handlers (rows_found image)) (page_spans (rows_found image)) (summary spans image (spans_found image)) a ≡ foreign_found image owned a
    foreign_is a h = λ j. foreign_of a owned (instruction_at image a) (fact_at marks (mains_are j) a) (fact_at marks (handlers_are j) a) (spans_recorded recorded main_smallest spans_smallest a h j) (summary spans image (spans_found image))

    pub passes_computed : every (length image) (λ a. is_none (foreign_found image owned a)) ≡ true → Passes image owned (rows_found image) (deepest image (needs_found image))
    passes_computed t =
        subst (Passes image owned (rows_found image)) (ap (deepest image) needs_are)
        (passes owned rows_long facts_found clear_computed settled_computed few_computed (λ a h. foreign_is a h ∙ none_before (length image) (foreign_found image owned) t a h))

    pub refused_computed : {refusal : Refusal} (at : ℕ) → at < length image → every at (λ a. is_none (foreign_found image owned a)) ≡ true → foreign_found image owned at ≡ Some refusal → Refused image owned refusal
    refused_computed at inner t here =
        refused (caused_foreign owned rows_long facts_found clear_computed settled_computed few_computed (record { address = at; inside = inner; before = λ a h. foreign_is a (omega arith) ∙ none_before at (foreign_found image owned) t a h; here = foreign_is at inner ∙ here }))
