-- What the stack and the page registers look like wherever the machine stands, and how each move keeps it. Assumes nothing.
--
--   In              a value lies in an interval
--   Lies            both page registers lie in their spans
--   MainFrames      the main program's stack: outer at the bottom, above it routines, each to return to a main place
--   HandlerFrames   the handler's stack: routines above its outer frame, and that above an interrupted main place
--   Place           one or the other, as an interrupt is in service or not
use Rattle.std.proofs.Common.{◌≡◌, ℕ, suc, ◌+◌, ◌<◌, ◌≤◌, Bool, true, false, cond, ◌⊎◌, List, [], ◌∷◌, length, Option, Some, None, sym, refl, ap, subst, inl, inr, ⊎_elim, arith}
use Rattle.std.proofs.lemmas.Bool.{and_parts, false≢true, or_left, or_right}
use Rattle.std.proofs.lemmas.Bool.Decides.{nat_tests}
use Rattle.words.specs.declared.instruction.Instruction.{Instruction}
use Rattle.words.specs.declared.instruction.Instruction.TheVariants.{Return, ReturnFromInterrupt}
use Rattle.machine.specs.declared.stack.Entry.{Entry}
use Rattle.facts.specs.declared.interval.Interval.{Interval}
use Rattle.facts.specs.declared.marks.FrameMarks.{FrameMarks}
use Rattle.facts.specs.declared.spans.PageSpans.{PageSpans}
use Rattle.facts.specs.Kinds.{Covers}
use Rattle.facts.specs.Marks.{marks}
use Rattle.facts.specs.Spans.{contains, covered, spans}
use Rattle.facts.specs.Successors.{past, enter, resume, Step}
use Rattle.facts.specs.SpansLaws.{spans_laws}
use Rattle.facts.proofs.Summaries.{summary_above}
use Rattle.ledger.specs.declared.owned.OwnedPages.{OwnedPages}
use Rattle.ledger.specs.declared.row.Row.{Row}
use Rattle.ledger.specs.Causes.{instruction_at}
use Rattle.ledger.specs.Interrupts.{interruptible, outermost}
use Rattle.ledger.specs.Ledgers.{Ledger}
use Rattle.ledger.specs.Needs.{depth}
use Rattle.ledger.specs.Rows.{any_frame, main_at, handler_at, spans_at, need_at, all_spans, page_spans, MainMarked, HandlerMarked, Marked}

abbrev pub In : Interval → ℕ → Type 0
In x value = (x.low ≤ value) × (value ≤ x.high)

abbrev pub Lies : Option PageSpans → ℕ → ℕ → Type 0
Lies None r14 r15 = ⊥
Lies (Some x) r14 r15 = In x.r14 r14 × In x.r15 r15

in_contained : (x y : Interval) (value : ℕ) → contains x y ≡ true → In y value → In x value
in_contained x y value p h = let low = h.0 in let high = h.1 in (grind (arith, nat_tests), grind (arith, nat_tests))

pub lies_covered : (x y : Option PageSpans) (r14 r15 : ℕ) → covered x y ≡ true → Lies y r14 r15 → Lies x r14 r15
lies_covered None None r14 r15 p h = h
lies_covered None (Some y) r14 r15 p h = absurd (false≢true p)
lies_covered (Some x) None r14 r15 p h = absurd h
lies_covered (Some x) (Some y) r14 r15 p h =
    let both = and_parts _ _ p in (in_contained x.r14 y.r14 r14 both.0 h.0, in_contained x.r15 y.r15 r15 both.1 h.1)

pub covers_outer : (x y : FrameMarks) → Covers marks x y → y.outer ≡ true → x.outer ≡ true
covers_outer x y p h = grind arith

covers_routine : (x y : FrameMarks) → Covers marks x y → y.routine ≡ true → x.routine ≡ true
covers_routine x y p h = grind arith

-- the frame of a called routine, from any frame
covers_entered : (x y : FrameMarks) → Covers marks x (marks.enter y) → any_frame y ≡ true → x.routine ≡ true
covers_entered x y p h = grind arith

abbrev pub MainFrames : List ℕ → List Row → ℕ → List Entry → Type 0
MainFrames image rows pc [] = ((main_at rows pc).outer ≡ true) × (pc < length image) × (need_at rows pc ≤ need_at rows 1)
MainFrames image rows pc (entry ∷ rest) =
    ((main_at rows pc).routine ≡ true) × (pc < length image) × (need_at rows pc + suc (length rest) ≤ need_at rows 1) × Covers spans (spans_at rows entry.address) (all_spans image rows) × MainFrames image rows entry.address rest

abbrev pub HandlerFrames : List ℕ → List Row → ℕ → ℕ → ℕ → List Entry → Type 0
HandlerFrames image rows r14 r15 pc [] = ⊥
HandlerFrames image rows r14 r15 pc (entry ∷ rest) =
    (pc < length image) × (need_at rows pc + suc (length rest) ≤ depth image rows)
    × ((((handler_at rows pc).outer ≡ true) × Lies (spans_at rows entry.address) r14 r15 × MainFrames image rows entry.address rest)
    ⊎ (((handler_at rows pc).routine ≡ true) × HandlerFrames image rows r14 r15 entry.address rest))

abbrev pub Place : List ℕ → List Row → Bool → ℕ → ℕ → ℕ → List Entry → Type 0
Place image rows true r14 r15 pc stack = HandlerFrames image rows r14 r15 pc stack
Place image rows false r14 r15 pc stack = Lies (spans_at rows pc) r14 r15 × MainFrames image rows pc stack

module _ (image : List ℕ) (rows : List Row) where
  pub main_inside : (pc : ℕ) (stack : List Entry) → MainFrames image rows pc stack → pc < length image
  main_inside pc [] h = h.1
  main_inside pc (entry ∷ rest) h = h.1

  pub main_marked : (pc : ℕ) (stack : List Entry) → MainFrames image rows pc stack → MainMarked rows pc
  main_marked pc [] h = or_left _ _ h.0
  main_marked pc (entry ∷ rest) h = or_right _ _ h.0

  pub main_need : (pc : ℕ) (stack : List Entry) → MainFrames image rows pc stack → need_at rows pc + length stack ≤ need_at rows 1
  main_need pc [] h = omega arith
  main_need pc (entry ∷ rest) h = h.2

  pub handler_inside : (r14 r15 pc : ℕ) (stack : List Entry) → HandlerFrames image rows r14 r15 pc stack → pc < length image
  handler_inside r14 r15 pc [] h = absurd h
  handler_inside r14 r15 pc (entry ∷ rest) h = h.0

  pub handler_marked : (r14 r15 pc : ℕ) (stack : List Entry) → HandlerFrames image rows r14 r15 pc stack → HandlerMarked rows pc
  handler_marked r14 r15 pc [] h = absurd h
  handler_marked r14 r15 pc (entry ∷ rest) h = ⊎_elim (λ k. or_left _ _ k.0) (λ k. or_right _ _ k.0) h.2

  pub handler_need : (r14 r15 pc : ℕ) (stack : List Entry) → HandlerFrames image rows r14 r15 pc stack → need_at rows pc + length stack ≤ depth image rows
  handler_need r14 r15 pc [] h = absurd h
  handler_need r14 r15 pc (entry ∷ rest) h = h.1

  pub main_shift : (a b : ℕ) (stack : List Entry) → Covers marks (main_at rows b) (main_at rows a) → need_at rows b ≤ need_at rows a → b < length image → MainFrames image rows a stack → MainFrames image rows b stack
  main_shift a b [] c n l h = (covers_outer (main_at rows b) (main_at rows a) c h.0, l, omega (arith, h.2))
  main_shift a b (entry ∷ rest) c n l h = (covers_routine (main_at rows b) (main_at rows a) c h.0, l, omega (arith, h.2), h.3, h.4)

  pub handler_shift : (r14 r15 a b : ℕ) (stack : List Entry) → Covers marks (handler_at rows b) (handler_at rows a) → need_at rows b ≤ need_at rows a → b < length image → HandlerFrames image rows r14 r15 a stack → HandlerFrames image rows r14 r15 b stack
  handler_shift r14 r15 a b [] c n l h = h
  handler_shift r14 r15 a b (entry ∷ rest) c n l h =
      (l, omega (arith, h.1), ⊎_elim (λ k. inl (covers_outer (handler_at rows b) (handler_at rows a) c k.0, k.1, k.2)) (λ k. inr (covers_routine (handler_at rows b) (handler_at rows a) c k.0, k.1)) h.2)

  pub place_inside : (service : Bool) (r14 r15 pc : ℕ) (stack : List Entry) → Place image rows service r14 r15 pc stack → pc < length image
  place_inside true r14 r15 pc stack h = handler_inside r14 r15 pc stack h
  place_inside false r14 r15 pc stack h = main_inside pc stack h.1

  pub place_marked : (service : Bool) (r14 r15 pc : ℕ) (stack : List Entry) → Place image rows service r14 r15 pc stack → Marked rows pc
  place_marked true r14 r15 pc stack h = inr (handler_marked r14 r15 pc stack h)
  place_marked false r14 r15 pc stack h = inl (main_marked pc stack h.1)

  pub place_need : (service : Bool) (r14 r15 pc : ℕ) (stack : List Entry) → Place image rows service r14 r15 pc stack → need_at rows pc + length stack ≤ depth image rows
  place_need true r14 r15 pc stack h = handler_need r14 r15 pc stack h
  place_need false r14 r15 pc stack h = omega (arith, main_need pc stack h.1)

module _ {image : List ℕ} {owned : OwnedPages} {rows : List Row} (ledger : Ledger image owned rows) where
  -- past a word; the page registers move as its spans do
  pub main_past : (i : Instruction) (a b : ℕ) (stack : List Entry) (r14 r15 : ℕ) → Step image past a i b → Lies (spans.past i (spans_at rows a)) r14 r15 → MainFrames image rows a stack → Place image rows false r14 r15 b stack
  main_past i a b stack r14 r15 step lies h = (
    lies_covered (spans_at rows b) (spans.past i (spans_at rows a)) r14 r15 (ledger.spans.flows a past i b step) lies,
    main_shift image rows a b stack (ledger.main.flows a past i b step) (omega (arith, ledger.needs a (inl (main_marked image rows a stack h)) past i b step)) step.to h,
  )

  pub handler_past : (i : Instruction) (a b : ℕ) (stack : List Entry) (r14 r15 : ℕ) → Step image past a i b → HandlerFrames image rows r14 r15 a stack → HandlerFrames image rows r14 r15 b stack
  handler_past i a b stack r14 r15 step h =
      handler_shift image rows r14 r15 a b stack (ledger.handler.flows a past i b step) (omega (arith, ledger.needs a (inr (handler_marked image rows r14 r15 a stack h)) past i b step)) step.to h

  -- where the page registers lie, all spans lie about them
  lies_anywhere : (a : ℕ) (r14 r15 : ℕ) → a < length image → Lies (spans_at rows a) r14 r15 → Lies (all_spans image rows) r14 r15
  lies_anywhere a r14 r15 inside h =
      lies_covered (all_spans image rows) (spans_at rows a) r14 r15 (summary_above spans_laws image (page_spans rows) a inside refl) h

  pub handler_lies : (r14 r15 pc : ℕ) (stack : List Entry) → HandlerFrames image rows r14 r15 pc stack → Lies (all_spans image rows) r14 r15
  handler_lies r14 r15 pc [] h = absurd h
  handler_lies r14 r15 pc (entry ∷ rest) h = ⊎_elim
      (λ k. lies_anywhere entry.address r14 r15 (main_inside image rows entry.address rest k.2) k.1)
      (λ k. handler_lies r14 r15 entry.address rest k.1)
      h.2

  resumed_covers : (x s y : Option PageSpans) (r14 r15 : ℕ) → Covers spans x (spans.resume s y) → Lies y r14 r15 → Covers spans x s
  resumed_covers x s None r14 r15 c h = absurd h
  resumed_covers x s (Some y) r14 r15 c h = c

  -- into a routine, to come back to the address after the call
  module _ (i : Instruction) (a b next : ℕ) (stack : List Entry) (r14 r15 : ℕ) (call : Step image enter a i b) (back : Step image resume a i next) (entry : Entry) (to : entry.address ≡ next) where
    main_called : Lies (spans_at rows a) r14 r15 → MainFrames image rows a stack → Place image rows false r14 r15 b (entry ∷ stack)
    main_called lies h =
        let marked = main_marked image rows a stack h in
        let need = main_need image rows a stack h in
        let entered = ledger.needs a (inl marked) enter i b call in
        let resumed = ledger.needs a (inl marked) resume i next back in (
          lies_covered (spans_at rows b) (spans_at rows a) r14 r15 (ledger.spans.flows a enter i b call) lies,
          (
            covers_entered (main_at rows b) (main_at rows a) (ledger.main.flows a enter i b call) marked,
            call.to,
            omega arith,
            subst (λ n. Covers spans (spans_at rows n) (all_spans image rows)) (sym to) (resumed_covers (spans_at rows next) (all_spans image rows) (spans_at rows a) r14 r15 (ledger.spans.flows a resume i next back) lies),
            subst (λ n. MainFrames image rows n stack) (sym to) (main_shift image rows a next stack (ledger.main.flows a resume i next back) (omega arith) back.to h),
          ),
        )

    handler_called : HandlerFrames image rows r14 r15 a stack → HandlerFrames image rows r14 r15 b (entry ∷ stack)
    handler_called h =
        let marked = handler_marked image rows r14 r15 a stack h in
        let need = handler_need image rows r14 r15 a stack h in
        let entered = ledger.needs a (inr marked) enter i b call in
        let resumed = ledger.needs a (inr marked) resume i next back in (
          call.to,
          omega arith,
          inr (
            covers_entered (handler_at rows b) (handler_at rows a) (ledger.handler.flows a enter i b call) marked,
            subst (λ n. HandlerFrames image rows r14 r15 n stack) (sym to) (handler_shift image rows r14 r15 a next stack (ledger.handler.flows a resume i next back) (omega arith) back.to h),
          ),
        )

    pub place_called : (service : Bool) → Place image rows service r14 r15 a stack → Place image rows service r14 r15 b (entry ∷ stack)
    place_called true h = handler_called h
    place_called false h = main_called h.0 h.1

  -- out of a routine
  pub place_returned : (service : Bool) (a : ℕ) (stack : List Entry) (r14 r15 : ℕ) → instruction_at image a ≡ Some Return → Place image rows service r14 r15 a stack → (entry : Entry) × (rest : List Entry) × (stack ≡ entry ∷ rest) × (entry.address < length image) × Place image rows service r14 r15 entry.address rest
  place_returned true a [] r14 r15 e h = absurd h
  place_returned true a (entry ∷ rest) r14 r15 e h = elim h.2 [
    | inl k ↦ absurd (ledger.returns a (inl (e, inr k.0)))
    | inr k ↦ (entry, rest, refl, handler_inside image rows r14 r15 entry.address rest k.1, k.1)
  ]
  place_returned false a [] r14 r15 e h = absurd (ledger.returns a (inl (e, inl h.1.0)))
  place_returned false a (entry ∷ rest) r14 r15 e h = (
    entry,
    rest,
    refl,
    main_inside image rows entry.address rest h.1.4,
    (lies_covered (spans_at rows entry.address) (all_spans image rows) r14 r15 h.1.3 (lies_anywhere a r14 r15 h.1.1 h.0), h.1.4),
  )

  -- out of the handler
  pub place_resumed : (service : Bool) (a : ℕ) (stack : List Entry) (r14 r15 : ℕ) → instruction_at image a ≡ Some ReturnFromInterrupt → Place image rows service r14 r15 a stack → (service ≡ true) × (entry : Entry) × (rest : List Entry) × (stack ≡ entry ∷ rest) × (entry.address < length image) × Place image rows false r14 r15 entry.address rest
  place_resumed true a [] r14 r15 e h = absurd h
  place_resumed true a (entry ∷ rest) r14 r15 e h = elim h.2 [
    | inl k ↦ (refl, entry, rest, refl, main_inside image rows entry.address rest k.2, (k.1, k.2))
    | inr k ↦ absurd (ledger.returns a (inr (e, inr k.0)))
  ]
  place_resumed false a stack r14 r15 e h = absurd (ledger.returns a (inr (e, inl (main_marked image rows a stack h.1))))

  starts_outer : 0 < length image → interruptible image ≡ true → (handler_at rows 0).outer ≡ true
  starts_outer some e = covers_outer (handler_at rows 0) outermost (subst (λ b. Covers marks (handler_at rows 0) (cond b outermost marks.bottom)) e (ledger.handler.begins some)) refl

  -- into the handler, to come back to this word
  pub place_interrupted : (a : ℕ) (stack : List Entry) (r14 r15 : ℕ) (entry : Entry) → entry.address ≡ a → interruptible image ≡ true → Place image rows false r14 r15 a stack → Place image rows true r14 r15 0 (entry ∷ stack)
  place_interrupted a stack r14 r15 entry to e h =
      let inside = main_inside image rows a stack h.1 in
      let need = main_need image rows a stack h.1 in
      let deep : depth image rows ≡ need_at rows 1 + (1 + need_at rows 0) = ap (λ b. need_at rows 1 + cond b (1 + need_at rows 0) 0) e in
      (omega arith, omega arith, inl (starts_outer (omega arith) e, subst (λ n. Lies (spans_at rows n) r14 r15) (sym to) h.0, subst (λ n. MainFrames image rows n stack) (sym to) h.1))
