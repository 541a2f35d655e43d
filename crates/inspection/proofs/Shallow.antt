-- Needs that are enough as far as the cap are enough, where the depth keeps to the stack. Assumes nothing.
use Rattle.std.proofs.Common.{◌≡◌, ℕ, ◌+◌, ◌<◌, ◌≤◌, Bool, true, false, cond, not, ◌&&◌, ◌||◌, leb, List, length, get_or, sym, refl, ap, ◌∙◌, inl, inr, ⊎_elim, arith}
use Rattle.std.proofs.lemmas.Bool.{both_ways, cases_Bool, le-leb, leb-true, or_cases, or_left, or_right, false≢true}
use Rattle.facts.specs.declared.marks.FrameMarks.{FrameMarks}
use Rattle.facts.specs.Marks.{marks, unmarked, any_frame}
use Rattle.facts.specs.Tables.{fact_at, Smallest, known}
use Rattle.facts.proofs.Lasting.{marks_laws}
use Rattle.facts.proofs.Theorems.{smallest_laws}
use Rattle.ledger.specs.Interrupts.{interruptible, outermost, handler_start}
use Rattle.ledger.specs.Needs.{deepest}
use Rattle.inspection.specs.Needing.{marked_in, Allowed, Settled}

pub known_marked : (m : FrameMarks) → known marks m ≡ any_frame m
known_marked m = go m.outer m.routine
  where
    go : (o r : Bool) → not ((false || not o) && (false || not r)) ≡ (o || r)
    go true true = refl
    go true false = refl
    go false true = refl
    go false false = refl

module _ (image : List ℕ) (mains handlers : List FrameMarks) (need : List ℕ) (settled : Settled image (marked_in mains handlers) need) where
  -- no address that is reached from a start needs more than the start
  reached_below :
      (table : List FrameMarks) (start : ℕ) (given : FrameMarks)
      → ((a : ℕ) → any_frame (fact_at marks table a) ≡ true → marked_in mains handlers a ≡ true)
      → Smallest marks image start given table
      → get_or need start 0 ≤ 16
      → (a : ℕ)
      → a < length image
      → any_frame (fact_at marks table a) ≡ true
      → get_or need a 0 ≤ get_or need start 0
  reached_below table start given either smallest few a inside mark =
      leb-true (get_or need a 0) (get_or need start 0) ((smallest_laws marks_laws).induction image start given table smallest
      (λ b. leb (get_or need b 0) (get_or need start 0))
      (λ h. le-leb (get_or need start 0) (get_or need start 0) (omega arith))
      (λ edge b i c step m t. le-leb (get_or need c 0) (get_or need start 0) (omega (arith, settled.enough b step.from (either b (sym (known_marked (fact_at marks table b)) ∙ m)) edge i c step, leb-true (get_or need b 0) (get_or need start 0) t)))
      a inside (known_marked (fact_at marks table a) ∙ mark))

  module _ (main : Smallest marks image 1 outermost mains) (handler : Smallest marks image 0 (handler_start image) handlers) (shallow : deepest image need ≤ 16) where
    main_few : get_or need 1 0 ≤ 16
    main_few = omega arith

    by_main : (a : ℕ) → a < length image → any_frame (fact_at marks mains a) ≡ true → get_or need a 0 ≤ 16
    by_main a inside mark = omega (arith, reached_below mains 1 outermost (λ b m. or_left _ _ m) main main_few a inside mark, main_few)

    handler_few : interruptible image ≡ true → get_or need 0 0 ≤ 16
    handler_few able = go (interruptible image) able shallow
      where
        go : (b : Bool) → b ≡ true → get_or need 1 0 + cond b (1 + get_or need 0 0) 0 ≤ 16 → get_or need 0 0 ≤ 16
        go true e h = omega arith
        go false e h = absurd (false≢true e)

    by_handler : (a : ℕ) → a < length image → any_frame (fact_at marks handlers a) ≡ true → get_or need a 0 ≤ 16
    by_handler a inside mark = elim (cases_Bool (interruptible image)) [
      | inl able ↦ omega (arith, reached_below handlers 0 (handler_start image) (λ b m. or_right _ _ m) handler (handler_few able) a inside mark, handler_few able)
      | inr idle ↦ absurd (both_ways (any_frame (fact_at marks handlers a)) (ap any_frame ((smallest_laws marks_laws).nothing image 0 (handler_start image) handlers handler (λ h. ap (λ b. cond b outermost unmarked) idle) a inside)) mark)
    ]

    pub allowed : Allowed image (marked_in mains handlers) need
    allowed a mark edge i b step =
        let few : get_or need a 0 ≤ 16 = ⊎_elim (by_main a step.from) (by_handler a step.from) (or_cases _ _ mark) in
        omega (arith, settled.enough a step.from mark edge i b step)
