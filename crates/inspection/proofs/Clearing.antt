-- What the search for the causes 5 to 9 finds, or does not find, at an address. Assumes nothing.
use Rattle.std.proofs.Common.{◌≡◌, ℕ, Bool, true, false, cond, not, ◌&&◌, ◌||◌, ltb, ◌⊎◌, List, length, ℤ, pos, negsuc, Some, None, Option, sym, refl, ap, ◌∙◌, subst, inl, inr, ⊎_elim}
use Rattle.std.proofs.lemmas.Bool.{and_from, and_parts, both_ways, cond-false, eqb-true, eq-eqb, false≢true, not-true, or_cases, or_left, or_right}
use Rattle.std.proofs.lemmas.Option.{none-some}
use Rattle.refusals.specs.declared.Refusal.{Refusal}
use Rattle.refusals.specs.declared.Refusal.TheVariants.{PageRegisterWritten}
use Rattle.words.specs.declared.instruction.Instruction.{Instruction}
use Rattle.words.specs.declared.instruction.Instruction.TheVariants.{Register, Immediate, Rotate, Flag, Direct, Indirect, BranchIf, CallIf, Call, Return, ReturnFromInterrupt, Branch}
use Rattle.words.specs.Addresses.{inside_image}
use Rattle.facts.specs.declared.successors.Successors.{Successors}
use Rattle.facts.specs.Spans.{is}
use Rattle.facts.specs.Successors.{Edge, past, enter, resume, Leads, successors}
use Rattle.facts.specs.Written.{written}
use Rattle.facts.specs.Marks.{any_frame}
use Rattle.ledger.specs.declared.row.Row.{Row}
use Rattle.ledger.specs.Causes.{instruction_at, LeadsOutside, Undefined, MixedFrames, MisplacedReturn, WritesPageRegister}
use Rattle.ledger.specs.Rows.{main_at, handler_at, Marked}
use Rattle.ledger.specs.Verdicts.{Clear, CauseAt, outside, undefined, mixed, misplaced}
use Rattle.ledger.specs.Verdicts.{written as writing}
use Rattle.inspection.specs.Looking.{outside_image, escapes, leaves, either_marked, writes_page, cause_of, word_cause, instruction_cause}
use Rattle.inspection.specs.Looking.{mixed as is_mixed, misplaced as is_misplaced}
use Rattle.inspection.proofs.Choosing.{cond_some, cond_none}

same_some : {X : Type 0} (x y : X) → Some x ≡ Some y → x ≡ y
same_some x y e = cc

-- the addresses outside
outside_none : (words : ℕ) (to : ℤ) → outside_image words to ≡ true → inside_image words to ≡ None
outside_none words (pos address) e = cond-false _ _ _ (not-true _ e)
outside_none words (negsuc below) e = refl

none_outside : (words : ℕ) (to : ℤ) → inside_image words to ≡ None → outside_image words to ≡ true
none_outside words (pos address) e = go (ltb address words) e
  where
    go : (b : Bool) → cond b (Some address) None ≡ None → not b ≡ true
    go true h = absurd (none-some address (sym h))
    go false h = refl
none_outside words (negsuc below) e = refl

escapes_some : (words : ℕ) (to : Option ℤ) → escapes words to ≡ true → (z : ℤ) × (to ≡ Some z) × (inside_image words z ≡ None)
escapes_some words None e = absurd (false≢true e)
escapes_some words (Some z) e = (z, refl, outside_none words z e)

some_escapes : (words : ℕ) (to : Option ℤ) (z : ℤ) → to ≡ Some z → inside_image words z ≡ None → escapes words to ≡ true
some_escapes words to z e out = ap (escapes words) e ∙ none_outside words z out

leaves_out : (words : ℕ) (s : Successors ℤ) → leaves words s ≡ true → (edge : Edge) × (z : ℤ) × Leads s edge z × (inside_image words z ≡ None)
leaves_out words s e = ⊎_elim
    (λ k. let o = escapes_some words s.next k in (past, o.0, inl o.1, o.2))
    (λ f. ⊎_elim
    (λ k. let o = escapes_some words s.target k in (past, o.0, inr o.1, o.2))
    (λ g. ⊎_elim
    (λ k. let o = escapes_some words s.routine k in (enter, o.0, o.1, o.2))
    (λ k. let o = escapes_some words s.resume k in (resume, o.0, o.1, o.2))
    (or_cases _ _ g))
    (or_cases _ _ f))
    (or_cases _ _ e)

out_leaves : (words : ℕ) (s : Successors ℤ) (edge : Edge) (z : ℤ) → Leads s edge z → inside_image words z ≡ None → leaves words s ≡ true
out_leaves words s past z (inl e) out = or_left _ _ (some_escapes words s.next z e out)
out_leaves words s past z (inr e) out = or_right _ _ (or_left _ _ (some_escapes words s.target z e out))
out_leaves words s enter z e out =
    or_right (escapes words s.next) _ (or_right (escapes words s.target) _ (or_left _ (escapes words s.resume) (some_escapes words s.routine z e out)))
out_leaves words s resume z e out =
    or_right (escapes words s.next) _ (or_right (escapes words s.target) _ (or_right (escapes words s.routine) _ (some_escapes words s.resume z e out)))

-- the register that is written
is_some : (register : ℕ) (o : Option ℕ) → is register o ≡ true → o ≡ Some register
is_some register None e = absurd (false≢true e)
is_some register (Some rd) e = ap Some (eqb-true rd register e)

some_is : (register : ℕ) (o : Option ℕ) → o ≡ Some register → is register o ≡ true
some_is register o e = ap (is register) e ∙ eq-eqb register register refl

module _ (image : List ℕ) (rows : List Row) (a : ℕ) where
  either_marked_lem : Marked rows a → either_marked (main_at rows a) (handler_at rows a) ≡ true
  either_marked_lem m = ⊎_elim (or_left _ _) (or_right _ _) m

  mixed_marked : MixedFrames rows a → Marked rows a
  mixed_marked c = ⊎_elim (λ k. inl (or_left _ _ k.0)) (λ k. inr (or_left _ _ k.0)) c

  misplaced_marked : MisplacedReturn image rows a → Marked rows a
  misplaced_marked c = ⊎_elim
      (λ ret. ⊎_elim (λ k. inl (or_left _ _ k)) (λ k. inr (or_left _ _ k)) ret.1)
      (λ iret. ⊎_elim (λ k. inl k) (λ k. inr (or_right _ _ k)) iret.1)
      c

  -- nothing is wrong where nothing comes
  unmarked_clear : (Marked rows a → ⊥) → Clear image rows a
  unmarked_clear none = record {
    inside = λ c. none c.marked;
    defined = λ c. none c.marked;
    apart = λ c. none (mixed_marked c);
    returns = λ c. none (misplaced_marked c);
    keeps = λ c. none (inr c.marked);
  }

  module _ (i : Instruction) (found : instruction_at image a ≡ Some i) where
    this : (j : Instruction) → instruction_at image a ≡ Some j → j ≡ i
    this j e = same_some j i (sym e ∙ found)

    defined_here : Undefined image rows a → ⊥
    defined_here c = none-some i (sym c.none ∙ found)

    inside_here : leaves (length image) (successors a i) ≡ false → LeadsOutside image rows a → ⊥
    inside_here e c = both_ways _ e (out_leaves (length image) (successors a i) c.edge c.to (subst (λ j. Leads (successors a j) c.edge c.to) (this c.instruction c.found) c.leads) c.outside)

    apart_here : (is_mixed (main_at rows a) || is_mixed (handler_at rows a)) ≡ false → MixedFrames rows a → ⊥
    apart_here e c = both_ways _ e (⊎_elim (λ k. or_left _ _ (and_from _ _ k.0 k.1)) (λ k. or_right _ _ (and_from _ _ k.0 k.1)) c)

    returns_here : is_misplaced i (main_at rows a) (handler_at rows a) ≡ false → MisplacedReturn image rows a → ⊥
    returns_here e c = ⊎_elim
        (λ ret. both_ways _ (subst (λ j. is_misplaced j (main_at rows a) (handler_at rows a) ≡ false) (sym (this Return ret.0)) e) (⊎_elim (or_left _ _) (or_right _ _) ret.1))
        (λ iret. both_ways _ (subst (λ j. is_misplaced j (main_at rows a) (handler_at rows a) ≡ false) (sym (this ReturnFromInterrupt iret.0)) e) (⊎_elim (or_left _ _) (or_right _ _) iret.1))
        c

    keeps_here : (any_frame (handler_at rows a) && writes_page i) ≡ false → WritesPageRegister image rows a → ⊥
    keeps_here e c =
        let writes = subst (λ j. (written j ≡ Some 14) ⊎ (written j ≡ Some 15)) (this c.instruction c.found) c.writes in
        both_ways _ e (and_from _ _ c.marked (⊎_elim (λ k. or_left _ _ (some_is 14 _ k)) (λ k. or_right _ _ (some_is 15 _ k)) writes))

    instruction_clear : instruction_cause (length image) a i (main_at rows a) (handler_at rows a) ≡ None → Clear image rows a
    instruction_clear e =
        let one = cond_none _ _ _ e in
        let two = cond_none _ _ _ one.1 in
        let three = cond_none _ _ _ two.1 in
        let four = cond_none _ _ _ three.1 in
        record {
          inside = inside_here one.0;
          defined = defined_here;
          apart = apart_here two.0;
          returns = returns_here three.0;
          keeps = keeps_here four.0;
        }

    misplaced_found : (j : Instruction) → instruction_at image a ≡ Some j → is_misplaced j (main_at rows a) (handler_at rows a) ≡ true → MisplacedReturn image rows a
    misplaced_found (Register operation rd rb) f e = absurd (false≢true e)
    misplaced_found (Immediate operation rd constant) f e = absurd (false≢true e)
    misplaced_found (Rotate rotation rd rb) f e = absurd (false≢true e)
    misplaced_found (Flag change) f e = absurd (false≢true e)
    misplaced_found (Direct transfer rd number) f e = absurd (false≢true e)
    misplaced_found (Indirect transfer rd rb) f e = absurd (false≢true e)
    misplaced_found (BranchIf condition offset) f e = absurd (false≢true e)
    misplaced_found (CallIf condition offset) f e = absurd (false≢true e)
    misplaced_found (Call offset) f e = absurd (false≢true e)
    misplaced_found Return f e = inl (f, or_cases _ _ e)
    misplaced_found ReturnFromInterrupt f e = inr (f, or_cases _ _ e)
    misplaced_found (Branch offset) f e = absurd (false≢true e)

    module _ (mark : Marked rows a) where
      outside_found : leaves (length image) (successors a i) ≡ true → LeadsOutside image rows a
      outside_found e = let o = leaves_out (length image) (successors a i) e in record { marked = mark; instruction = i; found = found; edge = o.0; to = o.1; leads = o.2; outside = o.3 }

      mixed_found : (is_mixed (main_at rows a) || is_mixed (handler_at rows a)) ≡ true → MixedFrames rows a
      mixed_found e = ⊎_elim (λ k. inl (and_parts _ _ k)) (λ k. inr (and_parts _ _ k)) (or_cases _ _ e)

      writes_found : (any_frame (handler_at rows a) && writes_page i) ≡ true → WritesPageRegister image rows a
      writes_found e =
          let parts = and_parts (any_frame (handler_at rows a)) (writes_page i) e in
          record { marked = parts.0; instruction = i; found = found; writes = ⊎_elim (λ k. inl (is_some 14 _ k)) (λ k. inr (is_some 15 _ k)) (or_cases _ _ parts.1) }

      last_cause : {refusal : Refusal} → leaves (length image) (successors a i) ≡ false → (is_mixed (main_at rows a) || is_mixed (handler_at rows a)) ≡ false → is_misplaced i (main_at rows a) (handler_at rows a) ≡ false → cond (any_frame (handler_at rows a) && writes_page i) (Some (PageRegisterWritten a)) None ≡ Some refusal → CauseAt image rows a refusal
      last_cause {refusal} p q r e = ⊎_elim
          (λ k. subst (CauseAt image rows a) k.1 (writing (inside_here p) defined_here (apart_here q) (returns_here r) (writes_found k.0)))
          (λ k. absurd (none-some refusal k.1))
          (cond_some _ _ _ e)

      pub instruction_cause_lem : {refusal : Refusal} → instruction_cause (length image) a i (main_at rows a) (handler_at rows a) ≡ Some refusal → CauseAt image rows a refusal
      instruction_cause_lem e = ⊎_elim
          (λ k. subst (CauseAt image rows a) k.1 (outside (outside_found k.0)))
          (λ p. ⊎_elim
          (λ k. subst (CauseAt image rows a) k.1 (mixed (inside_here p.0) defined_here (mixed_found k.0)))
          (λ q. ⊎_elim
          (λ k. subst (CauseAt image rows a) k.1 (misplaced (inside_here p.0) defined_here (apart_here q.0) (misplaced_found i found k.0)))
          (λ r. last_cause p.0 q.0 r.0 r.1)
          (cond_some _ _ _ q.1))
          (cond_some _ _ _ p.1))
          (cond_some _ _ _ e)

  word_clear : (found : Option Instruction) → instruction_at image a ≡ found → word_cause (length image) a found (main_at rows a) (handler_at rows a) ≡ None → Clear image rows a
  word_clear None f e = absurd (none-some _ (sym e))
  word_clear (Some i) f e = instruction_clear i f e

  word_cause_lem : {refusal : Refusal} → Marked rows a → (found : Option Instruction) → instruction_at image a ≡ found → word_cause (length image) a found (main_at rows a) (handler_at rows a) ≡ Some refusal → CauseAt image rows a refusal
  word_cause_lem mark None f e = subst (CauseAt image rows a) (same_some _ _ e) (undefined (λ c. none-some c.instruction (sym f ∙ c.found)) (record { marked = mark; none = f }))
  word_cause_lem mark (Some i) f e = instruction_cause_lem i f mark e

  pub clear_here : cause_of (length image) a (instruction_at image a) (main_at rows a) (handler_at rows a) ≡ None → Clear image rows a
  clear_here e = go (either_marked (main_at rows a) (handler_at rows a)) refl e
    where
      go : (b : Bool) → either_marked (main_at rows a) (handler_at rows a) ≡ b → cond b (word_cause (length image) a (instruction_at image a) (main_at rows a) (handler_at rows a)) None ≡ None → Clear image rows a
      go true m h = word_clear (instruction_at image a) refl h
      go false m h = unmarked_clear (λ k. both_ways _ m (either_marked_lem k))

  pub cause_here : {refusal : Refusal} → cause_of (length image) a (instruction_at image a) (main_at rows a) (handler_at rows a) ≡ Some refusal → CauseAt image rows a refusal
  cause_here {refusal} e = go (either_marked (main_at rows a) (handler_at rows a)) refl e
    where
      go : (b : Bool) → either_marked (main_at rows a) (handler_at rows a) ≡ b → cond b (word_cause (length image) a (instruction_at image a) (main_at rows a) (handler_at rows a)) None ≡ Some refusal → CauseAt image rows a refusal
      go true m h = word_cause_lem (or_cases _ _ m) (instruction_at image a) refl h
      go false m h = absurd (none-some refusal h)
