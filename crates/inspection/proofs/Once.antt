-- Inspection has one answer: one verdict on an image, and one list of rows. Assumes nothing.
use Rattle.std.proofs.Common.{◌≡◌, ℕ, ◌<◌, ◌⊎◌, List, ◌++◌, length, Some, None, Ok, Err, Option, sym, refl, ap, ◌∙◌, subst, inl, inr, arith}
use Rattle.std.proofs.lemmas.List.{take-append-drop}
use Rattle.std.proofs.lemmas.Bool.{cases_lt}
use Rattle.refusals.specs.declared.Refusal.{Refusal}
use Rattle.refusals.specs.declared.Refusal.TheVariants.{PageNotOwned}
use Rattle.ledger.specs.declared.owned.OwnedPages.{OwnedPages}
use Rattle.ledger.specs.declared.row.Row.{Row}
use Rattle.ledger.specs.Laws.{CausesGrow}
use Rattle.ledger.specs.Verdicts.{Surveyed, Clear, CauseAt, outside, undefined, mixed, misplaced, written, Because, early, deep, foreign}
use Rattle.ledger.proofs.Uniqueness.{ledger_laws}
use Rattle.inspection.specs.declared.passed.PassedImage.{PassedImage}
use Rattle.inspection.specs.First.{FirstAt}
use Rattle.inspection.specs.Inspects.{front, Caused, Answered, OneVerdict}
use Rattle.inspection.specs.Obstacles.{Unobstructed, Obstructed, length_of_image, word_too_large, pages_of_nobody, few_rows}

pub none_some : {X : Type 0} {o : Option X} {x : X} → o ≡ None → o ≡ Some x → ⊥
none_some p q = let z : ◌≡◌ {A = ℕ} 0 1 = cc in omega arith

same_some : {X : Type 0} {o : Option X} {x y : X} → o ≡ Some x → o ≡ Some y → x ≡ y
same_some p q = cc

-- one of two addresses is lower, or they are one
ordered : (a b : ℕ) → (a < b) ⊎ ((b < a) ⊎ (a ≡ b))
ordered a b = elim (cases_lt a b) [
  | inl h ↦ inl h
  | inr h ↦ elim (cases_lt b a) [ inl l ↦ inr (inl l) | inr g ↦ inr (inr (omega arith)) ]
]

first_once : {n : ℕ} {cause : ℕ → Option Refusal} {r s : Refusal} → FirstAt n cause r → FirstAt n cause s → r ≡ s
first_once {cause} x y = elim (ordered x.address y.address) [
  | inl h ↦ absurd (none_some (y.before x.address h) x.here)
  | inr (inl h) ↦ absurd (none_some (x.before y.address h) y.here)
  | inr (inr e) ↦ same_some x.here (ap cause e ∙ y.here)
]

module _ {image : List ℕ} {owned : OwnedPages} {rows : ℕ} where
  not_both : {r : Refusal} → Unobstructed image owned rows → Obstructed image owned rows r → ⊥
  not_both u (length_of_image h) = h u.fits
  not_both u (word_too_large _ first) = none_some (u.small first.address first.inside) first.here
  not_both u (pages_of_nobody _ _ h) = h u.pages
  not_both u (few_rows _ _ _ h) = omega (arith, u.enough)

  obstructed_once : {r s : Refusal} → Obstructed image owned rows r → Obstructed image owned rows s → r ≡ s
  obstructed_once (length_of_image h) (length_of_image g) = refl
  obstructed_once (length_of_image h) (word_too_large fits first) = absurd (h fits)
  obstructed_once (length_of_image h) (pages_of_nobody fits small g) = absurd (h fits)
  obstructed_once (length_of_image h) (few_rows fits small pages g) = absurd (h fits)
  obstructed_once (word_too_large fits first) (length_of_image h) = absurd (h fits)
  obstructed_once (word_too_large fits first) (word_too_large fits' first') = first_once first first'
  obstructed_once (word_too_large fits first) (pages_of_nobody fits' small g) = absurd (none_some (small first.address first.inside) first.here)
  obstructed_once (word_too_large fits first) (few_rows fits' small pages g) = absurd (none_some (small first.address first.inside) first.here)
  obstructed_once (pages_of_nobody fits small h) (length_of_image g) = absurd (g fits)
  obstructed_once (pages_of_nobody fits small h) (word_too_large fits' first) = absurd (none_some (small first.address first.inside) first.here)
  obstructed_once (pages_of_nobody fits small h) (pages_of_nobody fits' small' g) = refl
  obstructed_once (pages_of_nobody fits small h) (few_rows fits' small' pages g) = absurd (h pages)
  obstructed_once (few_rows fits small pages h) (length_of_image g) = absurd (g fits)
  obstructed_once (few_rows fits small pages h) (word_too_large fits' first) = absurd (none_some (small first.address first.inside) first.here)
  obstructed_once (few_rows fits small pages h) (pages_of_nobody fits' small' g) = absurd (g pages)
  obstructed_once (few_rows fits small pages h) (few_rows fits' small' pages' g) = refl

-- a cause that other rows have too is not clear there
unclear : {image : List ℕ} {rows other : List Row} {r : Refusal} (a : ℕ) → CausesGrow image rows other → Clear image other a → CauseAt image rows a r → ⊥
unclear a up clear (outside c) = clear.inside (up.outside a c)
unclear a up clear (undefined _ c) = clear.defined (up.undefined a c)
unclear a up clear (mixed _ _ c) = clear.apart (up.mixed a c)
unclear a up clear (misplaced _ _ _ c) = clear.returns (up.misplaced a c)
unclear a up clear (written _ _ _ _ c) = clear.keeps (up.writes a c)

module _ {image : List ℕ} {rows other : List Row} (up : CausesGrow image rows other) (down : CausesGrow image other rows) where
  cause_once : {r s : Refusal} (a : ℕ) → CauseAt image rows a r → CauseAt image other a s → r ≡ s
  cause_once a (outside c) (outside d) = refl
  cause_once a (outside c) (undefined n d) = absurd (n (up.outside a c))
  cause_once a (outside c) (mixed n n' d) = absurd (n (up.outside a c))
  cause_once a (outside c) (misplaced n n' n'' d) = absurd (n (up.outside a c))
  cause_once a (outside c) (written n n' n'' n''' d) = absurd (n (up.outside a c))
  cause_once a (undefined m c) (outside d) = absurd (m (down.outside a d))
  cause_once a (undefined m c) (undefined n d) = refl
  cause_once a (undefined m c) (mixed n n' d) = absurd (n' (up.undefined a c))
  cause_once a (undefined m c) (misplaced n n' n'' d) = absurd (n' (up.undefined a c))
  cause_once a (undefined m c) (written n n' n'' n''' d) = absurd (n' (up.undefined a c))
  cause_once a (mixed m m' c) (outside d) = absurd (m (down.outside a d))
  cause_once a (mixed m m' c) (undefined n d) = absurd (m' (down.undefined a d))
  cause_once a (mixed m m' c) (mixed n n' d) = refl
  cause_once a (mixed m m' c) (misplaced n n' n'' d) = absurd (n'' (up.mixed a c))
  cause_once a (mixed m m' c) (written n n' n'' n''' d) = absurd (n'' (up.mixed a c))
  cause_once a (misplaced m m' m'' c) (outside d) = absurd (m (down.outside a d))
  cause_once a (misplaced m m' m'' c) (undefined n d) = absurd (m' (down.undefined a d))
  cause_once a (misplaced m m' m'' c) (mixed n n' d) = absurd (m'' (down.mixed a d))
  cause_once a (misplaced m m' m'' c) (misplaced n n' n'' d) = refl
  cause_once a (misplaced m m' m'' c) (written n n' n'' n''' d) = absurd (n''' (up.misplaced a c))
  cause_once a (written m m' m'' m''' c) (outside d) = absurd (m (down.outside a d))
  cause_once a (written m m' m'' m''' c) (undefined n d) = absurd (m' (down.undefined a d))
  cause_once a (written m m' m'' m''' c) (mixed n n' d) = absurd (m'' (down.mixed a d))
  cause_once a (written m m' m'' m''' c) (misplaced n n' n'' d) = absurd (m''' (down.misplaced a d))
  cause_once a (written m m' m'' m''' c) (written n n' n'' n''' d) = refl

  because_once : {owned : OwnedPages} {r s : Refusal} → Because image owned rows r → Because image owned other s → r ≡ s
  because_once {s} (early a _ clear c) (early b _ clear' d) = elim (ordered a b) [
    | inl h ↦ absurd (unclear a up (clear' a h) c)
    | inr (inl h) ↦ absurd (unclear b down (clear b h) d)
    | inr (inr e) ↦ cause_once a c (subst (λ n. CauseAt image other n s) (sym e) d)
  ]
  because_once (early a _ _ c) (deep clear _) = absurd (unclear a up (clear a) c)
  because_once (early a _ _ c) (foreign b _ clear _ _ _) = absurd (unclear a up (clear a) c)
  because_once (deep clear _) (early b _ _ d) = absurd (unclear b down (clear b) d)
  because_once (deep _ c) (deep _ d) = refl
  because_once (deep _ c) (foreign b _ _ shallow _ _) = absurd (shallow (up.deep c))
  because_once (foreign a _ clear _ _ _) (early b _ _ d) = absurd (unclear b down (clear b) d)
  because_once (foreign a _ _ shallow _ _) (deep _ d) = absurd (shallow (down.deep d))
  because_once {owned} (foreign a _ _ _ before c) (foreign b _ _ _ before' d) = elim (ordered a b) [
    | inl h ↦ absurd (before' a h (up.foreign owned a c))
    | inr (inl h) ↦ absurd (before b h (down.foreign owned b d))
    | inr (inr e) ↦ ap PageNotOwned e
  ]

-- smallest marks and spans are below all others
grown : {image : List ℕ} {rows other : List Row} → Surveyed image rows → Surveyed image other → CausesGrow image rows other
grown {image} {rows} {other} s t = ledger_laws.grow image rows other (record {
  long = s.long;
  main = s.main.least _ t.main.closed;
  handler = s.handler.least _ t.handler.closed;
  spans = s.spans.least _ t.spans.closed;
})

caused_once : {image : List ℕ} {owned : OwnedPages} {r s : Refusal} → Caused image owned r → Caused image owned s → r ≡ s
caused_once x y = because_once (grown x.surveyed y.surveyed) (grown y.surveyed x.surveyed) x.because y.because

-- the rows of the smallest ledger, and those behind the image
same_rows : {image : List ℕ} {owned : OwnedPages} {rows after after' : List Row} {p q : PassedImage} → Answered image owned rows p after → Answered image owned rows q after' → after ≡ after'
same_rows {image} {owned} {rows} {after} {after'} x y =
    let fronts = ledger_laws.unique image owned (front image after) (front image after') x.passes.ledger y.passes.ledger in
    sym (take-append-drop (length image) after) ∙ (λ i. fronts i ++ (x.rest ∙ sym y.rest) i) ∙ take-append-drop (length image) after'

pub one_verdict : OneVerdict
one_verdict image owned rows (Ok p) (Ok q) after after' x y = (ap Ok same, same_rows x.1 y.1)
  where
    same : p.depth ≡ q.depth
    same = omega (arith, x.1.passes.least (front image after') y.1.passes.ledger.ledger, y.1.passes.value, y.1.passes.least (front image after) x.1.passes.ledger.ledger, x.1.passes.value)
one_verdict image owned rows (Ok p) (Err s) after after' x (inl y) = absurd (not_both x.0 y.0)
one_verdict image owned rows (Ok p) (Err s) after after' x (inr y) = absurd (y.1.none (front image after) x.1.passes.ledger.ledger)
one_verdict image owned rows (Err r) (Ok q) after after' (inl x) y = absurd (not_both y.0 x.0)
one_verdict image owned rows (Err r) (Ok q) after after' (inr x) y = absurd (x.1.none (front image after') y.1.passes.ledger.ledger)
one_verdict image owned rows (Err r) (Err s) after after' (inl x) (inl y) = (ap Err (obstructed_once x.0 y.0), x.1 ∙ sym y.1)
one_verdict image owned rows (Err r) (Err s) after after' (inl x) (inr y) = absurd (not_both y.0 x.0)
one_verdict image owned rows (Err r) (Err s) after after' (inr x) (inl y) = absurd (not_both x.0 y.0)
one_verdict image owned rows (Err r) (Err s) after after' (inr x) (inr y) = (ap Err (caused_once x.1.cause y.1.cause), x.2 ∙ sym y.2)
