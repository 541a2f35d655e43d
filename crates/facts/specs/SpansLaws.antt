-- Page spans keep the laws of a kind of fact. Assumes nothing.
use Rattle.std.specs.Prelude.{◌≡◌, ◌<◌, true, ◌⊎◌, Option, Some, None, refl}
use Rattle.std.proofs.Common.{inl, inr, arith}
use Rattle.std.proofs.lemmas.Bool.{and_parts, and_from, false≢true}
use Rattle.words.specs.declared.instruction.Instruction.{Instruction}
use Rattle.facts.specs.declared.spans.PageSpans.{PageSpans}
use Rattle.facts.specs.Laws.{Laws}
use Rattle.facts.specs.Spans.{joined, covered, extent, move_both, summed, spans}
use Rattle.facts.specs.Intervals.{contains_refl, contains_trans, contains_antisym, hull_left, hull_right, hull_least, hull_wider, hull_rises, moved_mono}

covered_refl : (x : Option PageSpans) → covered x x ≡ true
covered_refl None = refl
covered_refl (Some x) = and_from _ _ (contains_refl x.r14) (contains_refl x.r15)

covered_trans : (x y z : Option PageSpans) → covered x y ≡ true → covered y z ≡ true → covered x z ≡ true
covered_trans None None z p q = q
covered_trans None (Some y) None p q = refl
covered_trans None (Some y) (Some z) p q = p
covered_trans (Some x) y None p q = refl
covered_trans (Some x) None (Some z) p q = grind arith
covered_trans (Some x) (Some y) (Some z) p q =
    let h = and_parts _ _ p in let k = and_parts _ _ q in and_from _ _ (contains_trans x.r14 y.r14 z.r14 h.0 k.0) (contains_trans x.r15 y.r15 z.r15 h.1 k.1)

covered_antisym : (x y : Option PageSpans) → covered x y ≡ true → covered y x ≡ true → x ≡ y
covered_antisym None None p q = refl
covered_antisym None (Some y) p q = grind arith
covered_antisym (Some x) None p q = grind arith
covered_antisym (Some x) (Some y) p q =
    let h = and_parts _ _ p in
    let k = and_parts _ _ q in
    let e = contains_antisym x.r14 y.r14 h.0 k.0 in
    let f = contains_antisym x.r15 y.r15 h.1 k.1 in
    λ j. Some (record { r14 = e j; r15 = f j })

covered_lowest : (x : Option PageSpans) → covered x None ≡ true
covered_lowest None = refl
covered_lowest (Some x) = refl

joined_left : (x y : Option PageSpans) → covered (joined x y) x ≡ true
joined_left None y = covered_lowest y
joined_left (Some x) None = covered_refl (Some x)
joined_left (Some x) (Some y) = and_from _ _ (hull_left x.r14 y.r14) (hull_left x.r15 y.r15)

joined_right : (x y : Option PageSpans) → covered (joined x y) y ≡ true
joined_right None y = covered_refl y
joined_right (Some x) None = refl
joined_right (Some x) (Some y) = and_from _ _ (hull_right x.r14 y.r14) (hull_right x.r15 y.r15)

joined_least : (x y z : Option PageSpans) → covered z x ≡ true → covered z y ≡ true → covered z (joined x y) ≡ true
joined_least None y z p q = q
joined_least (Some x) None z p q = p
joined_least (Some x) (Some y) None p q = p
joined_least (Some x) (Some y) (Some z) p q =
    let h = and_parts _ _ p in let k = and_parts _ _ q in and_from _ _ (hull_least x.r14 y.r14 z.r14 h.0 k.0) (hull_least x.r15 y.r15 z.r15 h.1 k.1)

joined_rises : (x y : Option PageSpans) → (joined x y ≡ x) ⊎ (extent x < extent (joined x y))
joined_rises None None = inl refl
joined_rises None (Some y) = inr (omega arith)
joined_rises (Some x) None = inl refl
joined_rises (Some x) (Some y) = elim (hull_rises x.r14 y.r14) [
  | inr h ↦ inr (omega (arith, hull_wider x.r15 y.r15))
  | inl e ↦ elim (hull_rises x.r15 y.r15) [
    | inr k ↦ inr (omega (arith, hull_wider x.r14 y.r14))
    | inl f ↦ inl (λ j. Some (record { r14 = e j; r15 = f j }))
  ]
]

move_both_mono :
    (i : Instruction) (x y : Option PageSpans)
    → covered x y ≡ true
    → covered (move_both i x) (move_both i y) ≡ true
move_both_mono i x None p = covered_lowest (move_both i x)
move_both_mono i None (Some y) p = p
move_both_mono i (Some x) (Some y) p =
    let h = and_parts _ _ p in and_from _ _ (moved_mono 14 i x.r14 y.r14 h.0) (moved_mono 15 i x.r15 y.r15 h.1)

summed_mono :
    (s t x y : Option PageSpans)
    → covered s t ≡ true
    → covered x y ≡ true
    → covered (summed s x) (summed t y) ≡ true
summed_mono s t x None p q = covered_lowest (summed s x)
summed_mono s t None (Some y) p q = absurd (false≢true q)
summed_mono s t (Some x) (Some y) p q = p

pub spans_laws : Laws spans
spans_laws = record {
  order = record { reflexive = covered_refl; transitive = covered_trans; antisymmetric = covered_antisym; lowest = covered_lowest };
  joins = record { left = joined_left; right = joined_right; least = joined_least; rises = joined_rises };
  strict = record { past = λ i. refl; enter = refl; resume = λ s. refl };
  monotone = record { past = move_both_mono; enter = λ x y p. p; resume = summed_mono };
}
