-- What intervals keep: their order, their hull and how an instruction moves one. Assumes nothing.
use Rattle.std.specs.Prelude.{◌≡◌, ℕ, ◌<◌, ◌≤◌, Bool, true, false, cond, ◌⊎◌}
use mathlib.Core.HLevel.{is_prop→PathP}
use Rattle.std.proofs.Common.{inl, inr, arith}
use Rattle.std.proofs.Math.Bridge.{le_prop}
use Rattle.std.proofs.lemmas.Bool.{cases_Bool}
use Rattle.std.proofs.lemmas.Bool.Decides.{nat_tests}
use Rattle.words.specs.declared.instruction.Instruction.{Instruction}
use Rattle.words.specs.declared.codes.Operation.{Operation}
use Rattle.facts.specs.declared.interval.Interval.{Interval}
use Rattle.facts.specs.Spans.{hull, contains, width, immediate, computed, moved, is}
use Rattle.facts.specs.Written.{written}

pub same_interval : (x y : Interval) → x.low ≡ y.low → x.high ≡ y.high → x ≡ y
same_interval x y p q = λ i. record { low = p i; high = q i; ordered = is_prop→PathP (λ j. p j ≤ q j) (λ j. le_prop) x.ordered y.ordered i }

pub contains_refl : (x : Interval) → contains x x ≡ true
contains_refl x = grind (arith, nat_tests)

pub contains_trans : (x y z : Interval) → contains x y ≡ true → contains y z ≡ true → contains x z ≡ true
contains_trans x y z p q = grind (arith, nat_tests)

pub contains_antisym : (x y : Interval) → contains x y ≡ true → contains y x ≡ true → x ≡ y
contains_antisym x y p q = same_interval x y (grind (arith, nat_tests)) (grind (arith, nat_tests))

pub hull_left : (x y : Interval) → contains (hull x y) x ≡ true
hull_left x y = grind (arith, nat_tests)

pub hull_right : (x y : Interval) → contains (hull x y) y ≡ true
hull_right x y = grind (arith, nat_tests)

pub hull_least : (x y z : Interval) → contains z x ≡ true → contains z y ≡ true → contains z (hull x y) ≡ true
hull_least x y z p q = grind (arith, nat_tests)

pub hull_wider : (x y : Interval) → width x ≤ width (hull x y)
hull_wider x y = omega arith

pub hull_rises : (x y : Interval) → (hull x y ≡ x) ⊎ (width x < width (hull x y))
hull_rises x y = elim (cases_Bool (contains x y)) [
  | inl e ↦ inl (contains_antisym _ _ (hull_left x y) (hull_least x y x (contains_refl x) e))
  | inr e ↦ inr (let p = x.ordered in grind (arith, nat_tests))
]

pub immediate_mono :
    (o : Operation) (c : ℕ) (x y : Interval)
    → contains x y ≡ true
    → contains (immediate o c x) (immediate o c y) ≡ true
immediate_mono o c x y p = grind (arith, nat_tests)

pub computed_mono :
    (i : Instruction) (x y : Interval)
    → contains x y ≡ true
    → contains (computed i x) (computed i y) ≡ true
computed_mono i x y p = grind (arith, nat_tests)

cond_mono :
    (t : Bool) (a b x y : Interval)
    → contains a b ≡ true
    → contains x y ≡ true
    → contains (cond t a x) (cond t b y) ≡ true
cond_mono true a b x y p q = p
cond_mono false a b x y p q = q

pub moved_mono :
    (register : ℕ) (i : Instruction) (x y : Interval)
    → contains x y ≡ true
    → contains (moved register i x) (moved register i y) ≡ true
moved_mono register i x y p = cond_mono (is register (written i)) (computed i x) (computed i y) x y (computed_mono i x y p) p
