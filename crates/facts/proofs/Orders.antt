-- What a range of addresses gives, upwards and downwards. Assumes nothing.
use Rattle.std.proofs.Common.{◌≡◌, ℕ, zero, suc, ◌+◌, ◌-◌, ◌<◌, ◌≤◌, List, [], ◌∷◌, ◌++◌, length, get_or, Some, None, Option, sym, refl, ◌∙◌, subst, inl, inr, arith}
use Rattle.std.proofs.lemmas.Bool.{cases_eq}
use Rattle.std.specs.Iterator.{Yields}
use Rattle.std.specs.List.{Contains}
use Rattle.std.specs.Range.{range_steps, range_steps_back}
use Rattle.std.specs.declared.iter.Rev.{Rev}
use Rattle.std.specs.declared.ops.Range.{Range}
use Rattle.facts.specs.Orders.{GivesBelow, GivesEach}

module _ {S A : Type 0} (steps : S → Option A → S → Type 0) where
  -- one call more
  pub yields_more :
      (start : S) (given : List A) (now after : S) (x : A)
      → Yields steps start given now
      → steps now (Some x) after
      → Yields steps start (given ++ x ∷ []) after
  yields_more start [] now after x before step = (after, subst (λ s. steps s (Some x) after) (sym before) step, refl)
  yields_more start (y ∷ given) now after x before step =
      (before.0, before.1, yields_more before.0 given now after x before.2 step)

abbrev up : Range ℕ → Option ℕ → Range ℕ → Type 0
up = range_steps (λ a b. b - a) (λ a b. b ≡ a + 1)

abbrev down : Rev (Range ℕ) → Option ℕ → Rev (Range ℕ) → Type 0
down s r t = range_steps_back (λ a b. b - a) (λ a b. b ≡ a + 1) s.iter r t.iter

up_below :
    (range : Range ℕ) (given : List ℕ) (rest : Range ℕ)
    → Yields up range given rest
    → (a k : ℕ)
    → k < length given
    → get_or given k a ≡ a
    → a < range.end
up_below range [] rest yields a k inside is = absurd (omega arith)
up_below range (x ∷ given) rest yields a zero inside is = let step = yields.1 in omega (arith, step.0, step.1.0, step.1.1)
up_below range (x ∷ given) rest yields a (suc k) inside is =
    let step = yields.1 in omega (arith, step.0, up_below yields.0 given rest yields.2 a k (omega arith) is)

up_each :
    (range : Range ℕ) (given : List ℕ) (rest end : Range ℕ)
    → Yields up range given rest
    → up rest None end
    → (a : ℕ)
    → range.start ≤ a
    → a < range.end
    → Contains given a
up_each range [] rest end yields stop a low high =
    absurd (let gap : range.end - range.start ≡ 0 = rw yields stop.1.0 in omega (arith, gap))
up_each range (x ∷ given) rest end yields stop a low high = elim (cases_eq a range.start) [
  | inl e ↦ (0, omega arith, yields.1.1.1 ∙ sym e)
  | inr n ↦
      let step = yields.1 in
      let more = up_each yields.0 given rest end yields.2 stop a (omega (arith, step.1.2)) (omega (arith, step.0)) in
      (suc more.0, omega (arith, more.1), more.2)
]

down_below :
    (range : Rev (Range ℕ)) (given : List ℕ) (rest : Rev (Range ℕ))
    → Yields down range given rest
    → (a k : ℕ)
    → k < length given
    → get_or given k a ≡ a
    → a < range.iter.end
down_below range [] rest yields a k inside is = absurd (omega arith)
down_below range (x ∷ given) rest yields a zero inside is = let step = yields.1 in omega (arith, step.1.1, step.1.2)
down_below range (x ∷ given) rest yields a (suc k) inside is =
    let step = yields.1 in
    omega (arith, step.1.2, down_below yields.0 given rest yields.2 a k (omega arith) is)

pub upwards_below : (range : Range ℕ) (words : ℕ) → range.end ≡ words → GivesBelow up range words
upwards_below range words end given rest yields a has = rw (← end) (up_below range given rest yields a has.0 has.1 has.2)

pub upwards_each : (range : Range ℕ) (words : ℕ) → range.start ≡ 0 → range.end ≡ words → GivesEach up range words
upwards_each range words start end given drains a high =
    up_each range given drains.1.0 drains.0 drains.1.1 drains.1.2 a (omega (arith, start)) (omega (arith, end))

pub downwards_below : (range : Rev (Range ℕ)) (words : ℕ) → range.iter.end ≡ words → GivesBelow down range words
downwards_below range words end given rest yields a has = rw (← end) (down_below range given rest yields a has.0 has.1 has.2)
