-- The addresses of a sweep: downwards, then upwards. Assumes nothing.
use Rattle.std.proofs.Common.{◌≡◌, ℕ, zero, suc, ◌+◌, ◌-◌, ◌<◌, false, List, [], ◌∷◌, ◌++◌, length, get_or, Some, None, refl, sym, ap, ◌∙◌, subst, inl, inr, arith}
use Rattle.std.proofs.iter.Yields.{nat_range_steps}
use Rattle.std.proofs.iter.runs.Sources.{nat_range_steps_back}
use Rattle.std.proofs.lemmas.Bool.{cases_lt}
use Rattle.std.proofs.lemmas.Iterator.{YieldsList, YieldsList-from_range}
use Rattle.std.proofs.lemmas.Iterator.Consumers.{YieldsList-at, YieldsList-from_chain, YieldsList-from_shown}
use Rattle.std.proofs.lemmas.List.{get_or_append_left, get_or-append_right, length-append}
use Rattle.std.proofs.lemmas.List.FromFn.{length-range_with_len, get_or-range_with_len}
use Rattle.std.specs.Iterator.Adapters.{chain_first, chain_second, chain_first_done, chain_second_done, chain_steps, rev_source, rev_steps}
use Rattle.std.specs.declared.ops.Range.{Range}
use Rattle.std.specs.declared.iter.Chain.{Chain}
use Rattle.std.specs.declared.iter.Rev.{Rev}
use Rattle.std.specs.List.{range_with_len}

-- n numbers from the highest down to a
abbrev pub down : ℕ → ℕ → List ℕ
down a zero = []
down a (suc n) = (a + n) ∷ down a n

length_down : (a n : ℕ) → length (down a n) ≡ n
length_down a zero = refl
length_down a (suc n) = omega (arith, length_down a n)

down_at : (n k d : ℕ) → k < n → get_or (down 0 n) k d ≡ n - 1 - k
down_at zero k d h = absurd (omega arith)
down_at (suc n) zero d h = omega arith
down_at (suc n) (suc k) d h = omega (arith, down_at n k d (omega arith))

down_more : (a n m x : ℕ) → n ≡ suc m → x ≡ a + m → down a n ≡ x ∷ down a m
down_more a n m x e f = ap (down a) e ∙ ap (λ y. y ∷ down a m) (sym f)

abbrev shown : Rev (Range ℕ) → List ℕ
shown s = down (rev_source s).start ((rev_source s).end - (rev_source s).start)

yields_down : {s : Rev (Range ℕ)} (n : ℕ) → rev_source s ≡ record { start = 0; end = n } → YieldsList (rev_steps nat_range_steps_back) (λ x. x) s (down 0 n)
yields_down {s} n e = subst (YieldsList (rev_steps nat_range_steps_back) (λ x. x) s) is (YieldsList-from_shown (rev_steps nat_range_steps_back) (λ x. x) shown none some s)
  where
    is : shown s ≡ down 0 n
    is = ap (λ (range : Range ℕ). down range.start (range.end - range.start)) e ∙ ap (down 0) (omega arith)

    none : (s t : Rev (Range ℕ)) → rev_steps nat_range_steps_back s None t → length (shown s) ≡ 0
    none s t step = length_down _ _ ∙ step.1.0

    some : (s : Rev (Range ℕ)) (x : ℕ) (t : Rev (Range ℕ)) → rev_steps nat_range_steps_back s (Some x) t → shown s ≡ x ∷ shown t
    some s x t step = down_more (rev_source s).start ((rev_source s).end - (rev_source s).start) ((rev_source t).end - (rev_source t).start) x (omega arith) (omega arith) ∙ ap (λ a. x ∷ down a ((rev_source t).end - (rev_source t).start)) (sym step.0)

-- each address comes, and nothing else
abbrev pub sweep : ℕ → List ℕ
sweep n = down 0 n ++ range_with_len 0 n

pub sweeps :
    {s t : Chain (Rev (Range ℕ)) (Range ℕ)} {r : Rev (Range ℕ)} (n : ℕ)
    → s ≡ t
    → chain_first t ≡ r
    → rev_source r ≡ record { start = 0; end = n }
    → chain_second t ≡ record { start = 0; end = n }
    → chain_first_done t ≡ false
    → chain_second_done t ≡ false
    → YieldsList (chain_steps (rev_steps nat_range_steps_back) nat_range_steps) (λ x. x) s (sweep n)
sweeps n is first reversed second first_left second_left =
    YieldsList-at is (YieldsList-from_chain (YieldsList-at first (yields_down n reversed)) (YieldsList-from_range 0 n n second (omega arith)) first_left second_left)

length_sweep : (n : ℕ) → length (sweep n) ≡ n + n
length_sweep n = omega (arith, length-append (down 0 n) (range_with_len 0 n), length_down 0 n, length-range_with_len 0 n)

pub sweep_below : (n k x : ℕ) → (k < length (sweep n)) × (x ≡ get_or (sweep n) k x) → x < n
sweep_below n k x h = elim (cases_lt k n) [
  | inl l ↦ omega (arith, h.1, get_or_append_left (down 0 n) (range_with_len 0 n) x k (omega (arith, length_down 0 n)), down_at n k x l)
  | inr g ↦ omega (arith, h.1, h.0, length_sweep n, get_or-append_right (down 0 n) (range_with_len 0 n) n k x (length_down 0 n) g, get_or-range_with_len 0 n (k - n) x (omega (arith, h.0, length_sweep n)))
]

pub sweep_has : (n a : ℕ) → a < n → (n - 1 - a < length (sweep n)) × (get_or (sweep n) (n - 1 - a) 0 ≡ a)
sweep_has n a h = (
  omega (arith, length_sweep n),
  omega (arith, get_or_append_left (down 0 n) (range_with_len 0 n) 0 (n - 1 - a) (omega (arith, length_down 0 n)), down_at n (n - 1 - a) 0 (omega arith)),
)
