-- The first tick that is too large, looked for from the front. Assumes nothing.
use Rattle.std.proofs.Common.{◌≡◌, ℕ, ◌+◌, ◌<◌, ◌≤◌, List, length, get_or, drop, Some, None, sym, ap, ◌∙◌, add-one, drop-cons}
use Rattle.std.proofs.lemmas.List.{drop_all}
use Rattle.std.proofs.lemmas.Bool.{lt-ltb, le-ltb, cond-true, cond-false}
use Rattle.machine.specs.Runs.{first_large}

pub large_here : (ticks : List ℕ) (i : ℕ) → i < length ticks → 512 ≤ get_or ticks i 0 → first_large i (drop i ticks) ≡ Some i
large_here ticks i inside large = ap (first_large i) (drop-cons ticks i 0 inside) ∙ cond-false _ _ _ (le-ltb _ 512 large)

pub large_later : (ticks : List ℕ) (i : ℕ) → i < length ticks → get_or ticks i 0 < 512 → first_large i (drop i ticks) ≡ first_large (i + 1) (drop (i + 1) ticks)
large_later ticks i inside small =
    ap (first_large i) (drop-cons ticks i 0 inside) ∙ cond-true _ _ _ (lt-ltb _ 512 small) ∙ ap (λ n. first_large (i + 1) (drop n ticks)) (sym (add-one i))

pub large_none : (ticks : List ℕ) (i : ℕ) → length ticks ≤ i → first_large i (drop i ticks) ≡ None
large_none ticks i past = ap (first_large i) (drop_all i ticks past)
