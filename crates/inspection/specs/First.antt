-- The first address of an image at which something stands in the way. Assumes nothing.
use Rattle.std.specs.Prelude.{◌≡◌, ℕ, ◌<◌, Some, None, Ok, Err, Option, Result}
use Rattle.refusals.specs.declared.Refusal.{Refusal}

-- nothing at the addresses below a bound
abbrev pub NoneBefore : ℕ → (ℕ → Option Refusal) → Type 0
NoneBefore bound cause = (a : ℕ) → a < bound → cause a ≡ None

pub record FirstAt (words : ℕ) (cause : ℕ → Option Refusal) (refusal : Refusal) : Type 0 where
  pub address : ℕ
  pub inside : address < words
  pub before : NoneBefore address cause
  pub here : cause address ≡ Some refusal

-- nothing in the whole image, or what is found at the lowest address
abbrev pub First : ℕ → (ℕ → Option Refusal) → Result (Unit {0}) Refusal → Type 0
First words cause (Ok done) = NoneBefore words cause
First words cause (Err refusal) = FirstAt words cause refusal
