-- Which lengths of bytes are taken for a board memory. Assumes nothing.
use Rattle.std.specs.Prelude.{◌≡◌, ℕ, ◌%◌, ◌^◌, ◌<◌, ◌≤◌, Ok, Err, Result}
use Rattle.refusals.specs.declared.Refusal.{Refusal}
use Rattle.refusals.specs.declared.Refusal.TheVariants.{BoardMemoryLength}

-- 1 to 65,536 whole pages
abbrev pub WholePages : ℕ → Type 0
WholePages length = (0 < length) × (length % 256 ≡ 0) × (length ≤ 2 ^ 24)

abbrev pub Checks : ℕ → Result (Unit {0}) Refusal → Type 0
Checks length (Ok done) = WholePages length
Checks length (Err refusal) = (WholePages length → ⊥) × (refusal ≡ BoardMemoryLength)
