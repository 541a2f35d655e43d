-- When two memories mean the same. Assumes nothing.
use Rattle.std.proofs.Common.{◌≡◌, ℕ, ◌<◌, refl, arith}
use Rattle.std.proofs.lemmas.Bool.Decides.{nat_tests}
use Rattle.memories.specs.Meaning.{Meaning, filled}

-- meanings with as many pages and the same bytes
pub same_meaning : (a b : Meaning) → a.pages ≡ b.pages → ((page offset : ℕ) → a.byte page offset ≡ b.byte page offset) → a ≡ b
same_meaning a b pages bytes = λ i. record { pages = pages i; byte = λ page offset. bytes page offset i }

pub filled_same : (count : ℕ) {f g : ℕ → ℕ → ℕ} → ((page offset : ℕ) → offset < 256 → f page offset ≡ g page offset) → filled count f ≡ filled count g
filled_same count same = same_meaning _ _ refl (λ page offset. let h = same page offset in grind (arith, nat_tests))
