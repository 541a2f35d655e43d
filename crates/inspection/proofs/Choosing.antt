-- A chain of tests that ends in a refusal or in none. Assumes nothing.
use Rattle.std.proofs.Common.{◌≡◌, ℕ, Bool, true, false, cond, ◌⊎◌, Some, None, Option, refl, inl, inr, arith}
use Rattle.refusals.specs.declared.Refusal.{Refusal}

pub cond_some : (b : Bool) (x : Refusal) (rest : Option Refusal) {r : Refusal} → cond b (Some x) rest ≡ Some r → ((b ≡ true) × (x ≡ r)) ⊎ ((b ≡ false) × (rest ≡ Some r))
cond_some true x rest e = inl (refl, cc)
cond_some false x rest e = inr (refl, e)

pub cond_none : (b : Bool) (x : Refusal) (rest : Option Refusal) → cond b (Some x) rest ≡ None → (b ≡ false) × (rest ≡ None)
cond_none true x rest e = let z : ◌≡◌ {A = ℕ} 0 1 = cc in absurd (omega arith)
cond_none false x rest e = (refl, e)
