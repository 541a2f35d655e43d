-- The laws that a kind of fact owes. Assumes nothing.
use Rattle.std.specs.Prelude.{◌≡◌, ◌<◌, ◌⊎◌}
use Rattle.words.specs.declared.instruction.Instruction.{Instruction}
use Rattle.facts.specs.Kinds.{Kind, Covers}

-- covers is a partial order, and bottom its lowest
pub record Order {F : Type 0} (k : Kind F) : Type 0 where
  pub reflexive : (x : F) → Covers k x x
  pub transitive : (x y z : F) → Covers k x y → Covers k y z → Covers k x z
  pub antisymmetric : (x y : F) → Covers k x y → Covers k y x → x ≡ y
  pub lowest : (x : F) → Covers k x k.bottom

-- a join is the least that covers both, and stands higher than what it changes
pub record Joins {F : Type 0} (k : Kind F) : Type 0 where
  pub left : (x y : F) → Covers k (k.join x y) x
  pub right : (x y : F) → Covers k (k.join x y) y
  pub least : (x y z : F) → Covers k z x → Covers k z y → Covers k z (k.join x y)
  pub rises : (x y : F) → (k.join x y ≡ x) ⊎ (k.rank x < k.rank (k.join x y))

-- nothing is carried to nothing
pub record Strict {F : Type 0} (k : Kind F) : Type 0 where
  pub past : (i : Instruction) → k.past i k.bottom ≡ k.bottom
  pub enter : k.enter k.bottom ≡ k.bottom
  pub resume : (s : F) → k.resume s k.bottom ≡ k.bottom

-- larger facts and larger summaries are carried to larger facts
pub record Monotone {F : Type 0} (k : Kind F) : Type 0 where
  pub past : (i : Instruction) (x y : F) → Covers k x y → Covers k (k.past i x) (k.past i y)
  pub enter : (x y : F) → Covers k x y → Covers k (k.enter x) (k.enter y)
  pub resume : (s t x y : F) → Covers k s t → Covers k x y → Covers k (k.resume s x) (k.resume t y)

pub record Laws {F : Type 0} (k : Kind F) : Type 0 where
  pub order : Order k
  pub joins : Joins k
  pub strict : Strict k
  pub monotone : Monotone k
