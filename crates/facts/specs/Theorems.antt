-- What holds of every smallest table. Assumes nothing.
--
--   Passes           a test of addresses goes on along the steps from marked ones
--   SmallestLaws     the smallest table is one, is bottom where nothing is given, and is the ground of an induction
--   Lasting          what is known is never carried to nothing
--   SameMarked       two kinds know something at the same addresses
use Rattle.std.specs.Prelude.{◌≡◌, ℕ, ◌<◌, Bool, true, List, length}
use Rattle.words.specs.declared.instruction.Instruction.{Instruction}
use Rattle.facts.specs.Kinds.{Kind}
use Rattle.facts.specs.Successors.{Edge, Step}
use Rattle.facts.specs.Tables.{fact_at, summary, carry, Agree, Smallest, known, marked}

abbrev pub Passes : {F : Type 0} → Kind F → List ℕ → List F → (ℕ → Bool) → Type 0
Passes k image table test =
    (edge : Edge) (a : ℕ) (i : Instruction) (b : ℕ)
    → Step image edge a i b
    → marked k table a ≡ true
    → test a ≡ true
    → test b ≡ true

pub record SmallestLaws {F : Type 0} (k : Kind F) : Type 0 where
  pub unique :
      (image : List ℕ) (start : ℕ) (given : F) (table other : List F)
      → Smallest k image start given table
      → Smallest k image start given other
      → Agree k (length image) table other
  -- from outside the image nothing flows, nor from bottom
  pub nothing :
      (image : List ℕ) (start : ℕ) (given : F) (table : List F)
      → Smallest k image start given table
      → (start < length image → given ≡ k.bottom)
      → (a : ℕ)
      → a < length image
      → fact_at k table a ≡ k.bottom
  -- whatever holds at the start, and passes along steps from marked addresses, holds at every marked address
  pub induction :
      (image : List ℕ) (start : ℕ) (given : F) (table : List F)
      → Smallest k image start given table
      → (test : ℕ → Bool)
      → (start < length image → test start ≡ true)
      → Passes k image table test
      → (a : ℕ)
      → a < length image
      → marked k table a ≡ true
      → test a ≡ true

abbrev pub Lasting : {F : Type 0} → Kind F → Type 0
Lasting {F} k =
    (image : List ℕ) (table : List F) (edge : Edge) (i : Instruction) (a : ℕ)
    → a < length image
    → marked k table a ≡ true
    → known k (carry k edge i (summary k image table) (fact_at k table a)) ≡ true

abbrev pub SameMarked : {F G : Type 0} → Kind F → Kind G → Type 0
SameMarked {F} {G} k l =
    (image : List ℕ) (start : ℕ) (given : F) (given' : G) (table : List F) (table' : List G)
    → Smallest k image start given table
    → Smallest l image start given' table'
    → known k given ≡ known l given'
    → (a : ℕ)
    → a < length image
    → marked k table a ≡ marked l table' a
