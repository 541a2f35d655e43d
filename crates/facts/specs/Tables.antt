-- Tables of facts, one for each word of an image: which are closed, and which is the smallest of these. Assumes nothing.
--
--   fact_at    the fact that a table has at an address
--   summary    the join of the facts at the named words
--   carry      what arrives along an edge
--   Carried    what is carried from an address is covered where it arrives
--   Closed     the start has what is given, and every fact is carried on
--   Below      at each address of an image, the one table is covered by the other
--   Agree      at each address of an image, the tables have the same fact
--   Smallest   closed, and below every closed table
--   marked     something is known at the address
use Rattle.std.specs.Prelude.{◌≡◌, ℕ, ◌<◌, Bool, cond, not, List, [], ◌∷◌, length, slice_index_or}
use Rattle.words.specs.declared.instruction.Instruction.{Instruction}
use Rattle.facts.specs.Kinds.{Kind, Covers}
use Rattle.facts.specs.Successors.{Edge, past, enter, resume, Step}

abbrev pub fact_at : {F : Type 0} → Kind F → List F → ℕ → F
fact_at k table a = slice_index_or table a k.bottom

abbrev pub summary : {F : Type 0} → Kind F → List ℕ → List F → F
summary k [] table = k.bottom
summary k (word ∷ image) [] = k.bottom
summary k (word ∷ image) (fact ∷ table) = cond (k.names word) (k.join fact (summary k image table)) (summary k image table)

abbrev pub carry : {F : Type 0} → Kind F → Edge → Instruction → F → F → F
carry k past i s fact = k.past i fact
carry k enter i s fact = k.enter fact
carry k resume i s fact = k.resume s fact

-- a fact at the address a is covered, carried on, at each successor in the image
abbrev pub Carried : {F : Type 0} → Kind F → List ℕ → F → List F → ℕ → F → Type 0
Carried k image s table a fact =
    (edge : Edge) (i : Instruction) (b : ℕ) → Step image edge a i b → Covers k (fact_at k table b) (carry k edge i s fact)

-- every fact of the table is carried on, with the summary of that table
abbrev pub Flows : {F : Type 0} → Kind F → List ℕ → List F → Type 0
Flows k image table = (a : ℕ) → Carried k image (summary k image table) table a (fact_at k table a)

pub record Closed {F : Type 0} (k : Kind F) (image : List ℕ) (start : ℕ) (given : F) (table : List F) : Type 0 where
  pub begins : start < length image → Covers k (fact_at k table start) given
  pub flows : Flows k image table

abbrev pub Below : {F : Type 0} → Kind F → ℕ → List F → List F → Type 0
Below k words table other = (a : ℕ) → a < words → Covers k (fact_at k other a) (fact_at k table a)

abbrev pub Agree : {F : Type 0} → Kind F → ℕ → List F → List F → Type 0
Agree k words table other = (a : ℕ) → a < words → fact_at k table a ≡ fact_at k other a

pub record Smallest {F : Type 0} (k : Kind F) (image : List ℕ) (start : ℕ) (given : F) (table : List F) : Type 0 where
  pub closed : Closed k image start given table
  pub least : (other : List F) → Closed k image start given other → Below k (length image) table other

-- a fact other than bottom
abbrev pub known : {F : Type 0} → Kind F → F → Bool
known k fact = not (k.covers k.bottom fact)

abbrev pub marked : {F : Type 0} → Kind F → List F → ℕ → Bool
marked k table a = known k (fact_at k table a)
