-- What is true of every memory, told by its cells. Assumes nothing.
use Rattle.std.specs.Prelude.{◌≡◌, ℕ, ◌+◌, ◌*◌, ◌^◌, ◌<◌, List, length, Result, ◌≢◌}
use Rattle.refusals.specs.declared.Refusal.{Refusal}
use Rattle.memories.specs.Calls.{Peeks, Pokes}
use Rattle.memories.specs.Frames.{cut}
use Rattle.memories.specs.Kinds.{joined, of_bytes}
use Rattle.memories.specs.Lengths.{WholePages}
use Rattle.memories.specs.Meaning.{Meaning, Sound, poked}

-- the calls have one answer each, and poking sets one cell of a memory and leaves a memory
pub record CellLaws : Type 0 where
  pub peeks_once : (memory : Meaning) (page offset : ℕ) (r s : Result ℕ Refusal) → Peeks memory page offset r → Peeks memory page offset s → r ≡ s
  pub pokes_once : (before : Meaning) (page offset byte : ℕ) (r s : Result (Unit {0}) Refusal) (after after' : Meaning) → Pokes before page offset byte r after → Pokes before page offset byte s after' → (r ≡ s) × (after ≡ after')
  pub here : (memory : Meaning) (page offset byte : ℕ) → (poked memory page offset byte).byte page offset ≡ byte
  pub elsewhere : (memory : Meaning) (page offset byte p o : ℕ) → (p ≡ page → o ≢ offset) → (poked memory page offset byte).byte p o ≡ memory.byte p o
  pub sound : (memory : Meaning) (page offset byte : ℕ) → Sound memory → page < memory.pages → offset < 256 → byte < 256 → Sound (poked memory page offset byte)

-- each page of the parts is a page of the whole, as far as there may be pages
pub record JoinedLaws : Type 0 where
  pub first : (a b : Meaning) → Sound a → (page offset : ℕ) → page < a.pages → (joined a b).byte page offset ≡ a.byte page offset
  pub second : (a b : Meaning) → Sound b → (page offset : ℕ) → a.pages + page < 2 ^ 16 → (joined a b).byte (a.pages + page) offset ≡ b.byte page offset
  -- the whole, and how it was cut, fix both parts
  pub fixed : (a b a' b' : Meaning) → Sound a → Sound b → Sound a' → Sound b' → joined a b ≡ joined a' b' → cut a b ≡ cut a' b' → (a ≡ a') × (b ≡ b')

pub record MemoryLaws : Type 0 where
  pub cells : CellLaws
  pub joins : JoinedLaws
  -- every byte of a checked length is a cell
  pub whole : (bytes : List ℕ) → WholePages (length bytes) → 256 * (of_bytes bytes).pages ≡ length bytes
