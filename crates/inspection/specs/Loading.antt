-- The load bytes of an image: three for each word, the high byte first. Assumes nothing.
use Rattle.std.specs.Prelude.{◌≡◌, ℕ, ◌+◌, ◌*◌, ◌/◌, ◌%◌, ◌^◌, ◌<◌, ◌≤◌, ◌⊎◌, List, length, Ok, Err, Result, slice_index, slice_index_or}
use Rattle.refusals.specs.declared.Refusal.{Refusal}
use Rattle.refusals.specs.declared.Refusal.TheVariants.{LoadBytesTooShort}

-- three bytes are those of a word, all others as they were
pub record Placed (a word : ℕ) (bytes bytes' : List ℕ) : Type 0 where
  pub long : length bytes' ≡ length bytes
  pub high : slice_index_or bytes' (3 * a) 0 ≡ word / 65536 % 256
  pub middle : slice_index_or bytes' (3 * a + 1) 0 ≡ word / 256 % 256
  pub low : slice_index_or bytes' (3 * a + 2) 0 ≡ word % 256
  pub others : (k : ℕ) → (k < 3 * a) ⊎ (3 * a + 3 ≤ k) → slice_index bytes' k ≡ slice_index bytes k

-- the bytes of each word at its place, and all bytes behind as they were
pub record Loaded (words bytes bytes' : List ℕ) : Type 0 where
  pub long : length bytes' ≡ length bytes
  pub high : (a : ℕ) → a < length words → slice_index bytes' (3 * a) ≡ slice_index words a / 65536 % 256
  pub middle : (a : ℕ) → a < length words → slice_index bytes' (3 * a + 1) ≡ slice_index words a / 256 % 256
  pub low : (a : ℕ) → a < length words → slice_index bytes' (3 * a + 2) ≡ slice_index words a % 256
  pub rest : (k : ℕ) → 3 * length words ≤ k → slice_index bytes' k ≡ slice_index bytes k

-- too short a list is refused and stays
abbrev pub Loads : List ℕ → List ℕ → Result (Unit {0}) Refusal → List ℕ → Type 0
Loads words bytes (Ok done) bytes' = (3 * length words ≤ length bytes) × Loaded words bytes bytes'
Loads words bytes (Err refusal) bytes' = (length bytes < 3 * length words) × (refusal ≡ LoadBytesTooShort) × (bytes' ≡ bytes)

-- nothing of a word is lost
abbrev pub LoadLaw : Type 0
LoadLaw = (w : ℕ) → w < 2 ^ 18 → w / 65536 % 256 * 65536 + w / 256 % 256 * 256 + w % 256 ≡ w
