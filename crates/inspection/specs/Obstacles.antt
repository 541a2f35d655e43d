-- What keeps an inspection from starting: the refusals 1 to 4, the smallest number first. Assumes nothing.
use Rattle.std.specs.Prelude.{ℕ, ◌^◌, ◌<◌, ◌≤◌, cond, List, length, Some, None, Ok, Err, Option, Result, nat_lt, slice_index}
use Rattle.refusals.specs.declared.Refusal.{Refusal}
use Rattle.refusals.specs.declared.Refusal.TheVariants.{ImageLength, WordTooLarge, PageRange, TooFewRows}
use Rattle.ledger.specs.declared.owned.OwnedPages.{OwnedPages}
use Rattle.inspection.specs.First.{NoneBefore, FirstAt}

-- 2 to 4,096 words
abbrev pub FitsDevice : List ℕ → Type 0
FitsDevice image = (2 ≤ length image) × (length image ≤ 4096)

-- a word of more than 18 bits
abbrev pub large_word : List ℕ → ℕ → Option Refusal
large_word image a = cond (nat_lt (slice_index image a) (2 ^ 18)) None (Some (WordTooLarge a))

abbrev pub SmallWords : List ℕ → Type 0
SmallWords image = NoneBefore (length image) (large_word image)

abbrev pub PagesInOrder : OwnedPages → Type 0
PagesInOrder owned = (owned.first ≤ owned.last) × (owned.last ≤ 65535)

pub record Unobstructed (image : List ℕ) (owned : OwnedPages) (rows : ℕ) : Type 0 where
  pub fits : FitsDevice image
  pub small : SmallWords image
  pub pages : PagesInOrder owned
  pub enough : length image ≤ rows

pub data Obstructed (image : List ℕ) (owned : OwnedPages) (rows : ℕ) : Refusal → Type 0 where
  length_of_image : (FitsDevice image → ⊥) → Obstructed image owned rows ImageLength
  word_too_large : {refusal : Refusal} → FitsDevice image → FirstAt (length image) (large_word image) refusal → Obstructed image owned rows refusal
  pages_of_nobody : FitsDevice image → SmallWords image → (PagesInOrder owned → ⊥) → Obstructed image owned rows PageRange
  few_rows : FitsDevice image → SmallWords image → PagesInOrder owned → rows < length image → Obstructed image owned rows TooFewRows

-- the answer of the check that comes before an inspection
abbrev pub Checks : List ℕ → OwnedPages → ℕ → Result (Unit {0}) Refusal → Type 0
Checks image owned rows (Ok done) = Unobstructed image owned rows
Checks image owned rows (Err refusal) = Obstructed image owned rows refusal
