-- What decoding and encoding answer, and the law that ties words to instructions. Assumes nothing.
use Rattle.std.specs.Prelude.{◌≡◌, ℕ, Some, None, Ok, Err, Option, Result}
use Rattle.refusals.specs.declared.Refusal.{Refusal}
use Rattle.refusals.specs.declared.Refusal.TheVariants.{UndefinedWord, FieldOutOfRange}
use Rattle.words.specs.declared.instruction.Instruction.{Instruction}
use Rattle.words.specs.Decoding.{instruction_of}
use Rattle.words.specs.Encoding.{Valid, word_of}
use Rattle.words.specs.Patterns.{Defined}

abbrev pub Writes : Instruction → ℕ → Type 0
Writes i w = Valid i × (word_of i ≡ w)

-- a defined word gives the instruction that writes it, any other number is refused
abbrev pub Decodes : ℕ → Result Instruction Refusal → Type 0
Decodes w (Ok i) = Defined w × Writes i w
Decodes w (Err refusal) = (Defined w → ⊥) × (refusal ≡ UndefinedWord 0)

-- the answer to a word, from what it computes to
abbrev pub answer_of : Option Instruction → Result Instruction Refusal
answer_of None = Err (UndefinedWord 0)
answer_of (Some instruction) = Ok instruction

-- a valid instruction gives the word that it writes, any other is refused
abbrev pub Encodes : Instruction → Result ℕ Refusal → Type 0
Encodes i (Ok w) = Writes i w
Encodes i (Err refusal) = (Valid i → ⊥) × (refusal ≡ FieldOutOfRange)

-- a word is defined exactly when some valid instruction writes it, and then only one does
pub record OneInstructionEach : Type 0 where
  pub written : (w : ℕ) → Defined w → (i : Instruction) × Writes i w
  pub defined : (i : Instruction) (w : ℕ) → Writes i w → Defined w
  -- and it is what the word computes to
  pub decoded : (w : ℕ) → Decodes w (answer_of (instruction_of w))
  pub only : (i j : Instruction) (w : ℕ) → Writes i w → Writes j w → i ≡ j
