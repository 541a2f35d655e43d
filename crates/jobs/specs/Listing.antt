-- The text of a job's listing: a line for each word, and one for the owned pages and the ticks. Assumes nothing.
use Rattle.std.specs.Prelude.{◌≡◌, ℕ, ◌+◌, ◌/◌, ◌%◌, ◌^◌, cond, List, [], ◌∷◌, ◌++◌, length, Ok, Err, codes, decimal, Result, nat_lt}
use Rattle.refusals.specs.declared.Refusal.{Refusal}
use Rattle.refusals.specs.Numbers.{number_of, value_of}
use Rattle.refusals.specs.Sentences.{sentence}
use Rattle.words.specs.declared.instruction.Instruction.{Instruction}
use Rattle.words.specs.Codec.{Decodes}
use Rattle.words.specs.Hex.{hex_digit, hex_two, hex_four}
use Rattle.words.specs.Text.{text}
use Rattle.ledger.specs.declared.owned.OwnedPages.{OwnedPages}
use Rattle.jobs.specs.declared.job.JobError.{JobError}
use Rattle.jobs.specs.declared.job.JobError.TheVariants.{OutOfMemory, Refused}
use Rattle.jobs.specs.Jobs.{Reading, accepted, refused}

-- five digits, or six where the word needs them
abbrev pub word_digits : ℕ → List ℕ
word_digits word = cond (nat_lt word (2 ^ 20)) (hex_digit (word / 65536 % 16) ∷ []) (hex_two (word / 65536)) ++ hex_four word

-- the instruction, or the number of its refusal
abbrev pub decoded_text : Result Instruction Refusal → List ℕ
decoded_text (Ok instruction) = text instruction
decoded_text (Err refusal) = codes "refused " ++ decimal (number_of refusal)

abbrev pub line_text : ℕ → ℕ → Result Instruction Refusal → List ℕ
line_text address word decoded = hex_four address ++ (codes " " ++ (word_digits word ++ (codes " " ++ decoded_text decoded)))

-- a line for each word from an address on, each ended by a newline (10)
abbrev pub Lines : ℕ → List ℕ → List ℕ → Type 0
Lines address [] lines = lines ≡ []
Lines address (word ∷ words) lines =
    (decoded : Result Instruction Refusal) × (rest : List ℕ) × Decodes word decoded × (lines ≡ line_text address word decoded ++ (10 ∷ rest)) × Lines (address + 1) words rest

abbrev pub summary_text : OwnedPages → ℕ → List ℕ
summary_text pages ticks =
    codes "pages " ++ (decimal pages.first ++ (codes " to " ++ (decimal pages.last ++ (codes ", ticks " ++ decimal ticks))))

abbrev pub refused_text : Refusal → List ℕ
refused_text refusal = codes "JOB " ++ (decimal (number_of refusal) ++ (codes " at " ++ decimal (value_of refusal)))

-- what is said of the error for which a job was not read
abbrev pub error_text : JobError → List ℕ
error_text (Refused refusal) = sentence refusal
error_text OutOfMemory = codes "out of memory"

-- the listing of a job, or the one line of a refused one
abbrev pub Lists : Reading → List ℕ → Type 0
Lists (accepted pages words ticks) listing =
    (lines : List ℕ) × Lines 0 words lines × (listing ≡ lines ++ (summary_text pages (length ticks) ++ (10 ∷ [])))
Lists (refused refusal) listing = listing ≡ refused_text refusal ++ (10 ∷ [])
