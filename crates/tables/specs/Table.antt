-- The ledger of an image as comma-separated text: a line of column names, and a line for each word. Assumes nothing.
--
-- Each line is ended by a newline (10). An instruction stands between quotes (34), since its text may hold a comma.
use Rattle.std.specs.Prelude.{ℕ, ◌+◌, List, [], ◌∷◌, ◌++◌, Some, None, codes, decimal, Option}
use Rattle.words.specs.declared.instruction.Instruction.{Instruction}
use Rattle.words.specs.Decoding.{instruction_of}
use Rattle.words.specs.Text.{text}
use Rattle.facts.specs.declared.interval.Interval.{Interval}
pub use Rattle.facts.specs.Marks.{marks_text}
use Rattle.ledger.specs.declared.row.Row.{Row}
use Rattle.jobs.specs.Listing.{word_digits}

abbrev pub header_text : List ℕ
header_text = codes "address,word,instruction,main,handler,r14_low,r14_high,r15_low,r15_high,need"

-- nothing where the word is no instruction
abbrev pub instruction_text : Option Instruction → List ℕ
instruction_text None = []
instruction_text (Some instruction) = text instruction

abbrev pub interval_text : Interval → List ℕ
interval_text interval = decimal interval.low ++ (codes "," ++ decimal interval.high)

abbrev pub row_text : Row → List ℕ
row_text row =
    marks_text row.main ++ (codes "," ++ (marks_text row.handler ++ (codes "," ++ (interval_text row.r14 ++ (codes "," ++ (interval_text row.r15 ++ (codes "," ++ decimal row.need)))))))

abbrev pub line_text : ℕ → ℕ → Option Instruction → Row → List ℕ
line_text address word instruction row =
    decimal address ++ (codes "," ++ (word_digits word ++ (codes "," ++ (34 ∷ (instruction_text instruction ++ (34 ∷ (codes "," ++ row_text row)))))))

-- a line for each word that has a row, from an address on
abbrev pub lines_text : ℕ → List ℕ → List Row → List ℕ
lines_text address [] rows = []
lines_text address (word ∷ words) [] = []
lines_text address (word ∷ words) (row ∷ rows) = line_text address word (instruction_of word) row ++ (10 ∷ lines_text (address + 1) words rows)

abbrev pub table_text : List ℕ → List Row → List ℕ
table_text words rows = header_text ++ (10 ∷ lines_text 0 words rows)
