-- The lines of a table, word by word. Assumes nothing.
use Rattle.std.proofs.Common.{◌≡◌, ℕ, ◌+◌, List, [], ◌∷◌, ◌++◌, refl, ap, ◌∙◌, append_assoc}
use Rattle.std.specs.List.{flat_map, zip, enumerate_from}
use Rattle.words.specs.Decoding.{instruction_of}
use Rattle.ledger.specs.declared.row.Row.{Row}
use Rattle.tables.specs.Table.{line_text, lines_text}

-- the line of a word and its row at an address
abbrev pub numbered_line : ℕ × (ℕ × Row) → List ℕ
numbered_line l = line_text l.0 l.1.0 (instruction_of l.1.0) l.1.1 ++ (10 ∷ [])

pub lines_numbered : (address : ℕ) (words : List ℕ) (rows : List Row) → flat_map numbered_line (enumerate_from address (zip words rows)) ≡ lines_text address words rows
lines_numbered address [] rows = refl
lines_numbered address (word ∷ words) [] = refl
lines_numbered address (word ∷ words) (row ∷ rows) =
    append_assoc (line_text address word (instruction_of word) row) (10 ∷ []) (flat_map numbered_line (enumerate_from (address + 1) (zip words rows)))
    ∙ ap (λ l. line_text address word (instruction_of word) row ++ (10 ∷ l)) (lines_numbered (address + 1) words rows)
