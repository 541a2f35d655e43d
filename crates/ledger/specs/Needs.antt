-- How many stack entries each address needs, and how deep the stack can become. Assumes nothing.
--
--   pushes    the entries that an edge pushes
--   Needs     the needs of the rows are enough at every marked address
--   depth     how deep the stack can become by the rows
--   Suffices  a list of needs, one for each word, is enough at every marked address
--   deepest   how deep the stack can become under a list of needs
--   TooDeep   no list of needs keeps to the 16 entries of the stack
use Rattle.std.specs.Prelude.{ℕ, ◌+◌, ◌≤◌, cond, List, slice_index}
use Rattle.words.specs.declared.instruction.Instruction.{Instruction}
use Rattle.facts.specs.Successors.{Edge, past, enter, resume, Step}
use Rattle.ledger.specs.declared.row.Row.{Row}
use Rattle.ledger.specs.Interrupts.{interruptible}
use Rattle.ledger.specs.Rows.{Marked, need_at}

-- the entries that an edge pushes
abbrev pub pushes : Edge → ℕ
pushes past = 0
pushes enter = 1
pushes resume = 0

-- from a marked address: what its successors need, and one entry more for a routine
abbrev pub Needs : List ℕ → List Row → Type 0
Needs image rows =
    (a : ℕ) → Marked rows a → (edge : Edge) (i : Instruction) (b : ℕ) → Step image edge a i b → pushes edge + need_at rows b ≤ need_at rows a

-- what the main program needs; an interrupt adds its own entry and what the handler needs
abbrev pub depth : List ℕ → List Row → ℕ
depth image rows = need_at rows 1 + cond (interruptible image) (1 + need_at rows 0) 0

-- the same two of any list of needs
abbrev pub Suffices : List ℕ → List Row → List ℕ → Type 0
Suffices image rows need =
    (a : ℕ) → Marked rows a → (edge : Edge) (i : Instruction) (b : ℕ) → Step image edge a i b → pushes edge + slice_index need b ≤ slice_index need a

abbrev pub deepest : List ℕ → List ℕ → ℕ
deepest image need = slice_index need 1 + cond (interruptible image) (1 + slice_index need 0) 0

abbrev pub TooDeep : List ℕ → List Row → Type 0
TooDeep image rows = (need : List ℕ) → Suffices image rows need → deepest image need ≤ 16 → ⊥
