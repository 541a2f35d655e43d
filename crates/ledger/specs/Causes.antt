-- Why an image has no ledger: each cause, at an address of the image. Assumes nothing.
--
-- In the order of the refusals that they give, with the numbers of these; 10 is the want of needs or of depth.
--
--    5  LeadsOutside         a marked word leads out of the image
--    6  Undefined            a marked word is no instruction
--    7  MixedFrames          one context comes both in the outer frame and in a routine
--    8  MisplacedReturn      ret in an outer frame, iret outside the handler's outer frame
--    9  WritesPageRegister   a word of the handler writes R14 or R15
--   11  ForeignPage          a word reaches a page that is not owned
use Rattle.std.specs.Prelude.{◌≡◌, ℕ, true, false, ◌⊎◌, List, length, ℤ, Some, None, Option, slice_index}
use Rattle.words.specs.declared.instruction.Instruction.{Instruction}
use Rattle.words.specs.declared.instruction.Instruction.TheVariants.{Return, ReturnFromInterrupt}
use Rattle.words.specs.Addresses.{inside_image}
use Rattle.words.specs.Decoding.{instruction_of}
use Rattle.facts.specs.declared.marks.FrameMarks.{FrameMarks}
use Rattle.facts.specs.Successors.{Edge, Leads, successors}
use Rattle.facts.specs.Written.{written}
use Rattle.ledger.specs.declared.owned.OwnedPages.{OwnedPages}
use Rattle.ledger.specs.declared.row.Row.{Row}
use Rattle.ledger.specs.Pages.{reaches_memory, inside_owned}
use Rattle.ledger.specs.Rows.{main_at, handler_at, spans_at, all_spans, MainMarked, HandlerMarked, Marked}

abbrev pub instruction_at : List ℕ → ℕ → Option Instruction
instruction_at image a = instruction_of (slice_index image a)

pub record LeadsOutside (image : List ℕ) (rows : List Row) (a : ℕ) : Type 0 where
  pub marked : Marked rows a
  pub instruction : Instruction
  pub found : instruction_at image a ≡ Some instruction
  pub edge : Edge
  pub to : ℤ
  pub leads : Leads (successors a instruction) edge to
  pub outside : inside_image (length image) to ≡ None

pub record Undefined (image : List ℕ) (rows : List Row) (a : ℕ) : Type 0 where
  pub marked : Marked rows a
  pub none : instruction_at image a ≡ None

abbrev pub Mixed : FrameMarks → Type 0
Mixed marks = (marks.outer ≡ true) × (marks.routine ≡ true)

abbrev pub MixedFrames : List Row → ℕ → Type 0
MixedFrames rows a = Mixed (main_at rows a) ⊎ Mixed (handler_at rows a)

-- ret ends a routine's frame, iret the handler's outer one
abbrev pub MisplacedReturn : List ℕ → List Row → ℕ → Type 0
MisplacedReturn image rows a =
    ((instruction_at image a ≡ Some Return) × (((main_at rows a).outer ≡ true) ⊎ ((handler_at rows a).outer ≡ true)))
    ⊎ ((instruction_at image a ≡ Some ReturnFromInterrupt) × (MainMarked rows a ⊎ ((handler_at rows a).routine ≡ true)))

pub record WritesPageRegister (image : List ℕ) (rows : List Row) (a : ℕ) : Type 0 where
  pub marked : HandlerMarked rows a
  pub instruction : Instruction
  pub found : instruction_at image a ≡ Some instruction
  pub writes : (written instruction ≡ Some 14) ⊎ (written instruction ≡ Some 15)

-- the main program's own spans, or for the handler all spans, pass the owned pages
pub record ForeignPage (image : List ℕ) (owned : OwnedPages) (rows : List Row) (a : ℕ) : Type 0 where
  pub instruction : Instruction
  pub found : instruction_at image a ≡ Some instruction
  pub reaches : reaches_memory instruction ≡ true
  pub foreign : (MainMarked rows a × (inside_owned owned (spans_at rows a) ≡ false)) ⊎ (HandlerMarked rows a × (inside_owned owned (all_spans image rows) ≡ false))
