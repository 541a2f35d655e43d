-- A worked example: a program with an interrupt handler, its ledger and its depth. Assumes nothing.
use Rattle.std.specs.Prelude.{◌≡◌, ℕ, List, [], ◌∷◌, pos}
use Rattle.words.specs.declared.codes.FlagChange.TheVariants.{Seti}
use Rattle.words.specs.declared.instruction.Instruction.TheVariants.{Flag, ReturnFromInterrupt, Branch}
use Rattle.words.specs.Encoding.{word_of}
use Rattle.facts.specs.declared.marks.FrameMarks.{FrameMarks}
use Rattle.facts.specs.Marks.{unmarked}
use Rattle.facts.specs.Spans.{point}
use Rattle.ledger.specs.declared.owned.OwnedPages.{OwnedPages}
use Rattle.ledger.specs.declared.row.Row.{Row}
use Rattle.ledger.specs.Interrupts.{outermost}
use Rattle.ledger.specs.Ledgers.{Ledger}
use Rattle.ledger.specs.Needs.{depth}

-- the handler returns at once; the main program enables interrupts and stays where it is
abbrev pub waiting : List ℕ
waiting = word_of ReturnFromInterrupt ∷ word_of (Flag Seti) ∷ word_of (Branch (pos 0)) ∷ []

abbrev pub marked : FrameMarks → FrameMarks → Row
marked main handler = record { main = main; handler = handler; r14 = point 0; r15 = point 0; need = 0 }

abbrev pub waiting_rows : List Row
waiting_rows = marked unmarked outermost ∷ marked outermost unmarked ∷ marked outermost unmarked ∷ []

abbrev pub one_page : OwnedPages
one_page = record { first = 0; last = 0 }

pub record LedgerExamples : Type 0 where
  pub ledger : Ledger waiting one_page waiting_rows
  -- the entry that an interrupt pushes
  pub deep : depth waiting waiting_rows ≡ 1
