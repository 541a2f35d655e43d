-- How one address is judged, by its word and by the facts there. Assumes nothing.
use Rattle.std.specs.Prelude.{ℕ, Bool, true, false, cond, not, ◌&&◌, ◌||◌, List, length, ℤ, pos, negsuc, Some, None, Option, nat_lt}
use Rattle.refusals.specs.declared.Refusal.{Refusal}
use Rattle.refusals.specs.declared.Refusal.TheVariants.{SuccessorOutside, UndefinedReached, FramesMixed, ReturnMisplaced, PageRegisterWritten, PageNotOwned}
use Rattle.words.specs.declared.instruction.Instruction.{Instruction}
use Rattle.words.specs.declared.instruction.Instruction.TheVariants.{Register, Immediate, Rotate, Flag, Direct, Indirect, BranchIf, CallIf, Call, Return, ReturnFromInterrupt, Branch}
use Rattle.facts.specs.declared.marks.FrameMarks.{FrameMarks}
use Rattle.facts.specs.declared.spans.PageSpans.{PageSpans}
use Rattle.facts.specs.declared.successors.Successors.{Successors}
use Rattle.facts.specs.Marks.{marks, any_frame}
use Rattle.facts.specs.Spans.{is, spans}
use Rattle.facts.specs.Successors.{successors}
use Rattle.facts.specs.Tables.{fact_at}
use Rattle.facts.specs.Written.{written}
use Rattle.ledger.specs.declared.owned.OwnedPages.{OwnedPages}
use Rattle.ledger.specs.Causes.{instruction_at}
use Rattle.ledger.specs.Pages.{reaches_memory, inside_owned}

abbrev pub outside_image : ℕ → ℤ → Bool
outside_image words (pos address) = not (nat_lt address words)
outside_image words (negsuc below) = true

-- there is an address, and it lies outside the image
abbrev pub escapes : ℕ → Option ℤ → Bool
escapes words None = false
escapes words (Some to) = outside_image words to

abbrev pub leaves : ℕ → Successors ℤ → Bool
leaves words to = escapes words to.next || (escapes words to.target || (escapes words to.routine || escapes words to.resume))

abbrev pub mixed : FrameMarks → Bool
mixed marks = marks.outer && marks.routine

abbrev pub either_marked : FrameMarks → FrameMarks → Bool
either_marked main handler = any_frame main || any_frame handler

-- no frame that this return could leave
abbrev pub misplaced : Instruction → FrameMarks → FrameMarks → Bool
misplaced (Register operation rd rb) main handler = false
misplaced (Immediate operation rd constant) main handler = false
misplaced (Rotate rotation rd rb) main handler = false
misplaced (Flag change) main handler = false
misplaced (Direct transfer rd number) main handler = false
misplaced (Indirect transfer rd rb) main handler = false
misplaced (BranchIf condition offset) main handler = false
misplaced (CallIf condition offset) main handler = false
misplaced (Call offset) main handler = false
misplaced Return main handler = main.outer || handler.outer
misplaced ReturnFromInterrupt main handler = any_frame main || handler.routine
misplaced (Branch offset) main handler = false

abbrev pub writes_page : Instruction → Bool
writes_page i = is 14 (written i) || is 15 (written i)

abbrev pub instruction_cause : ℕ → ℕ → Instruction → FrameMarks → FrameMarks → Option Refusal
instruction_cause words a i main handler =
    cond (leaves words (successors a i)) (Some (SuccessorOutside a))
    (cond (mixed main || mixed handler) (Some (FramesMixed a))
    (cond (misplaced i main handler) (Some (ReturnMisplaced a))
    (cond (any_frame handler && writes_page i) (Some (PageRegisterWritten a)) None)))

abbrev pub word_cause : ℕ → ℕ → Option Instruction → FrameMarks → FrameMarks → Option Refusal
word_cause words a None main handler = Some (UndefinedReached a)
word_cause words a (Some i) main handler = instruction_cause words a i main handler

-- the cause from 5 to 9, if there is one, of the smallest number
abbrev pub cause_of : ℕ → ℕ → Option Instruction → FrameMarks → FrameMarks → Option Refusal
cause_of words a found main handler = cond (either_marked main handler) (word_cause words a found main handler) None

abbrev pub cause_in : List ℕ → List FrameMarks → List FrameMarks → ℕ → Option Refusal
cause_in image mains handlers a = cause_of (length image) a (instruction_at image a) (fact_at marks mains a) (fact_at marks handlers a)

-- by the main program with its own spans, by the handler with all of them
abbrev pub strays : OwnedPages → FrameMarks → FrameMarks → Option PageSpans → Option PageSpans → Bool
strays owned main handler here all = (any_frame main && not (inside_owned owned here)) || (any_frame handler && not (inside_owned owned all))

abbrev pub reaching : Option Instruction → Bool
reaching None = false
reaching (Some i) = reaches_memory i

-- cause 11
abbrev pub foreign_of : ℕ → OwnedPages → Option Instruction → FrameMarks → FrameMarks → Option PageSpans → Option PageSpans → Option Refusal
foreign_of a owned found main handler here all = cond (reaching found && strays owned main handler here all) (Some (PageNotOwned a)) None

abbrev pub foreign_in : List ℕ → OwnedPages → List FrameMarks → List FrameMarks → List (Option PageSpans) → Option PageSpans → ℕ → Option Refusal
foreign_in image owned mains handlers here all a =
    foreign_of a owned (instruction_at image a) (fact_at marks mains a) (fact_at marks handlers a) (fact_at spans here a) all
