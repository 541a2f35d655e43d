-- What a trial promises of an image that has passed: no fault, no deeper stack, no foreign cell. Assumes nothing.
--
--   IsFault     a refusal with a number from 16 to 22
--   Harmless    an answer that tells of no fault
--   TrialSafe   so are all answers, the stack keeps to the limit, and foreign cells hold what was last poked there
use Rattle.std.specs.Prelude.{◌≡◌, ℕ, ◌<◌, ◌≤◌, List, [], length, take, Some, None, Ok, Err, Option, Result, slice_index_or}
use Rattle.refusals.specs.declared.Refusal.{Refusal}
use Rattle.refusals.specs.Numbers.{number_of}
use Rattle.memories.specs.Meaning.{Meaning}
use Rattle.machine.specs.declared.report.RunReport.{RunReport}
use Rattle.machine.specs.Calls.{Call, State, performs, last_poked}
use Rattle.machine.specs.Runs.{ran}
use Rattle.ledger.specs.declared.owned.OwnedPages.{OwnedPages}
use Rattle.ledger.specs.Pokes.{pokes_of}
use Rattle.ledger.specs.Safety.{Foreign, start}
use Rattle.calls.specs.declared.answer.Answer.{Answer}
use Rattle.calls.specs.declared.answer.Answer.TheVariants.{Step, Run, Reset, PageCount, Peek, Poke}

abbrev pub IsFault : Refusal → Type 0
IsFault refusal = (16 ≤ number_of refusal) × (number_of refusal ≤ 22)

-- what stopped a step or a run, if anything did, is no fault
abbrev pub NoFault : Option Refusal → Type 0
NoFault None = Unit {0}
NoFault (Some refusal) = IsFault refusal → ⊥

abbrev pub why_not : {A : Type 0} → Result A Refusal → Option Refusal
why_not (Ok answer) = None
why_not (Err refusal) = Some refusal

-- why a run did not start, or what stopped it
abbrev pub why_ended : Result RunReport Refusal → Option Refusal
why_ended (Ok report) = report.stop
why_ended (Err refusal) = Some refusal

abbrev pub Harmless : Answer → Type 0
Harmless (Step answer) = NoFault (why_not answer)
Harmless (Run answer) = NoFault (why_ended answer)
Harmless Reset = Unit {0}
Harmless (PageCount pages) = Unit {0}
Harmless (Peek answer) = Unit {0}
Harmless (Poke answer) = Unit {0}

-- the state that so many of the calls left
abbrev pub state_at : List ℕ → Meaning → List Call → ℕ → State
state_at image memory₀ calls place = performs image (take place calls) (start memory₀)

pub record TrialSafe (image : List ℕ) (owned : OwnedPages) (limit : ℕ) (memory₀ : Meaning) (calls : List Call) (answers : List Answer) (after : State) : Type 0 where
  pub harmless : (place : ℕ) → place < length calls → Harmless (slice_index_or answers place Reset)
  -- before and after each call
  pub shallow : (place : ℕ) → length (state_at image memory₀ calls place).core.stack ≤ limit
  -- and on the way, however far a run comes from there
  pub shallows : (place room : ℕ) (ticks : List ℕ) → length (ran image room ticks (state_at image memory₀ calls place).core (state_at image memory₀ calls place).memory).core.stack ≤ limit
  -- the board's own stack, and the memory's own cells, at the end
  pub stack : length after.core.stack ≤ limit
  pub cells : (page offset : ℕ)
      → Foreign owned page
      → after.memory.byte page offset ≡ last_poked (pokes_of image calls (start memory₀) []) page offset (memory₀.byte page offset)
