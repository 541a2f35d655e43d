-- What calls answer, and what they write into the export list. Assumes nothing.
--
--   answer_of     what a call answers, by the state before it
--   exports_by    the export list after a call
--   answers_of    what each call of a list answers, by the state that those before it left
--   exports_of    the export list after a list of calls
use Rattle.std.specs.Prelude.{ℕ, cond, List, [], ◌∷◌, ◌++◌, length, drop, Some, None, Ok, Err, Option, Result, nat_lt}
use Rattle.refusals.specs.declared.Refusal.{Refusal}
use Rattle.refusals.specs.declared.Refusal.TheVariants.{NoSuchPage}
use Rattle.machine.specs.declared.report.RunReport.{RunReport}
use Rattle.machine.specs.declared.step.Stepped.{Stepped}
use Rattle.machine.specs.Calls.{Call, stepping, running, resetting, counting, peeking, poking, State, does}
use Rattle.machine.specs.Runs.{Ran, ran, hindered, lone}
use Rattle.machine.specs.Steps.{Outcome, stopped, went}
use Rattle.calls.specs.declared.answer.Answer.{Answer}
use Rattle.calls.specs.declared.answer.Answer.TheVariants.{Step, Run, Reset, PageCount, Peek, Poke}

abbrev pub step_answer : Outcome → Result Stepped Refusal
step_answer (stopped refusal) = Err refusal
step_answer (went core memory cycles export) = Ok (record { cycles = cycles; export = export })

abbrev pub report_of : Ran → RunReport
report_of run = record { ticks = run.ticks; cycles = run.cycles; exports = length run.exports; stop = run.stop; pc = run.core.pc }

-- the report of the run, if nothing keeps it from starting
abbrev pub run_answer : Option Refusal → Ran → Result RunReport Refusal
run_answer None run = Ok (report_of run)
run_answer (Some refusal) run = Err refusal

-- what is answered where there is the page
abbrev pub if_page : {A : Type 0} → State → ℕ → A → Result A Refusal
if_page state page answer = cond (nat_lt page state.memory.pages) (Ok answer) (Err NoSuchPage)

abbrev pub answer_of : List ℕ → Call → State → Answer
answer_of image (stepping tick) state = Step (step_answer (lone image tick state.core state.memory))
answer_of image (running ticks room) state = Run (run_answer (hindered image ticks) (ran image room ticks state.core state.memory))
answer_of image resetting state = Reset
answer_of image counting state = PageCount state.memory.pages
answer_of image (peeking page offset) state = Peek (if_page state page (state.memory.byte page offset))
answer_of image (poking page offset byte) state = Poke (if_page state page tt)

-- the exports of a run that started stand at the front
abbrev pub run_exports : Option Refusal → Ran → List ℕ → List ℕ
run_exports None run exports = run.exports ++ drop (length run.exports) exports
run_exports (Some refusal) run exports = exports

abbrev pub exports_by : List ℕ → Call → State → List ℕ → List ℕ
exports_by image (stepping tick) state exports = exports
exports_by image (running ticks room) state exports = run_exports (hindered image ticks) (ran image room ticks state.core state.memory) exports
exports_by image resetting state exports = exports
exports_by image counting state exports = exports
exports_by image (peeking page offset) state exports = exports
exports_by image (poking page offset byte) state exports = exports

abbrev pub answers_of : List ℕ → List Call → State → List Answer
answers_of image [] state = []
answers_of image (call ∷ calls) state = answer_of image call state ∷ answers_of image calls (does image call state)

abbrev pub exports_of : List ℕ → List Call → State → List ℕ → List ℕ
exports_of image [] state exports = exports
exports_of image (call ∷ calls) state exports = exports_of image calls (does image call state) (exports_by image call state exports)
