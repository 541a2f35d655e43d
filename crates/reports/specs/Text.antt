-- The text of a job's report: a line for the verdict, and one for the run. Assumes nothing.
--
-- Each line is ended by a newline (10).
use Rattle.std.specs.Prelude.{ℕ, List, [], ◌∷◌, ◌++◌, Ok, Err, codes, decimal, Result}
use Rattle.refusals.specs.declared.Refusal.{Refusal}
use Rattle.refusals.specs.Numbers.{number_of, value_of}
use Rattle.machine.specs.declared.report.RunReport.{RunReport}
use Rattle.machine.specs.Runs.{stop_number}
use Rattle.jobs.specs.Listing.{refused_text}
use Rattle.reports.specs.declared.outcome.JobReport.{JobReport}
use Rattle.reports.specs.declared.outcome.RunLine.{RunLine}
use Rattle.reports.specs.declared.outcome.JobOutcome.{JobOutcome}
use Rattle.reports.specs.declared.outcome.JobOutcome.TheVariants.{CarriedOut, Refused}

-- the certified depth, or the number and the value of the refusal
abbrev pub verdict_text : Result ℕ Refusal → List ℕ
verdict_text (Ok depth) = codes "PASS depth " ++ decimal depth
verdict_text (Err refusal) = codes "REFUSED " ++ (decimal (number_of refusal) ++ (codes " at " ++ decimal (value_of refusal)))

abbrev pub run_line : ℕ → ℕ → ℕ → ℕ → ℕ → List ℕ
run_line ticks cycles exports stop place =
    codes "RUN ticks " ++ (decimal ticks ++ (codes " cycles " ++ (decimal cycles ++ (codes " exports " ++ (decimal exports ++ (codes " stop " ++ (decimal stop ++ (codes " at " ++ decimal place))))))))

abbrev pub line_text : RunLine → List ℕ
line_text line = run_line line.ticks line.cycles line.exports line.stop line.place

-- a run that did not start has counted nothing
abbrev pub run_text : Result RunReport Refusal → List ℕ
run_text (Ok run) = run_line run.ticks run.cycles run.exports (stop_number run.stop) run.pc
run_text (Err refusal) = run_line 0 0 0 (number_of refusal) (value_of refusal)

abbrev pub report_text : JobReport → List ℕ
report_text report = verdict_text report.verdict ++ (10 ∷ (run_text report.run ++ (10 ∷ [])))

abbrev pub outcome_text : JobOutcome → List ℕ
outcome_text (CarriedOut report) = report_text report
outcome_text (Refused refusal) = refused_text refusal ++ (10 ∷ [])
