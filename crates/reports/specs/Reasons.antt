-- Why something was refused or stopped, in words: a line for each, ended by a newline (10). Assumes nothing.
use Rattle.std.specs.Prelude.{ℕ, List, [], ◌∷◌, ◌++◌, Some, None, Ok, Err, codes, Option, Result}
use Rattle.refusals.specs.declared.Refusal.{Refusal}
use Rattle.refusals.specs.Sentences.{sentence}
use Rattle.machine.specs.declared.report.RunReport.{RunReport}
use Rattle.reports.specs.declared.outcome.JobOutcome.{JobOutcome}
use Rattle.reports.specs.declared.outcome.JobOutcome.TheVariants.{CarriedOut, Refused}

-- nothing where nothing was refused
abbrev pub verdict_reason : Result ℕ Refusal → List ℕ
verdict_reason (Ok depth) = []
verdict_reason (Err refusal) = codes "program refused: " ++ (sentence refusal ++ (10 ∷ []))

abbrev pub stop_reason : Option Refusal → List ℕ
stop_reason None = []
stop_reason (Some refusal) = codes "run stopped: " ++ (sentence refusal ++ (10 ∷ []))

abbrev pub run_reason : Result RunReport Refusal → List ℕ
run_reason (Ok run) = stop_reason run.stop
run_reason (Err refusal) = codes "run refused: " ++ (sentence refusal ++ (10 ∷ []))

abbrev pub reasons_text : JobOutcome → List ℕ
reasons_text (CarriedOut report) = verdict_reason report.verdict ++ run_reason report.run
reasons_text (Refused refusal) = codes "job refused: " ++ (sentence refusal ++ (10 ∷ []))
