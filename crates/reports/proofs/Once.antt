-- The bytes of a job come to one outcome, which is told in one way. Assumes nothing.
use Rattle.std.proofs.Common.{◌≡◌, ℕ, List, Result, sym, ap, ◌∙◌, subst}
use Rattle.refusals.specs.declared.Refusal.{Refusal}
use Rattle.memories.specs.Kinds.{of_bytes}
use Rattle.machine.specs.declared.report.RunReport.{RunReport}
use Rattle.machine.specs.Cores.{fresh}
use Rattle.ledger.specs.declared.owned.OwnedPages.{OwnedPages}
use Rattle.ledger.specs.declared.row.Row.{Row}
use Rattle.jobs.specs.Jobs.{Reading, accepted, refused}
use Rattle.jobs.proofs.Laws.{reading_laws}
use Rattle.reports.specs.declared.outcome.JobOutcome.{JobOutcome}
use Rattle.reports.specs.declared.outcome.JobOutcome.TheVariants.{CarriedOut, Refused}
use Rattle.reports.specs.declared.outcome.JobReport.{JobReport}
use Rattle.reports.specs.Carrying.{Judged, Tried, CarriesOut}
use Rattle.reports.specs.Reporting.{Comes, OutcomeOf, ReportLaws}
use Rattle.reports.specs.Text.{outcome_text}
use Rattle.reports.proofs.Runs.{one_run}
use Rattle.inspection.proofs.Once.{one_verdict}

judged_once : {words : List ℕ} {owned : OwnedPages} {rows : List Row} {r s : Result ℕ Refusal} → Judged words owned rows r → Judged words owned rows s → r ≡ s
judged_once {words} {owned} {rows} x y =
    x.told ∙ (one_verdict words owned rows x.answer y.answer x.after y.after x.inspected y.inspected).0 ∙ sym y.told

tried_once : {words ticks cells exports : List ℕ} {r s : Result RunReport Refusal} → Tried words ticks cells exports r → Tried words ticks cells exports s → r ≡ s
tried_once {words} {ticks} {cells} {exports} {r} {s} x y =
    one_run words ticks fresh (of_bytes cells) exports r s x.core y.core x.memory y.memory x.after y.after x.runs y.runs

carried_once : {owned : OwnedPages} {words ticks : List ℕ} (a b : JobReport) → CarriesOut owned words ticks a → CarriesOut owned words ticks b → a ≡ b
carried_once a b x y = λ i. record { verdict = verdict i; run = run i }
  where
    verdict : a.verdict ≡ b.verdict
    verdict = judged_once x.verdict y.verdict

    run : a.run ≡ b.run
    run = tried_once x.run y.run

comes_once : (reading : Reading) (a b : JobOutcome) → Comes reading a → Comes reading b → a ≡ b
comes_once (accepted owned words ticks) (CarriedOut a) (CarriedOut b) x y = ap CarriedOut (carried_once a b x y)
comes_once (accepted owned words ticks) (CarriedOut a) (Refused s) x y = absurd y
comes_once (accepted owned words ticks) (Refused r) (CarriedOut b) x y = absurd x
comes_once (accepted owned words ticks) (Refused r) (Refused s) x y = absurd x
comes_once (refused refusal) (CarriedOut a) (CarriedOut b) x y = absurd x
comes_once (refused refusal) (CarriedOut a) (Refused s) x y = absurd x
comes_once (refused refusal) (Refused r) (CarriedOut b) x y = absurd y
comes_once (refused refusal) (Refused r) (Refused s) x y = ap Refused (x ∙ sym y)

outcome_once : (bytes : List ℕ) (a b : JobOutcome) → OutcomeOf bytes a → OutcomeOf bytes b → a ≡ b
outcome_once bytes a b x y =
    comes_once y.reading a b (subst (λ reading. Comes reading a) (reading_laws.one_meaning bytes x.reading y.reading x.means y.means) x.comes) y.comes

pub report_laws : ReportLaws
report_laws = record {
  one_outcome = outcome_once;
  one_text = λ bytes a b x y. x.told ∙ ap outcome_text (outcome_once bytes x.outcome y.outcome x.came y.came) ∙ sym y.told;
}
