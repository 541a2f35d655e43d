-- What is told of the bytes of a job. Assumes nothing.
use Rattle.std.specs.Prelude.{◌≡◌, ℕ, List}
use Rattle.jobs.specs.Jobs.{Reading, accepted, refused, Means}
use Rattle.reports.specs.declared.outcome.JobOutcome.{JobOutcome}
use Rattle.reports.specs.declared.outcome.JobOutcome.TheVariants.{CarriedOut, Refused}
use Rattle.reports.specs.Carrying.{CarriesOut}
use Rattle.reports.specs.Text.{outcome_text}

-- a job is carried out; bytes that tell none are refused
abbrev pub Comes : Reading → JobOutcome → Type 0
Comes (accepted owned words ticks) (CarriedOut report) = CarriesOut owned words ticks report
Comes (accepted owned words ticks) (Refused refusal) = ⊥
Comes (refused refusal) (CarriedOut report) = ⊥
Comes (refused refusal) (Refused told) = told ≡ refusal

pub record OutcomeOf (bytes : List ℕ) (outcome : JobOutcome) : Type 0 where
  pub reading : Reading
  pub means : Means bytes reading
  pub comes : Comes reading outcome

pub record ReportOf (bytes : List ℕ) (text : List ℕ) : Type 0 where
  pub outcome : JobOutcome
  pub came : OutcomeOf bytes outcome
  pub told : text ≡ outcome_text outcome

-- bytes come to one outcome at most, and are told in one way
pub record ReportLaws : Type 0 where
  pub one_outcome : (bytes : List ℕ) (a b : JobOutcome) → OutcomeOf bytes a → OutcomeOf bytes b → a ≡ b
  pub one_text : (bytes a b : List ℕ) → ReportOf bytes a → ReportOf bytes b → a ≡ b
