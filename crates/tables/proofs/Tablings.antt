-- From the table of a program to that of the job that tells it. Assumes nothing.
use Rattle.std.proofs.Common.{◌≡◌, ℕ, List, Ok, Err, Result, subst, sym, MatchResult}
use Rattle.std.specs.Prelude.{IsErrAnd}
use Rattle.ledger.specs.declared.owned.OwnedPages.{OwnedPages}
use Rattle.ledger.specs.declared.row.Row.{Row}
use Rattle.jobs.specs.declared.job.JobError.{JobError}
use Rattle.tables.specs.Tabling.{NoTable}

-- an error that says why there is no table
module _ {X : Type 0} (Tabled : X → Type 0) (owned : OwnedPages) (words : List ℕ) (rows : List Row) where
  pub untabled : (r : Result X JobError) (error : JobError) → IsErrAnd r (λ e. e ≡ error) → NoTable owned words rows error → MatchResult r Tabled (NoTable owned words rows)
  untabled (Ok x) error given none = elim given [ ]
  untabled (Err e) error given none = subst (NoTable owned words rows) (sym given) none
