-- The verdict with its rows, from the verdict alone. Assumes nothing.
use Rattle.std.proofs.Common.{◌≡◌, ℕ, true, List, length, replicate, is_err, Ok, Err, Result}
use Rattle.std.proofs.lemmas.Bool.{false≢true}
use Rattle.refusals.specs.declared.Refusal.{Refusal}
use Rattle.ledger.specs.declared.owned.OwnedPages.{OwnedPages}
use Rattle.ledger.specs.declared.row.Row.{Row}
use Rattle.ledger.specs.Rows.{blank_row}
use Rattle.ledger.proofs.Growing.{refused_none}
use Rattle.inspection.specs.Inspects.{Caused, Refused, Decides, Judges}

pub refused : {image : List ℕ} {owned : OwnedPages} {refusal : Refusal} → Caused image owned refusal → Refused image owned refusal
refused caused = record { none = refused_none caused.surveyed caused.because; cause = caused }

module _ (image : List ℕ) (owned : OwnedPages) where
  pub judged_err : (r : Result ℕ Refusal) (rows rows' : List Row) → Decides image owned r rows → is_err r ≡ true → rows' ≡ replicate (length image) blank_row → Judges image owned r rows'
  judged_err (Ok certified) rows rows' h e z = absurd (false≢true e)
  judged_err (Err refusal) rows rows' h e z = (refused h, z)
