-- The depth of a passed image, or the refusal, is the verdict. Assumes nothing.
use Rattle.std.proofs.Common.{◌≡◌, ℕ, Ok, Err, Result, ap}
use Rattle.std.specs.Prelude.{IsOkAnd, MatchResult}
use Rattle.refusals.specs.declared.Refusal.{Refusal}
use Rattle.inspection.specs.declared.passed.PassedImage.{PassedImage}
use Rattle.inspection.specs.Inspects.{verdict_of}

module _ {Tells : PassedImage → ℕ → Type 0} (depth : (passed : PassedImage) (r : ℕ) → Tells passed r → r ≡ passed.depth) where
  pub depth_told :
      (answer : Result PassedImage Refusal) (r : Result ℕ Refusal)
      → MatchResult answer (λ passed. IsOkAnd r (Tells passed)) (λ refusal. r ≡ Err refusal)
      → r ≡ verdict_of answer
  depth_told (Ok passed) (Ok r) told = ap Ok (depth passed r told)
  depth_told (Ok passed) (Err refusal) told = elim told [ ]
  depth_told (Err refusal) r told = told
