use Rattle.std.proofs.Common.{⊎_elim, arith, rules}
use Rattle.std.proofs.lemmas.Result.{err_from_is_err_and}
use Rattle.inspection.specs.Obstacles.{length_of_image, word_too_large, pages_of_nobody, few_rows}
use Rattle.inspection.proofs.checking.check.Goals as goal

pub returns-then-not-fits_device : goal.returns-then-not-fits_device
returns-then-not-fits_device c = length_of_image (λ fits. search rules)

pub returns-in_err-check_words : goal.returns-in_err-check_words
returns-in_err-check_words c =
    let p = err_from_is_err_and c.from_residual.result c.from_residual.ensures.1 in
    rw (p.1, p.2) (word_too_large (omega arith, omega arith) c.in_err-check_words.ensures)

pub returns-then-owned : goal.returns-then-owned
returns-then-owned c =
    pages_of_nobody (omega arith, omega arith) c.in_ok-check_words.ensures (λ order. ⊎_elim (λ h. omega (arith, order.0)) (λ h. omega (arith, order.1, h.1)) c.then-owned.either)

pub returns-then-rows-image : goal.returns-then-rows-image
returns-then-rows-image c =
    few_rows (omega arith, omega arith) c.in_ok-check_words.ensures (omega arith, omega arith) c.if-rows-image.true
