use Rattle.std.proofs.Common.{◌≡◌, ◌++◌, length, take, sym, ◌∙◌, subst, rules}
use Rattle.std.proofs.lemmas.List.{take_at}
use Rattle.std.proofs.lemmas.Slice.{overwrites}
use Rattle.ledger.specs.Limits.{SafeImageWithin}
use Rattle.ledger.proofs.Performing.{safe_image}
use Rattle.inspection.specs.Inspects.{Passes}
use Rattle.inspection.proofs.Once.{one_verdict}
use Rattle.inspection.proofs.inspecting.inspect.Goals as goal

pub returns-clause-answer : goal.returns-clause-answer
returns-clause-answer c =
    let words = c.args.words.now in
    let rows = c.certify.new.rows in
    let told = c.in_ok-depth.ensures in
    let clear = c.in_ok-check.ensures in
    let made = c.new.ensures.parts in
    let long : length rows ≡ length words = told.ledger.surveyed.long in
    let same : take (length words) (rows ++ _) ≡ rows = take_at rows _ (length words) long in (
      clear,
      record {
        words = made.0;
        pages = made.1;
        certified = c.new.ensures.certified;
        passes = subst (λ r. Passes words c.args.owned r c.new.result.depth) (sym same) (subst (Passes words c.args.owned rows) (sym made.2) told);
        safe = subst (SafeImageWithin words c.args.owned) (sym (made.2 ∙ told.value)) (safe_image words c.args.owned rows clear.fits.0 told.ledger.ledger);
        rest = search (rules, overwrites);
      },
    )

pub returns-in_err-check-clause-once : goal.returns-in_err-check-clause-once
returns-in_err-check-clause-once c = one_verdict

pub returns-in_err-depth-clause-once : goal.returns-in_err-depth-clause-once
returns-in_err-depth-clause-once c = one_verdict

pub returns-clause-once : goal.returns-clause-once
returns-clause-once c = one_verdict
