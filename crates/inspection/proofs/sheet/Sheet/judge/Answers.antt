use Rattle.std.proofs.Common.{arith}
use Rattle.std.proofs.lemmas.Result.{err_from_is_err_and}
use Rattle.inspection.proofs.Judged.{early_sheet, deep_sheet, foreign_sheet, passes_sheet}
use Rattle.inspection.proofs.sheet.Sheet.judge.Goals as goal

pub returns-in_err-find_cause-clause-verdict : goal.returns-in_err-find_cause-clause-verdict
returns-in_err-find_cause-clause-verdict c =
    let p = err_from_is_err_and c.from_residual.result c.from_residual.ensures.1 in
    rw (p.1, p.2) (early_sheet c.args.owned c.find_facts-all.ensures c.is_interruptible-interrupted.ensures c.in_err-find_cause.ensures)

pub returns-then-depth-gt-MOST_ENTRIES-clause-verdict : goal.returns-then-depth-gt-MOST_ENTRIES-clause-verdict
returns-then-depth-gt-MOST_ENTRIES-clause-verdict c =
    deep_sheet c.args.owned c.find_facts-all.ensures c.is_interruptible-interrupted.ensures c.in_ok-find_cause.ensures c.settle_needs.ensures c.depth-depth.result c.depth-depth.ensures c.args.self.now.fits.0 (omega arith)

pub returns-in_err-find_foreign-clause-verdict : goal.returns-in_err-find_foreign-clause-verdict
returns-in_err-find_foreign-clause-verdict c =
    let p = err_from_is_err_and c.from_residual-in_err-find_foreign.result c.from_residual-in_err-find_foreign.ensures.1 in
    rw (p.1, p.2) (foreign_sheet c.args.owned c.find_facts-all.ensures c.is_interruptible-interrupted.ensures c.in_ok-find_cause.ensures c.settle_needs.ensures c.depth-depth.result c.depth-depth.ensures (omega arith) c.in_err-find_foreign.ensures)

pub returns-clause-verdict : goal.returns-clause-verdict
returns-clause-verdict c =
    passes_sheet c.args.owned c.find_facts-all.ensures c.is_interruptible-interrupted.ensures c.in_ok-find_cause.ensures c.settle_needs.ensures c.depth-depth.result c.depth-depth.ensures (omega arith) c.in_ok-find_foreign.ensures
