use Rattle.std.proofs.Common.{rules}
use Rattle.inspection.proofs.sheet.Sheet.find_foreign.Goals as goal

pub returns : goal.returns
returns c = c.find_first.ensures _ (λ a found inside told. search rules)
