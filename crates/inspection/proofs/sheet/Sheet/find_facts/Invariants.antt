use Rattle.std.proofs.Common.{◌≡◌, ℕ, ◌<◌, [], get_or}
use Rattle.ledger.specs.Rows.{blank_row}
use Rattle.inspection.specs.Recording.{row_in}
use Rattle.inspection.proofs.sheet.Sheet.find_facts.Given as goal

abbrev pub invariant-loop-at : goal.invariant-loop-at
invariant-loop-at l = (k : ℕ) → k < l.at → get_or l.row-items k blank_row ≡ row_in l.mains l.handlers l.spans [] k
