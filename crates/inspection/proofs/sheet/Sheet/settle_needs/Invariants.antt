use Rattle.std.proofs.Common.{Bool}
use Rattle.facts.specs.Progress.{room}
use Rattle.inspection.specs.Needing.{needing}
use Rattle.inspection.specs.Sheets.{needed, RaisesNeeds}
use Rattle.inspection.proofs.sheet.Sheet.settle_needs.Given as goal

abbrev pub invariant-loop : goal.invariant-loop
invariant-loop l = (changed : Bool) × RaisesNeeds l.initial.self l.self changed

abbrev pub decreases-loop : goal.decreases-loop
decreases-loop l = room needing (needed l.self)
