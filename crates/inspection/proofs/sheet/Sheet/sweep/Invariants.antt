use Rattle.std.proofs.Common.{◌≡◌, ℕ, ◌<◌, false, length, get_or}
use Rattle.inspection.specs.Needing.{Enough}
use Rattle.inspection.specs.Sheets.{reached, needed, RaisesNeeds}
use Rattle.inspection.proofs.sheet.Sheet.sweep.Given as goal

abbrev pub invariant-loop-at : goal.invariant-loop-at
invariant-loop-at l =
    RaisesNeeds l.initial.self l.self l.changed
    × (l.changed ≡ false → (k : ℕ) → k < length l.yielded → Enough l.initial.self.words.now (reached l.initial.self) (needed l.initial.self) (get_or l.yielded k 0))
