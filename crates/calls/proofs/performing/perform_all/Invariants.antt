use Rattle.std.proofs.Common.{◌≡◌, length, take}
use Rattle.calls.specs.Calling.{calls_of, state_of}
use Rattle.calls.specs.Performing.{PerformsAll}
use Rattle.calls.proofs.performing.perform_all.Given as goal

abbrev pub invariant-loop-place : goal.invariant-loop-place
invariant-loop-place g l =
    PerformsAll l.image (calls_of (length l.initial.exports) (take l.place l.first)) (state_of l.initial.board (g.M.Memory.meaning l.initial.memory)) l.initial.exports l.initial.answers (state_of l.board (g.M.Memory.meaning l.memory)) l.exports l.answers
    × (g.M.Memory.frame l.memory ≡ g.M.Memory.frame l.initial.memory)
