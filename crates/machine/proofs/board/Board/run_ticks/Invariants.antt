use Rattle.std.proofs.Common.{◌≡◌}
use Rattle.machine.specs.Cores.{core_of}
use Rattle.machine.proofs.Runs.{Spent}
use Rattle.machine.proofs.board.Board.run_ticks.Given as goal

abbrev pub invariant-loop-tick : goal.invariant-loop-tick
invariant-loop-tick g l =
    Spent l.image l.ticks (core_of l.initial.self) (g.M.Memory.meaning l.initial.memory) l.initial.exports l.tick-index l.report (core_of l.self) (g.M.Memory.meaning l.memory) l.exports
    × (g.M.Memory.frame l.memory ≡ g.M.Memory.frame l.initial.memory)
