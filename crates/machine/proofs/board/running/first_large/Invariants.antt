use Rattle.std.proofs.Common.{◌≡◌, drop}
use Rattle.machine.specs.Runs.{first_large}
use Rattle.machine.proofs.board.running.first_large.Given as goal

abbrev pub invariant-loop-place : goal.invariant-loop-place
invariant-loop-place l = first_large 0 l.ticks ≡ first_large l.place (drop l.place l.ticks)
