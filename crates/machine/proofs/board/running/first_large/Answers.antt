use Rattle.std.proofs.Common.{sym, ◌∙◌, arith}
use Rattle.machine.proofs.LargeTicks.{large_here, large_later, large_none}
use Rattle.machine.proofs.board.running.first_large.Goals as goal

pub returns-then-tick-ge512 : goal.returns-then-tick-ge512
returns-then-tick-ge512 c = sym (c.loop-place.invariant ∙ large_here c.args.ticks.now c.loop-place.place (omega arith) (omega arith))

pub loop-place-preserved : goal.loop-place-preserved
loop-place-preserved c = c.loop-place.invariant ∙ large_later c.args.ticks.now c.loop-place.place (omega arith) (omega arith)

pub returns : goal.returns
returns c = sym (c.loop-place.invariant ∙ large_none c.args.ticks.now c.loop-place.place (omega arith))
