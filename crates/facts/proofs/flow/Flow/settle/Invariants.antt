use Rattle.std.proofs.Common.{◌+◌, ◌-◌}
use Rattle.facts.specs.Progress.{room}
use Rattle.facts.proofs.Settling.{FlowSettling}
use Rattle.facts.proofs.flow.Flow.settle.Given as goal

abbrev pub invariant-loop-self : goal.invariant-loop-self
invariant-loop-self g l = FlowSettling g.F.Fact.kind l.initial.self l.total l.self

abbrev pub decreases-loop-self : goal.decreases-loop-self
decreases-loop-self g l = let k = g.F.Fact.kind in room k l.self.table.now + (1000 - k.rank l.total)
