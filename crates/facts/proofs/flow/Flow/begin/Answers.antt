use Rattle.std.proofs.Common.{rules}
use Rattle.facts.proofs.Settling.{empty_of, filled_level, begins_none, begins_raised}
use Rattle.facts.proofs.flow.Flow.begin.Goals as goal

pub returns-then-start-self-clause-begins : goal.returns-then-start-self-clause-begins
returns-then-start-self-clause-begins g c =
    let level = filled_level c.args.self.now.level c.clear.ensures.long in
    search (rules, begins_raised g.met.F.Fact.laws c.args.self.now.image.now c.clear.new.table c.args.self.now.dirty.now (empty_of _ _ c.clear.ensures.empty))

pub returns-else-start-self-clause-begins : goal.returns-else-start-self-clause-begins
returns-else-start-self-clause-begins g c =
    let level = filled_level c.args.self.now.level c.clear.ensures.long in
    search (rules, begins_none g.met.F.Fact.laws c.args.self.now.image.now c.clear.new.table c.args.self.now.dirty.now (empty_of _ _ c.clear.ensures.empty))
