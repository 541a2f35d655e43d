use Rattle.std.proofs.Common.{rules}
use Rattle.facts.proofs.Growth.{raised}
use Rattle.facts.proofs.flow.Flow.raise.Goals as goal

pub returns-clause-raises : goal.returns-clause-raises
returns-clause-raises g c = let level = c.args.self.now.level in search (rules, raised g.met.F.Fact.laws)
