use Rattle.std.proofs.Common.{rules}
use Rattle.facts.proofs.Rounding.{visits_spread}
use Rattle.facts.proofs.flow.Flow.visit.Goals as goal

pub returns-clause-visits : goal.returns-clause-visits
returns-clause-visits g c = search (rules, visits_spread g.met.F.Fact.laws)
