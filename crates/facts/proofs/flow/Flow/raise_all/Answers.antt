use Rattle.std.proofs.Common.{rules}
use Rattle.facts.proofs.Spreading.{raised_all}
use Rattle.facts.proofs.flow.Flow.raise_all.Goals as goal

pub returns-clause-raises : goal.returns-clause-raises
returns-clause-raises g c =
    let next = c.raise-next.ensures.raises in
    let target = c.raise-target.ensures.raises in
    let routine = c.raise-routine.ensures.raises in
    let resumed = c.raise-resumed.ensures.raises in
    search (rules, raised_all g.met.F.Fact.laws)
