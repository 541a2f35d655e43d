use Rattle.std.proofs.Common.{sym, ◌∙◌, rules}
use Rattle.facts.proofs.Spreading.{writes_word, spreads, spreads_none}
use Rattle.facts.proofs.flow.Flow.spread.Goals as goal

pub returns-in_default-clause-spreads : goal.returns-in_default-clause-spreads
returns-in_default-clause-spreads g c =
    spreads_none g.met.F.Fact.laws c.args.self.now.image.now c.args.at c.args.total c.args.self.now.table.now c.args.self.now.dirty.now (sym c.instruction_of.ensures.0 ∙ c.in_default.is)

pub returns-clause-spreads : goal.returns-clause-spreads
returns-clause-spreads g c =
    let writes = writes_word _ c.in-Some.instruction (sym c.instruction_of.ensures.0 ∙ c.in-Some.is) in
    let past = rw (← c.index-self-at.is) at c.past.ensures in
    let enter = rw (← c.index-self-at.is) at c.enter.ensures in
    let resume = rw (← c.index-self-at.is) at c.resume.ensures in
    let to = rw c.of.ensures at c.within-to.ensures in
    let raises = c.raise_all.ensures.raises in
    let level = c.args.self.now.level.facts in
    search (rules, spreads g.met.F.Fact.laws c.args.self.now.image.now c.args.at c.in-Some.instruction writes)
