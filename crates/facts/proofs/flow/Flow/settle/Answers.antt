use Rattle.std.proofs.Common.{sym, refl, ap, ◌∙◌, length, rules}
use Rattle.facts.proofs.Orders.{upwards_below, upwards_each, downwards_below}
use Rattle.facts.proofs.Settling.{flow_visits, flow_settles, settling_again, total_falls}
use Rattle.facts.proofs.flow.Flow.settle.Goals as goal

pub loop-self-preserved-then-round : goal.loop-self-preserved-then-round
loop-self-preserved-then-round g c =
    let laws = g.met.F.Fact.laws in
    let up = flow_visits laws c.loop-self.invariant {after = c.round.new.self} c.round.ensures.visits c.round.ensures.keeps in
    flow_visits laws up {after = c.round-then-round.new.self} c.round-then-round.ensures.visits c.round-then-round.ensures.keeps

pub returns-then-covers-clause-settles : goal.returns-then-covers-clause-settles
returns-then-covers-clause-settles g c =
    let laws = g.met.F.Fact.laws in
    let visited = flow_visits laws c.loop-self.invariant {after = c.round.new.self} c.round.ensures.visits c.round.ensures.keeps in
    flow_settles laws visited c.gathered-gathered.result (rw (← c.round.ensures.keeps.image) at (c.round.ensures.quiet c.if-round.false (upwards_each _ _ refl (ap length (sym c.loop-self.invariant.image))))) c.gathered-gathered.ensures c.if-covers.ensures

pub loop-self-smaller : goal.loop-self-smaller
loop-self-smaller g c =
    total_falls g.met.F.Fact.laws c.args.self.now.image.now c.loop-self.self.table.now c.round.new.self.table.now c.loop-self.total c.gathered-gathered.result c.join-total.result c.if-round.ensures.visits.grows.fell (sym c.if-covers.ensures) c.join-total.ensures.value c.join-total.ensures.bounded

pub loop-self-preserved : goal.loop-self-preserved
loop-self-preserved g c =
    let laws = g.met.F.Fact.laws in
    let visited = flow_visits laws c.loop-self.invariant {after = c.round.new.self} c.round.ensures.visits c.round.ensures.keeps in
    let settling = visited.settling in
    let sum = rw visited.image at c.gathered-gathered.ensures in
    let join = c.join-total.ensures.value in
    let all = c.fill.ensures.after (λ y h. h) in
    record {
      settling = search (rules, settling_again laws c.args.self.now.image.now);
      image = visited.image;
      loan = visited.loan;
    }

pub round-requires-clause-inside : goal.round-requires-clause-inside
round-requires-clause-inside g c = upwards_below _ _ (ap length (sym c.loop-self.invariant.image))

pub round-requires-then-round-clause-inside : goal.round-requires-then-round-clause-inside
round-requires-then-round-clause-inside g c =
    downwards_below c.rev.result _ (ap (λ range. range.end) c.rev.ensures.source ∙ ap length (sym (c.round.ensures.keeps.image ∙ c.loop-self.invariant.image)))
