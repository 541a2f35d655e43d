use Rattle.std.proofs.Common.{◌<◌, length, ap, ◌∙◌, arith, rules}
use Rattle.std.proofs.lemmas.Bool.{or_parts}
use Rattle.std.proofs.lemmas.List.Elements.{Contains-push}
use Rattle.facts.proofs.Orders.{yields_more}
use Rattle.facts.proofs.Rounding.{visits_more, none_given}
use Rattle.facts.proofs.flow.Flow.round.Goals as goal

pub visit-changed-requires-clause-inside : goal.visit-changed-requires-clause-inside
visit-changed-requires-clause-inside g c =
    let more = yields_more g.I.Iterator.next_gives _ _ c.loop-at.at-iterator c.next.new.self c.in-Some.at (rw c.into_iter-at-iterator.ensures.into_iter_gives at c.loop-at.yielded_by) (rw c.in-Some.is at c.next.ensures.steps) in
    let image = c.loop-at.invariant.2.image in
    rw image (c.requires.inside _ c.next.new.self more c.in-Some.at (Contains-push c.loop-at.yielded c.in-Some.at))

pub loop-at-preserved : goal.loop-at-preserved
loop-at-preserved g c =
    let image = c.loop-at.invariant.2.image in
    let more = yields_more g.I.Iterator.next_gives _ _ c.loop-at.at-iterator c.next.new.self c.in-Some.at (rw c.into_iter-at-iterator.ensures.into_iter_gives at c.loop-at.yielded_by) (rw c.in-Some.is at c.next.ensures.steps) in
    let inside : c.in-Some.at < length c.loop-at.self.dirty.now =
    let level = c.loop-at.self.level in
    let below = c.requires.inside _ c.next.new.self more c.in-Some.at (Contains-push c.loop-at.yielded c.in-Some.at) in
    omega (arith, level.flagged, ap length image, below)
    in (
      (let visits = rw image at c.visit-changed.ensures.visits in search (rules, visits_more g.met.F.Fact.laws)),
      (λ e. let o = or_parts _ _ e in rw (c.visit-changed.ensures.quiet o.1) (none_given c.loop-at.self.dirty.now c.in-Some.at c.loop-at.yielded inside (c.loop-at.invariant.1 o.0))),
      record { image = c.visit-changed.ensures.keeps.image ∙ image; loan = c.visit-changed.ensures.keeps.loan ∙ c.loop-at.invariant.2.loan },
    )
