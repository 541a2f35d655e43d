use Rattle.std.proofs.Common.{◌≡◌, ℕ, false}
use Rattle.std.specs.List.{Contains}
use Rattle.facts.specs.Keeping.{Keeps, FlowVisits}
use Rattle.facts.specs.Progress.{flag_at}
use Rattle.facts.proofs.flow.Flow.round.Given as goal

abbrev pub invariant-loop-at : goal.invariant-loop-at
invariant-loop-at g l =
    FlowVisits g.F.Fact.kind l.total l.initial.self l.self l.changed
    × (l.changed ≡ false → (a : ℕ) → Contains l.yielded a → flag_at l.self.dirty.now a ≡ false)
    × Keeps l.initial.self l.self
