use Rattle.std.proofs.Common.{◌≡◌, length, take}
use Rattle.facts.specs.Tables.{summary}
use Rattle.facts.proofs.engine.summary.Given as goal

abbrev pub invariant-loop-word : goal.invariant-loop-word
invariant-loop-word g l = l.joined ≡ summary g.F.Fact.kind (take (length l.yielded) l.image) l.table
