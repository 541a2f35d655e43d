use Rattle.std.proofs.Common.{ℕ, ◌<◌, None}
use Rattle.inspection.proofs.causes.find_first.Given as goal

abbrev pub invariant-loop-address : goal.invariant-loop-address
invariant-loop-address g l = (a : ℕ) → a < l.address → goal.F-post g l.test a None
