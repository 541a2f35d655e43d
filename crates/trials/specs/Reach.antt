-- The smallest kind of fact: whether an address can be reached at all. Assumes nothing.
use Rattle.std.specs.Prelude.{false, cond, not, ◌||◌}
use Rattle.std.proofs.Common.{rules}
use Rattle.facts.specs.Kinds.{Kind}
use Rattle.facts.specs.Laws.{Laws}
use Rattle.trials.specs.declared.reach.Reach.{Reach}

abbrev pub reach : Kind Reach
reach = record {
  bottom = record { reached = false };
  join = λ x y. record { reached = x.reached || y.reached };
  covers = λ x y. x.reached || not y.reached;
  rank = λ x. cond x.reached 1 0;
  past = λ i x. x;
  enter = λ x. x;
  resume = λ s x. x;
  names = λ w. false;
}

pub reach_laws : Laws reach
reach_laws = search rules
