-- What being closed and smallest owes to the facts at the words of the image alone. Assumes nothing.
use Rattle.std.proofs.Common.{◌≡◌, ℕ, List, ◌++◌, length, sym, arith}
use Rattle.std.proofs.lemmas.List.{get_or_append_left}
use Rattle.facts.specs.Kinds.{Kind}
use Rattle.facts.specs.Laws.{Laws}
use Rattle.facts.specs.Tables.{summary, Closed, Below, Agree, Smallest}
use Rattle.facts.proofs.Summaries.{summary_mono}

module _ {F : Type 0} {k : Kind F} (laws : Laws k) (image : List ℕ) where
  below_agree : (table other : List F) → Agree k (length image) table other → Below k (length image) table other
  below_agree table other agree a h = rw (← agree a h) (laws.order.reflexive _)

  pub summary_agree :
      (table other : List F)
      → Agree k (length image) table other
      → summary k image table ≡ summary k image other
  summary_agree table other agree =
      laws.order.antisymmetric _ _ (summary_mono laws image other table (below_agree other table (λ a h. sym (agree a h)))) (summary_mono laws image table other (below_agree table other agree))

  module _ (start : ℕ) (given : F) (table other : List F) (agree : Agree k (length image) table other) where
    pub closed_agree : Closed k image start given table → Closed k image start given other
    closed_agree closed = record {
      begins = λ h. rw (← agree start h) (closed.begins h);
      flows = λ a edge i b step. rw (← agree b step.to, ← agree a step.from, ← summary_agree table other agree) (closed.flows a edge i b step);
    }

    pub smallest_agree : Smallest k image start given table → Smallest k image start given other
    smallest_agree smallest = record {
      closed = closed_agree smallest.closed;
      least = λ third closed a h. rw (← agree a h) (smallest.least third closed a h);
    }

  -- what stands behind the facts of the image does not count
  pub append_agrees : (table rest : List F) → length table ≡ length image → Agree k (length image) table (table ++ rest)
  append_agrees table rest long a h = sym (get_or_append_left table rest k.bottom a (omega arith))
