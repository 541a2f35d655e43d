-- Why rounds end in the smallest table: what they keep, and what it comes to once nothing changes. Assumes nothing.
use Rattle.std.proofs.Common.{◌≡◌, ℕ, zero, suc, ◌+◌, ◌-◌, ◌<◌, ◌≤◌, Bool, true, false, List, [], ◌∷◌, length, replicate, Some, sym, refl, ap, ◌∙◌, subst, inl, inr, arith}
use lib.ListN.{length-replicate}
use Rattle.std.proofs.lemmas.List.{get_or-replicate}
use Rattle.std.proofs.lemmas.Bool.{both_ways}
use Rattle.std.specs.List.{FoldsTo}
use Rattle.facts.specs.Keeping.{Keeps, FlowVisits}
use Rattle.facts.specs.Kinds.{Kind, Covers}
use Rattle.facts.specs.Laws.{Laws}
use Rattle.facts.specs.Progress.{Level, room, Raises, Settled, Visits, Begins, Settles, CoversAt, NoneBelow, flag_at}
use Rattle.facts.specs.Tables.{fact_at, summary, Flows, Below, Smallest}
use Rattle.facts.specs.declared.flow.Flow.{Flow}
use Rattle.facts.proofs.Carries.{carry_bottom, carry_mono}
use Rattle.facts.proofs.Rounding.{settled_noted}
use Rattle.facts.proofs.Summaries.{summary_mono}

-- the table has grown, but not past any on which facts flow, and every fact without a flag is carried on
pub record Settling {F : Type 0} (k : Kind F) (image : List ℕ) (before : List F) (s : F) (table : List F) (flags : List Bool) : Type 0 where
  pub level : Level image table flags
  pub long : length before ≡ length image
  pub larger : (a : ℕ) → Covers k (fact_at k table a) (fact_at k before a)
  pub settled : Settled k image s table flags
  pub under :
      (other : List F)
      → Flows k image other
      → Below k (length image) before other
      → Below k (length image) table other
  pub summed :
      (other : List F)
      → Flows k image other
      → Below k (length image) before other
      → Covers k (summary k image other) s

-- the same of a flow, by what it was at first
pub record FlowSettling {F : Type 0} (k : Kind F) (first : Flow F) (s : F) (now : Flow F) : Type 0 where
  pub settling : Settling k first.image.now first.table.now s now.table.now now.dirty.now
  pub image : now.image.now ≡ first.image.now
  pub loan : now.table.ghost_name ≡ first.table.ghost_name

pub Empty : {F : Type 0} → Kind F → List F → Type 0
Empty k table = (a : ℕ) → fact_at k table a ≡ k.bottom

pub folded_empty :
    {F P : Type 0} {R : P → F → P → Type 0} (k : Kind F) (first last : P) (table : List F)
    → FoldsTo R first table last
    → ((p : P) (x : F) (q : P) → R p x q → x ≡ k.bottom)
    → Empty k table
unfolding Empty
folded_empty k first last [] folds bottom a = refl
folded_empty k first last (x ∷ table) folds bottom zero = bottom _ x _ folds.1
folded_empty k first last (x ∷ table) folds bottom (suc a) = folded_empty k _ last table folds.2 bottom a

pub folded_bottom :
    {F P : Type 0} {R : P → F → P → Type 0} (k : Kind F) (first last : P) (table : List F)
    → FoldsTo R first table last
    → ((p : P) (x : F) (q : P) → R p x q → x ≡ k.bottom)
    → (a : ℕ)
    → fact_at k table a ≡ k.bottom
unfolding Empty
folded_bottom k first last table folds bottom = folded_empty k first last table folds bottom

pub empty_of : {F : Type 0} (k : Kind F) (table : List F) → ((a : ℕ) → fact_at k table a ≡ k.bottom) → Empty k table
unfolding Empty
empty_of k table each = each

pub filled_level :
    {F : Type 0} {image : List ℕ} {old table : List F} {flags : List Bool}
    → Level image old flags
    → length table ≡ length old
    → Level image table flags
filled_level level same = record { short = level.short; facts = same ∙ level.facts; flagged = level.flagged }

module _ {F : Type 0} {k : Kind F} (laws : Laws k) (image : List ℕ) where
  pub settling_visits :
      {before : List F} {s : F} {table after : List F} {flags flags' : List Bool} {changed : Bool}
      → Settling k image before s table flags
      → Visits k image s table flags after flags' changed
      → Settling k image before s after flags'
  settling_visits {before} {s} {table} {after} old visits = record {
    level = record { short = old.level.short; facts = visits.grows.long ∙ old.level.facts; flagged = visits.long ∙ old.level.flagged };
    long = old.long;
    larger = λ a. laws.order.transitive _ _ _ (visits.grows.larger a) (old.larger a);
    settled = visits.settled;
    under = λ other flows h. subst (λ m. Below k m after other) old.level.facts (visits.grows.above other (flows, old.summed other flows h) (subst (λ m. Below k m table other) (sym old.level.facts) (old.under other flows h)));
    summed = old.summed;
  }

  -- the summary grew, and every fact has to be carried on again
  pub settling_again :
      {before : List F} {s total : F} {table : List F} {flags flags' : List Bool} (gathered : F)
      → Settling k image before s table flags
      → gathered ≡ summary k image table
      → total ≡ k.join s gathered
      → flags' ≡ replicate (length flags) true
      → Settling k image before total table flags'
  settling_again {before} {s} {total} {table} {flags} {flags'} gathered old sum is all = record {
    level = record { short = old.level.short; facts = old.level.facts; flagged = ap length all ∙ length-replicate (length flags) true ∙ old.level.flagged };
    long = old.long;
    larger = old.larger;
    settled = λ a off edge i b step. absurd (both_ways _ off (ap (λ f. flag_at f a) all ∙ get_or-replicate (length flags) a true false (rw old.level.flagged step.from)));
    under = old.under;
    summed = λ other flows h. rw (is, sum) (laws.joins.least _ _ _ (old.summed other flows h) (summary_mono laws image table other (old.under other flows h)));
  }

  -- what the rounds end by: a summary that grew stands higher
  pub total_falls :
      (table after : List F) (s gathered total : F)
      → after ≡ table
      → k.covers s gathered ≡ false
      → total ≡ k.join s gathered
      → k.rank total ≤ 1000
      → room k after + (1000 - k.rank total) < room k table + (1000 - k.rank s)
  total_falls table after s gathered total same left is bounded = elim (laws.joins.rises s gathered) [
    | inl e ↦ absurd (both_ways _ left (subst (λ x. Covers k x gathered) e (laws.joins.right s gathered)))
    | inr h ↦ rw same (let l = rw (← is) at h in omega arith)
  ]

  pub settles :
      {before : List F} {s : F} {table : List F} {flags : List Bool} (gathered : F)
      → Settling k image before s table flags
      → NoneBelow (length image) flags
      → gathered ≡ summary k image table
      → true ≡ k.covers s gathered
      → Settles k image before table s
  settles {before} {s} {table} gathered old quiet is covered = record {
    long = old.level.facts ∙ sym old.long;
    larger = old.larger;
    flows = flows;
    least = old.under;
    value = laws.order.antisymmetric _ _ covers (old.summed table flows (λ a h. old.larger a));
  }
    where
      covers : Covers k s (summary k image table)
      covers = rw is at (sym covered)

      flows : Flows k image table
      flows a edge i b step = laws.order.transitive _ _ _ (old.settled a (quiet a step.from) edge i b step) (carry_mono laws edge i s _ _ covers)

  module _ (before : List F) (flags : List Bool) (empty : Empty k before) where
    empty_settled : Settled k image k.bottom before flags
    unfolding Empty
    empty_settled a off edge i b step = rw (empty a, carry_bottom laws edge i k.bottom) (laws.order.lowest _)

    empty_under : (words : ℕ) (other : List F) → Below k words before other
    unfolding Empty
    empty_under words other a h = rw (empty a) (laws.order.lowest _)

    -- from outside the image nothing flows
    pub begins_none :
        (start : ℕ) (given : F)
        → Level image before flags
        → length image ≤ start
        → Begins k image start given before flags
    begins_none start given level outside = record {
      level = level;
      has = λ h. absurd (omega arith);
      settled = empty_settled;
      below = λ other closed. empty_under (length image) other;
    }

    pub begins_raised :
        (start : ℕ) (given : F) (table : List F) (flags' : List Bool) (changed : Bool)
        → Level image before flags
        → start < length image
        → Raises k (CoversAt k (Some start) given) before flags table flags' changed
        → Begins k image start given table flags'
    begins_raised start given table flags' changed level inside raises = record {
      level = record { short = level.short; facts = raises.grows.long ∙ level.facts; flagged = raises.noted.long ∙ level.flagged };
      has = λ h. raises.reached start refl;
      settled = settled_noted laws image k.bottom raises.grows.larger raises.noted empty_settled;
      below = λ other closed. rw (← level.facts) (raises.grows.above other (λ b e. let here : start ≡ b = cc in rw (← here) (closed.begins inside)) (empty_under (length before) other));
    }

  -- what is left of a table that was lent
  module _ {s : F} {table after left : List F} (settles : Settles k image table after s) (same : left ≡ after) where
    pub smallest_left :
        {start : ℕ} {given : F} {flags : List Bool}
        → Begins k image start given table flags
        → Smallest k image start given left
    smallest_left {start} begins = rw same (record {
      closed = record { begins = λ h. laws.order.transitive _ _ _ (settles.larger start) (begins.has h); flows = settles.flows };
      least = λ other closed. settles.least other closed.flows (begins.below other closed);
    })

    pub value_left : s ≡ summary k image left
    value_left = rw same settles.value

module _ {F : Type 0} {k : Kind F} (laws : Laws k) {first : Flow F} {s : F} {flow : Flow F} (old : FlowSettling k first s flow) where
  pub flow_visits :
      {after : Flow F} {changed : Bool}
      → FlowVisits k s flow after changed
      → Keeps flow after
      → FlowSettling k first s after
  flow_visits visits keeps = record {
    settling = settling_visits laws first.image.now old.settling (rw old.image at visits);
    image = keeps.image ∙ old.image;
    loan = keeps.loan ∙ old.loan;
  }

  pub flow_settles :
      (gathered : F)
      → NoneBelow (length flow.image.now) flow.dirty.now
      → gathered ≡ summary k flow.image.now flow.table.now
      → true ≡ k.covers s gathered
      → Settles k first.image.now first.table.now flow.table.now s
  flow_settles gathered quiet is covered =
      settles laws first.image.now gathered old.settling (rw old.image at quiet) (rw old.image at is) covered
