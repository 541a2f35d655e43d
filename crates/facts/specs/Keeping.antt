-- The steps of the method, by the flow before a step and after it. Assumes nothing.
--
--   Keeps         what stays beside the facts and the flags
--   FlowRaises    a step that has the table reach something
--   FlowSpreads   the step that carries one fact on
--   FlowSettled   where no flag is set, the fact is carried on
--   FlowVisits    the step that carries on what is flagged, at one address or at all
use Rattle.std.specs.Prelude.{◌≡◌, ℕ, Bool, List}
use Rattle.facts.specs.Kinds.{Kind}
use Rattle.facts.specs.Progress.{Raises, Spreads, Settled, Visits}
use Rattle.facts.specs.declared.flow.Flow.{Flow}

-- by the loan's name the lender learns what its table holds at the end
pub record Keeps {F : Type 0} (before after : Flow F) : Type 0 where
  pub image : after.image.now ≡ before.image.now
  pub loan : after.table.ghost_name ≡ before.table.ghost_name

abbrev pub FlowRaises : {F : Type 0} → Kind F → (List F → Type 0) → Flow F → Flow F → Bool → Type 0
FlowRaises k Reach before after changed = Raises k Reach before.table.now before.dirty.now after.table.now after.dirty.now changed

abbrev pub FlowSpreads : {F : Type 0} → Kind F → F → ℕ → Flow F → Flow F → Bool → Type 0
FlowSpreads k s at before after changed =
    Spreads k before.image.now s at before.table.now before.dirty.now after.table.now after.dirty.now changed

abbrev pub FlowSettled : {F : Type 0} → Kind F → F → Flow F → Type 0
FlowSettled k s flow = Settled k flow.image.now s flow.table.now flow.dirty.now

abbrev pub FlowVisits : {F : Type 0} → Kind F → F → Flow F → Flow F → Bool → Type 0
FlowVisits k s before after changed =
    Visits k before.image.now s before.table.now before.dirty.now after.table.now after.dirty.now changed
