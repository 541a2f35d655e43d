use Rattle.std.proofs.Common.{ℕ, ◌-◌, length, get_or, sym, ap, ◌∙◌, subst, arith}
use Rattle.std.proofs.lemmas.Iterator.Consumers.{YieldsList-turn, YieldsList-end}
use Rattle.std.proofs.lemmas.List.{map-id}
use Rattle.inspection.specs.Needing.{Enough}
use Rattle.inspection.specs.Sheets.{reached, needed}
use Rattle.inspection.proofs.Raising.{raises_more, swept}
use Rattle.inspection.proofs.Sweeping.{sweeps, sweep_below, sweep_has}
use Rattle.inspection.proofs.sheet.Sheet.sweep.Goals as goal

pub raise_need-changed-requires : goal.raise_need-changed-requires
raise_need-changed-requires c =
    let n : ℕ = length c.args.self.now.words.now in
    let road = sweeps n c.into_iter-at-iterator.ensures.into_iter_gives c.chain-at-items.ensures.first c.rev.ensures.source c.chain-at-items.ensures.second c.chain-at-items.ensures.first_done c.chain-at-items.ensures.second_done in
    let below = sweep_below n _ c.in-Some.at (YieldsList-turn road c.loop-at.yielded _ c.loop-at.yielded_by _ _ c.in-Some.at c.in-Some.is c.next.ensures.steps) in
    omega (arith, below, ap length c.loop-at.invariant.0.same.words)

pub loop-at-preserved : goal.loop-at-preserved
loop-at-preserved c = (
  raises_more c.loop-at.invariant.0 c.raise_need-changed.ensures.raises,
  swept c.loop-at.yielded c.in-Some.at c.loop-at.invariant.0 c.loop-at.invariant.1 c.raise_need-changed.ensures.enough,
)

pub returns-clause-enough : goal.returns-clause-enough
returns-clause-enough c = λ still a inside.
    let n : ℕ = length c.args.self.now.words.now in
    let road = sweeps n c.into_iter-at-iterator.ensures.into_iter_gives c.chain-at-items.ensures.first c.rev.ensures.source c.chain-at-items.ensures.second c.chain-at-items.ensures.first_done c.chain-at-items.ensures.second_done in
    let all = YieldsList-end road c.loop-at.yielded _ c.loop-at.yielded_by _ _ c.in-None.is c.next.ensures.steps in
    let has = sweep_has n a inside in
    let sheet = c.args.self.now in
    subst (Enough sheet.words.now (reached sheet) (needed sheet)) (ap (λ xs. get_or xs (n - 1 - a) 0) (sym (map-id c.loop-at.yielded) ∙ all.0) ∙ has.1) (c.loop-at.invariant.1 still (n - 1 - a) (omega (arith, has.0, all.1)))
