use Rattle.std.proofs.Common.{sym, refl, ◌∙◌, arith}
use Rattle.inspection.proofs.Raising.{reached_at, needed_at, raises_set}
use Rattle.inspection.proofs.sheet.Sheet.raise_need.Goals as goal

pub returns-clause-raises : goal.returns-clause-raises
returns-clause-raises c =
    raises_set c.args.at c.asked-need.result c.index-self-at-3.result c.requires
    (record { words = refl; loan = refl })
    refl
    (reached_at c.args.self.now c.args.at c.index-self-at.result c.requires ∙ sym c.if-not-is_reached.ensures)
    c.asked-need.ensures
    (omega (arith, needed_at c.args.self.now c.args.at c.index-self-at-2.result c.requires, c.if-need-self.false))
    (omega arith)
