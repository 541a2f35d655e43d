use Rattle.std.proofs.Common.{subst}
use Rattle.inspection.specs.Sheets.{RaisesNeeds}
use Rattle.inspection.proofs.Raising.{raises_more, settles_sheet}
use Rattle.inspection.proofs.sheet.Sheet.settle_needs.Goals as goal

pub loop-preserved : goal.loop-preserved
loop-preserved c = (_, raises_more c.loop.invariant.1 c.sweep.ensures.raises)

pub returns : goal.returns
returns c =
    settles_sheet c.requires c.loop.invariant.1 (subst (RaisesNeeds c.loop.self c.sweep.new.self) c.loop-test.false c.sweep.ensures.raises) (c.sweep.ensures.enough c.loop-test.false)
