use Rattle.std.proofs.Common.{sym}
use Rattle.inspection.specs.Sheets.{needed}
use Rattle.inspection.proofs.Asking.{asks, asks_none}
use Rattle.inspection.proofs.sheet.Sheet.asked.Goals as goal

pub returns-in-Some : goal.returns-in-Some
returns-in-Some c =
    asks c.args.self.now.words.now (needed c.args.self.now) c.args.at c.in-Some.instruction (sym c.in-Some.ensures.0) c.requires c.max.result
    (rw (c.max.ensures, c.max-past.ensures, c.max-call.ensures, c.need_at.ensures, c.need_at-in-Some.ensures, c.call_need.ensures, c.need_at-in-Some-2.ensures, c.within-to.ensures, c.of.ensures))

pub returns-in-None : goal.returns-in-None
returns-in-None c = asks_none c.args.self.now.words.now (needed c.args.self.now) c.args.at (sym c.in-None.ensures.0)
