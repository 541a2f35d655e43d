use Rattle.std.proofs.Common.{[], sym, refl, ◌∙◌, subst, arith}
use Rattle.inspection.specs.Facts.{Facts}
use Rattle.inspection.specs.Recording.{Records}
use Rattle.inspection.proofs.Recorded.{facts_recorded, unneeded}
use Rattle.inspection.proofs.sheet.Sheet.find_facts.Goals as goal

pub returns : goal.returns
returns c =
    let records : Records _ c.smallest.new.table c.smallest-2.new.table c.smallest-all.new.table [] c.loop-at.row-items = record { long = c.loop-at.auto.row-items ∙ c.args.self.now.level; each = λ a h. c.loop-at.invariant a (omega (arith, c.args.self.now.level)) } in
    record {
      same = record { words = refl; loan = refl };
      facts = subst (Facts c.args.self.now.words.now c.args.interrupted c.loop-at.row-items) (sym c.smallest-all.ensures.value) (facts_recorded records c.smallest.ensures.smallest (rw c.zero_spans.ensures at c.smallest-all.ensures.smallest) (rw c.handler_start.ensures at c.smallest-2.ensures.smallest));
      unneeded = unneeded records;
    }
