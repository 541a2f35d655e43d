use Rattle.std.proofs.Common.{◌∙◌, rules}
use Rattle.facts.proofs.Settling.{smallest_left, value_left}
use Rattle.facts.proofs.engine.flow.Goals as goal

pub returns : goal.returns
returns g c =
    let laws = g.met.F.Fact.laws in
    let loan = c.settle.ensures.keeps.loan ∙ c.begin.ensures.keeps.loan in
    let settles = rw c.begin.ensures.keeps.image at c.settle.ensures.settles in
    let begun = c.begin.ensures.begins in
    record {
      smallest = smallest_left laws c.args.image.now settles (search rules) {flags = c.begin.new.self.dirty.now} (search rules);
      value = value_left laws c.args.image.now settles (search rules);
    }
