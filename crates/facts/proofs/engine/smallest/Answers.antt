use Rattle.std.proofs.Common.{◌≡◌, length, ◌∙◌, rules}
use Rattle.std.proofs.lemmas.Slice.{overwrites}
use Rattle.facts.proofs.Tables.{summary_agree, smallest_agree, append_agrees}
use Rattle.facts.proofs.Theorems.{smallest_laws}
use Rattle.facts.proofs.engine.smallest.Goals as goal

pub returns : goal.returns
returns g c =
    let laws = g.met.F.Fact.laws in
    let image = c.args.image.now in
    let long : length c.flow.new.table ≡ length image = let kept = c.flow.auto.table in search rules in
    let agree = append_agrees laws image c.flow.new.table _ long in
    record {
      smallest = smallest_agree laws image c.args.start c.args.given c.flow.new.table _ agree c.flow.ensures.smallest;
      value = c.flow.ensures.value ∙ summary_agree laws image _ _ agree;
      rest = search (rules, overwrites);
      laws = smallest_laws laws;
    }
