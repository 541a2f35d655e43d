use Rattle.std.proofs.Common.{rules}
use Rattle.reports.proofs.Verdicts.{depth_told}
use Rattle.reports.proofs.carrying.judge.Goals as goal

pub returns : goal.returns
returns c =
    let inspected = rw c.blank-rows.ensures at c.inspect.ensures.answer in
    record {
      answer = c.inspect.result;
      after = c.inspect.new.rows;
      inspected = search rules;
      told = depth_told (λ passed r told. search rules) c.inspect.result c.map.result c.map.ensures.cases;
    }
