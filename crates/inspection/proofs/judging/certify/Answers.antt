use Rattle.std.proofs.Common.{◌≡◌, length, replicate, sym, ap, ◌∙◌, arith}
use Rattle.ledger.specs.Rows.{blank_row}
use Rattle.inspection.proofs.Verdicts.{judged_err}
use Rattle.inspection.proofs.judging.certify.Goals as goal

pub returns-then-is_err : goal.returns-then-is_err
returns-then-is_err c =
    let level : length c.judge-verdict.new.self.rows.now ≡ length c.args.words.now = c.judge-verdict.new.self.level ∙ ap length c.judge-verdict.ensures.same.words in
    let long : length c.rows-1.given.0 ≡ length c.args.words.now = grind arith in
    judged_err c.args.words.now c.args.owned c.judge-verdict.result c.judge-verdict.new.self.rows.now c.clear_rows.new.rows c.judge-verdict.ensures.verdict (sym c.if-is_err.ensures.value) (c.clear_rows.ensures ∙ ap (λ n. replicate n blank_row) long)
