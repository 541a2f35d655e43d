use Rattle.std.proofs.Common.{rules}
use Rattle.jobs.specs.declared.job.JobError.TheVariants.{Refused, OutOfMemory}
use Rattle.tables.proofs.Tablings.{untabled}
use Rattle.tables.proofs.tabling.program_table.Goals as goal

pub returns-in_err-inspect : goal.returns-in_err-inspect
returns-in_err-inspect c =
    let inspected = rw c.blank-rows.ensures at c.in_err-inspect.ensures.answer in
    untabled _ _ _ _ c.from_residual.result (Refused c.in_err-inspect.field-0.0) c.from_residual.ensures.1 (record { after = c.inspect.new.rows; inspected = search rules })

pub returns-in_err-ledger_table : goal.returns-in_err-ledger_table
returns-in_err-ledger_table c =
    let inspected = rw c.blank-rows.ensures at c.in_ok-inspect.ensures.answer in
    untabled _ _ _ _ c.from_residual-in_err-ledger_table.result OutOfMemory c.from_residual-in_err-ledger_table.ensures.1 (record { passed = c.in_ok-inspect.field-0; after = c.inspect.new.rows; inspected = search rules })

pub returns : goal.returns
returns c =
    let inspected = rw c.blank-rows.ensures at c.in_ok-inspect.ensures.answer in
    record { passed = c.in_ok-inspect.field-0; after = c.inspect.new.rows; inspected = search rules; told = c.in_ok-ledger_table.ensures }
