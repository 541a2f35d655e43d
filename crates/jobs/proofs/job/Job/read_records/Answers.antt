use Rattle.std.proofs.lemmas.Result.{err_from_is_err_and}
use Rattle.jobs.proofs.Sofar.{one_more, not_added}
use Rattle.jobs.proofs.job.Job.read_records.Goals as goal

pub loop-reader-preserved : goal.loop-reader-preserved
loop-reader-preserved c =
    let took = c.in_ok-record.ensures in
    let added = c.in_ok-add.ensures in
    one_more c.loop-reader.invariant c.in_ok-record.record {job' = c.add.new.self} {rest' = c.take_record.new.self.rest.now} {place' = c.take_record.new.self.place} took.0 took.1 took.2 added.0 added.1

pub returns-in_err-add : goal.returns-in_err-add
returns-in_err-add c =
    let took = c.in_ok-record.ensures in
    let p = err_from_is_err_and c.from_residual-in_err-add.result c.from_residual-in_err-add.ensures.1 in
    rw (p.1, p.2) (not_added c.loop-reader.invariant c.in_ok-record.record _ c.in_err-add.field-0.0 c.add.new.self took.0 took.1 c.in_err-add.ensures)
