use Rattle.std.proofs.Common.{length}
use Rattle.jobs.proofs.Sofar.{Sofar}
use Rattle.jobs.proofs.job.Job.read_records.Given as goal

abbrev pub invariant-loop-reader : goal.invariant-loop-reader
invariant-loop-reader l = Sofar l.bytes l.job l.reader.rest.now l.reader.place

abbrev pub decreases-loop-reader : goal.decreases-loop-reader
decreases-loop-reader l = length l.reader.rest.now
