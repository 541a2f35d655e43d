use Rattle.words.proofs.Formats.{writes_same}
use Rattle.jobs.proofs.Formats.{shown_line}
use Rattle.jobs.proofs.listing.LineDisplay.fmt.Goals as goal

pub returns-in-Ok-clause-writes : goal.returns-in-Ok-clause-writes
returns-in-Ok-clause-writes g c =
    let line = c.args.self.now in
    writes_same _ (shown_line line.address line.word c.in-Ok.is) (rw (c.laid_out.ensures, c.in_radix.ensures) at c.write.ensures.writes)

pub returns-in-Err-clause-writes : goal.returns-in-Err-clause-writes
returns-in-Err-clause-writes g c =
    let line = c.args.self.now in
    writes_same _ (shown_line line.address line.word c.in-Err.is) (rw (c.laid_out-in-Err.ensures, c.in_radix-in-Err.ensures, c.number.ensures) at c.write-in-Err.ensures.writes)
