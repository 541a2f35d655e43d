use Rattle.words.proofs.Formats.{writes_same}
use Rattle.jobs.proofs.Formats.{five_digits, six_digits}
use Rattle.std.proofs.Common.{arith}
use Rattle.jobs.proofs.listing.HexWordDisplay.fmt.Goals as goal

pub returns-then-word-lt1048576-clause-writes : goal.returns-then-word-lt1048576-clause-writes
returns-then-word-lt1048576-clause-writes g c =
    writes_same _ (five_digits c.args.self.now.0 (omega arith)) (rw (c.laid_out.ensures, c.in_radix.ensures) at c.write.ensures.writes)

pub returns-else-word-lt1048576-clause-writes : goal.returns-else-word-lt1048576-clause-writes
returns-else-word-lt1048576-clause-writes g c =
    writes_same _ (six_digits c.args.self.now.0 (omega arith)) (rw (c.laid_out-else-word-lt1048576.ensures, c.in_radix-else-word-lt1048576.ensures) at c.write-else-word-lt1048576.ensures.writes)
