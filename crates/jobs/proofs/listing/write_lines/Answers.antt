use Rattle.std.proofs.Common.{string_bytes, arith}
use Rattle.jobs.proofs.Lines.{listed_more}
use Rattle.jobs.proofs.listing.write_lines.Goals as goal

pub loop-address-preserved : goal.loop-address-preserved
loop-address-preserved c =
    let line = c.new-line.ensures in
    let wrote = c.in_ok-writeln.ensures.bytes in
    listed_more (string_bytes c.args.text.now) c.args.words.now (string_bytes c.loop-address.text) (string_bytes c.writeln.new.self) c.loop-address.address c.new-line.result.decoded (omega arith) c.loop-address.invariant line.2 (rw (line.0, line.1) at wrote)
