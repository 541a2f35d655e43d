use Rattle.std.proofs.Common.{take, string_bytes}
use Rattle.jobs.proofs.Lines.{Listed}
use Rattle.jobs.proofs.listing.write_lines.Given as goal

abbrev pub invariant-loop-address : goal.invariant-loop-address
invariant-loop-address l = Listed (string_bytes l.initial.text) (take l.address l.words) (string_bytes l.text)
