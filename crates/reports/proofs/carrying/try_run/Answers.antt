use Rattle.std.proofs.Common.{rules}
use Rattle.memories.specs.Kinds.{board}
use Rattle.machine.specs.Cores.{core_of}
use Rattle.reports.proofs.carrying.try_run.Goals as goal

pub returns : goal.returns
returns c =
    let runs = rw (c.new-board.ensures, c.new-memory.ensures.held) at c.run.ensures.run in
    record { core = core_of c.run.new.self; memory = board c.run.new.memory; after = c.run.new.exports; runs = search rules }
