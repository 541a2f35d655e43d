use Rattle.std.proofs.Common.{◌∙◌, arith}
use Rattle.machine.specs.Cores.{core_of}
use Rattle.machine.proofs.Runs.{spent_more, reports_stop, reports_all, holds_export}
use Rattle.machine.proofs.board.Board.run_ticks.Goals as goal

pub count-requires : goal.count-requires
count-requires g c =
    let spent = c.loop-tick.invariant.0 in
    let usual = holds_export spent {core' = core_of c.advance.new.self} {memory' = g.M.Memory.meaning c.advance.new.memory} c.in-Ok.stepped c.in-Ok.ensures.step in
    (omega (arith, spent.count), omega (arith, spent.cycles), usual.0, usual.1)

pub returns-in-Err-clause-run : goal.returns-in-Err-clause-run
returns-in-Err-clause-run g c = reports_stop c.loop-tick.invariant.0 c.in-Err.refusal (core_of c.advance.new.self) (g.M.Memory.meaning c.advance.new.memory) (omega arith) c.in-Err.ensures.step

pub loop-tick-preserved : goal.loop-tick-preserved
loop-tick-preserved g c =
    let spent = c.loop-tick.invariant.0 in
    let told = c.in-Ok.ensures in
    let usual = holds_export spent {core' = core_of c.advance.new.self} {memory' = g.M.Memory.meaning c.advance.new.memory} c.in-Ok.stepped told.step in
    (spent_more spent c.in-Ok.stepped (omega arith) usual.1 usual.0 told.step c.count.ensures, told.rest ∙ c.loop-tick.invariant.1)

pub returns-clause-run : goal.returns-clause-run
returns-clause-run g c = reports_all c.loop-tick.invariant.0 (omega arith)
