-- Exports and imports leave the memory as it is, whatever it means.
use Rattle.machine.proofs.board.Board.transfer.Goals as goal

pub returns-in-Export-clause-step : goal.returns-in-Export-clause-step
returns-in-Export-clause-step g c = rw c.in-Export.is (c.export.ensures (g.M.Memory.meaning c.args.memory.now))

pub returns-in-Import-clause-step : goal.returns-in-Import-clause-step
returns-in-Import-clause-step g c = rw c.in-Import.is (c.import.ensures (g.M.Memory.meaning c.args.memory.now))
