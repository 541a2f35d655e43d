use Rattle.memories.proofs.Bytes.{zeros, whole_pages}
use Rattle.memories.proofs.Cells.{cell_laws}
use Rattle.memories.proofs.Parts.{joined_laws}
use Rattle.memories.proofs.on_chip.OnChip.new.Goals as goal

pub returns : goal.returns
returns c = record { value = zeros; laws = record { cells = cell_laws; joins = joined_laws; whole = whole_pages } }
