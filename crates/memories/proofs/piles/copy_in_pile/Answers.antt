use Rattle.memories.proofs.Bytes.{whole_pages}
use Rattle.memories.proofs.Cells.{cell_laws}
use Rattle.memories.proofs.Parts.{joined_laws}
use Rattle.memories.proofs.piles.copy_in_pile.Goals as goal

pub returns : goal.returns
returns c = record {
  cells = c.copy_cell.ensures.cells;
  rest = c.copy_cell.ensures.rest;
  laws = record { cells = cell_laws; joins = joined_laws; whole = whole_pages };
}
