-- What a pile of three memories means, and what it holds beside its cells. Assumes nothing.
use Rattle.std.specs.Prelude.{ℕ, List}
use Rattle.memories.specs.declared.board.BoardMemory.{BoardMemory}
use Rattle.memories.specs.declared.joined.Joined.{Joined}
use Rattle.memories.specs.declared.on_chip.OnChip.{OnChip}
use Rattle.memories.specs.Frames.{BoardFrame, JoinedFrame, board_frame, cut}
use Rattle.memories.specs.Kinds.{blank, board, joined, of_bytes, on_chip}
use Rattle.memories.specs.Meaning.{Meaning}

-- a page on the chip, the board's pages, and another page on the chip
abbrev pub pile : Joined OnChip (Joined BoardMemory OnChip) → Meaning
pile memory = joined (on_chip memory.first) (joined (board memory.second.first) (on_chip memory.second.second))

abbrev pub pile_over : List ℕ → Meaning
pile_over bytes = joined blank (joined (of_bytes bytes) blank)

abbrev pub pile_frame : Joined OnChip (Joined BoardMemory OnChip) → JoinedFrame (Unit {0}) (JoinedFrame BoardFrame (Unit {0}))
pile_frame memory = record {
  first = tt;
  second = record {
    first = board_frame memory.second.first;
    second = tt;
    parts = cut (board memory.second.first) (on_chip memory.second.second);
  };
  parts = cut (on_chip memory.first) (joined (board memory.second.first) (on_chip memory.second.second));
}
