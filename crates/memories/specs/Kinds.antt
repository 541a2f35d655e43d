-- What each kind of memory means. Assumes nothing.
--
--   blank      one page of zeros
--   on_chip    a page of its own cells
--   of_bytes   the whole pages of a list of bytes
--   board      the whole pages of the bytes that are lent
--   joined     one memory's pages, and another's behind them
use Rattle.std.specs.Prelude.{ℕ, ◌+◌, ◌-◌, ◌*◌, ◌/◌, cond, List, length, nat_lt, slice_index}
use Rattle.memories.specs.declared.board.BoardMemory.{BoardMemory}
use Rattle.memories.specs.declared.on_chip.OnChip.{OnChip}
use Rattle.memories.specs.Meaning.{Meaning, filled}

abbrev pub blank : Meaning
blank = filled 1 (λ page offset. 0)

abbrev pub on_chip : OnChip → Meaning
on_chip memory = filled 1 (λ page offset. slice_index memory.cells offset)

abbrev pub of_bytes : List ℕ → Meaning
of_bytes bytes = filled (length bytes / 256) (λ page offset. slice_index bytes (256 * page + offset))

abbrev pub board : BoardMemory → Meaning
board memory = of_bytes memory.bytes.now

abbrev pub joined : Meaning → Meaning → Meaning
joined first second = filled
    (first.pages + second.pages)
    (λ page offset. cond (nat_lt page first.pages) (first.byte page offset) (second.byte (page - first.pages) offset))
