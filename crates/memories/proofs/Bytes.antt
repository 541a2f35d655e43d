-- Memories over a list of bytes: what setting a byte does, and which bytes are cells. Assumes nothing.
use Rattle.std.proofs.Common.{◌≡◌, ℕ, ◌*◌, List, length, get_or, replicate, arith}
use lib.ListN.{get_or-replicate}
use Rattle.memories.specs.Kinds.{blank, of_bytes}
use Rattle.memories.specs.Lengths.{WholePages}
use Rattle.memories.specs.Meaning.{filled}
use Rattle.memories.proofs.Filled.{filled_same}

-- every byte of a checked length is a cell
pub whole_pages : (bytes : List ℕ) → WholePages (length bytes) → 256 * (of_bytes bytes).pages ≡ length bytes
whole_pages bytes checked = omega arith

pub zeros : filled 1 (λ page offset. get_or (replicate 256 0) offset 0) ≡ blank
zeros = filled_same 1 (λ page offset low. get_or-replicate 256 offset 0 0 low)
