-- What a memory holds beside its cells, which no call changes. Assumes nothing.
use Rattle.std.specs.Prelude.{ℕ, ◌+◌, ◌*◌, ◌^◌, cond, List, drop, nat_lt}
use Rattle.memories.specs.declared.board.BoardMemory.{BoardMemory}
use Rattle.memories.specs.Kinds.{of_bytes}
use Rattle.memories.specs.Meaning.{Meaning}

-- the bytes behind the last page
abbrev pub tail : List ℕ → List ℕ
tail bytes = drop (256 * (of_bytes bytes).pages) bytes

-- by the loan's name the lender learns what its bytes hold at the end
pub record BoardFrame : Type 0 where
  pub loan : ℕ
  pub tail : List ℕ

abbrev pub board_frame : BoardMemory → BoardFrame
board_frame memory = record { loan = memory.bytes.ghost_name; tail = tail memory.bytes.now }

-- how the pages are shared out, and the second's bytes that lie past page 65,535 of the whole
pub record Cut : Type 0 where
  pub first_pages : ℕ
  pub second_pages : ℕ
  pub beyond : ℕ → ℕ → ℕ

abbrev pub cut : Meaning → Meaning → Cut
cut first second = record {
  first_pages = first.pages;
  second_pages = second.pages;
  beyond = λ page offset. cond (nat_lt (first.pages + page) (2 ^ 16)) 0 (second.byte page offset);
}

pub record JoinedFrame (A B : Type 0) : Type 0 where
  pub first : A
  pub second : B
  pub parts : Cut
