-- What the board holds beside the memory, and how its parts are read and changed. Assumes nothing.
use Rattle.std.specs.Prelude.{ℕ, ◌+◌, ◌*◌, Bool, false, List, [], ◌∷◌, replicate, slice_index, slice_set}
use Rattle.machine.specs.declared.board.Board.{Board}
use Rattle.machine.specs.declared.stack.Entry.{Entry}
use Rattle.machine.specs.Stacks.{stack_of}

pub record Core : Type 0 where
  pub registers : List ℕ
  pub carry : Bool
  pub zero : Bool
  pub enabled : Bool
  pub service : Bool
  pub pc : ℕ
  -- the newest entry first
  pub stack : List Entry

abbrev pub core_of : Board → Core
core_of board = record {
  registers = board.registers;
  carry = board.carry;
  zero = board.zero;
  enabled = board.enabled;
  service = board.in_service;
  pc = board.pc;
  stack = stack_of board.stack;
}

-- zeros, an empty stack, and the program's first address
abbrev pub fresh : Core
fresh = record { registers = replicate 32 0; carry = false; zero = false; enabled = false; service = false; pc = 1; stack = [] }

abbrev pub register : Core → ℕ → ℕ
register core number = slice_index core.registers number

-- the page that transfers reach
abbrev pub page_of : Core → ℕ
page_of core = 256 * register core 15 + register core 14

abbrev pub with_register : ℕ → ℕ → Core → Core
with_register number value core = record {
  registers = slice_set core.registers number value;
  carry = core.carry;
  zero = core.zero;
  enabled = core.enabled;
  service = core.service;
  pc = core.pc;
  stack = core.stack;
}

abbrev pub with_flags : Bool → Bool → Core → Core
with_flags carry zero core = record {
  registers = core.registers;
  carry = carry;
  zero = zero;
  enabled = core.enabled;
  service = core.service;
  pc = core.pc;
  stack = core.stack;
}

abbrev pub with_interrupts : Bool → Bool → Core → Core
with_interrupts enabled service core = record {
  registers = core.registers;
  carry = core.carry;
  zero = core.zero;
  enabled = enabled;
  service = service;
  pc = core.pc;
  stack = core.stack;
}

abbrev pub at : ℕ → Core → Core
at address core = record {
  registers = core.registers;
  carry = core.carry;
  zero = core.zero;
  enabled = core.enabled;
  service = core.service;
  pc = address;
  stack = core.stack;
}

abbrev pub with_stack : List Entry → Core → Core
with_stack stack core = record {
  registers = core.registers;
  carry = core.carry;
  zero = core.zero;
  enabled = core.enabled;
  service = core.service;
  pc = core.pc;
  stack = stack;
}

-- the address to go on at, with the flags of now, on top of the stack
abbrev pub pushed : ℕ → Core → Core
pushed address core = with_stack (record { address = address; carry = core.carry; zero = core.zero } ∷ core.stack) core
