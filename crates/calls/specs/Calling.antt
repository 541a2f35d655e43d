-- The call that a value stands for, and the state that a board and its memory are in. Assumes nothing.
--
--   call_of     the call that a value stands for
--   calls_of    those of a list
--   state_of    a board, with what its memory means
use Rattle.std.specs.Prelude.{ℕ, List, map}
use Rattle.memories.specs.Meaning.{Meaning}
use Rattle.machine.specs.declared.board.Board.{Board}
use Rattle.machine.specs.Calls.{stepping, running, resetting, counting, peeking, poking, State}
use Rattle.machine.specs.Calls.{Call as Defined}
use Rattle.machine.specs.Cores.{core_of}
use Rattle.calls.specs.declared.call.Call.{Call}
use Rattle.calls.specs.declared.call.Call.TheVariants.{Step, Run, Reset, PageCount, Peek, Poke}

-- with room for so many exports
abbrev pub call_of : ℕ → Call → Defined
call_of room (Step tick) = stepping tick
call_of room (Run ticks) = running ticks.now room
call_of room Reset = resetting
call_of room PageCount = counting
call_of room (Peek page offset) = peeking page offset
call_of room (Poke page offset byte) = poking page offset byte

abbrev pub calls_of : ℕ → List Call → List Defined
calls_of room calls = map (call_of room) calls

abbrev pub state_of : Board → Meaning → State
state_of board memory = record { core = core_of board; memory = memory }
