-- What a board shows of its core. Assumes nothing.
use Rattle.std.specs.Prelude.{◌≡◌, length}
use Rattle.machine.specs.declared.board.BoardView.{BoardView}
use Rattle.machine.specs.Cores.{Core}

pub record Views (core : Core) (view : BoardView) : Type 0 where
  pub registers : view.registers ≡ core.registers
  pub carry : view.carry ≡ core.carry
  pub zero : view.zero ≡ core.zero
  pub enabled : view.enabled ≡ core.enabled
  pub service : view.in_service ≡ core.service
  pub pc : view.pc ≡ core.pc
  pub depth : view.depth ≡ length core.stack
