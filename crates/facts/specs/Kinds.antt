-- A kind of fact: its values, their order and their join, and how a fact is carried on. Assumes nothing.
use Rattle.std.specs.Prelude.{◌≡◌, ℕ, Bool, true}
use Rattle.words.specs.declared.instruction.Instruction.{Instruction}

pub record Kind (F : Type 0) : Type 0 where
  -- nothing
  pub bottom : F
  pub join : F → F → F
  -- the first says all that the second says
  pub covers : F → F → Bool
  -- how far up a fact stands
  pub rank : F → ℕ
  -- what holds past a word
  pub past : Instruction → F → F
  -- what holds in a routine, by what holds at its call
  pub enter : F → F
  -- what holds after a call, by the summary and what holds at the call
  pub resume : F → F → F
  -- the words whose facts the summary joins
  pub names : ℕ → Bool

abbrev pub Covers : {F : Type 0} → Kind F → F → F → Type 0
Covers k x y = k.covers x y ≡ true
