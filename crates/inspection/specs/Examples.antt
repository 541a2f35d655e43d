-- The worked examples, where all definitions meet. Assumes nothing.
use Rattle.std.specs.Prelude.{◌≡◌, ℕ, Bool, true, false, List, [], ◌∷◌, slice_set}
use Rattle.refusals.specs.declared.Refusal.TheVariants.{PageNotOwned}
use Rattle.words.specs.declared.codes.Operation.TheVariants.{Add, Subc, Mov}
use Rattle.words.specs.declared.codes.Rotation.TheVariants.{Rorc}
use Rattle.words.specs.declared.instruction.Instruction.TheVariants.{Register}
use Rattle.words.specs.Codec.{Writes}
use Rattle.words.specs.Patterns.{Defined}
use Rattle.machine.specs.Arithmetic.{operated, settled, rotated}
use Rattle.machine.specs.Cores.{Core, fresh, register, with_register, with_flags}
use Rattle.ledger.specs.declared.owned.OwnedPages.{OwnedPages}
use Rattle.ledger.specs.declared.row.Row.{Row}
use Rattle.inspection.specs.Inspects.{Passes, Refused}

-- a reset core but for R01 and the carry
abbrev pub holding : ℕ → Bool → Core
holding value carry = with_register 1 value (with_flags carry false fresh)

-- R01, carry and zero
abbrev pub Gives : Core → ℕ → Bool → Bool → Type 0
Gives core value carry zero = (register core 1 ≡ value) × (core.carry ≡ carry) × (core.zero ≡ zero)

-- iret; movi R14,0x03; seti; call 2; b 0; ssp R01,0x05; ret
abbrev pub example : List ℕ
example = 0x3A000 ∷ 0x12E03 ∷ 0x2C005 ∷ 0x38002 ∷ 0x3B000 ∷ 0x2E12C ∷ 0x39000 ∷ []

-- with b -1 for b 0: the call comes again, and R14 may then be 0
abbrev pub example_again : List ℕ
example_again = slice_set example 4 0x3BFFF

abbrev pub page_three : OwnedPages
page_three = record { first = 3; last = 3 }

pub record WorkedExamples : Type 0 where
  pub add_r1_r2 : Writes (Register Add 1 2) 0x08110
  pub mov_r0_r0 : Writes (Register Mov 0 0) 0x10000
  pub reserved_opcode : Defined 0x3C000 → ⊥
  pub unused_bit_set : Defined 0x08111 → ⊥
  pub add_200_56 : Gives (operated Add 1 56 (holding 200 false)) 0 true true
  pub subc_0_255 : Gives (operated Subc 1 255 (holding 0 true)) 0 true true
  pub rorc_1 : Gives (settled 1 (rotated Rorc false 1) (holding 9 false)) 0 true true
  pub passes : (rows : List Row) × Passes example page_three rows 2
  pub refused : Refused example_again page_three (PageNotOwned 5)
