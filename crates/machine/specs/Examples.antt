-- The worked examples: of words, and of what operations and rotations compute. Assumes nothing.
use Rattle.std.specs.Prelude.{◌≡◌, ℕ, Bool, true, false}
use Rattle.words.specs.declared.codes.Operation.TheVariants.{Add, Subc}
use Rattle.words.specs.declared.codes.Rotation.TheVariants.{Rorc}
use Rattle.words.specs.Examples.{WordExamples}
use Rattle.machine.specs.Arithmetic.{operated, settled, rotated}
use Rattle.machine.specs.Cores.{Core, fresh, register, with_register, with_flags}

-- a reset core but for R01 and the carry
abbrev pub holding : ℕ → Bool → Core
holding value carry = with_register 1 value (with_flags carry false fresh)

-- R01, carry and zero
abbrev pub Gives : Core → ℕ → Bool → Bool → Type 0
Gives core value carry zero = (register core 1 ≡ value) × (core.carry ≡ carry) × (core.zero ≡ zero)

pub record WorkedExamples : Type 0 where
  pub words : WordExamples
  pub add_200_56 : Gives (operated Add 1 56 (holding 200 false)) 0 true true
  pub subc_0_255 : Gives (operated Subc 1 255 (holding 0 true)) 0 true true
  pub rorc_1 : Gives (settled 1 (rotated Rorc false 1) (holding 9 false)) 0 true true
