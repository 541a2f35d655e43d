-- Worked examples about words, each a fact about the definitions. Assumes nothing.
use Rattle.words.specs.declared.codes.Operation.TheVariants.{Add, Mov}
use Rattle.words.specs.declared.instruction.Instruction.TheVariants.{Register}
use Rattle.words.specs.Codec.{Writes}
use Rattle.words.specs.Patterns.{Defined}

pub record WordExamples : Type 0 where
  pub add_r1_r2 : Writes (Register Add 1 2) 0x08110
  pub mov_r0_r0 : Writes (Register Mov 0 0) 0x10000
  pub reserved_opcode : Defined 0x3C000 → ⊥
  pub unused_bit_set : Defined 0x08111 → ⊥
