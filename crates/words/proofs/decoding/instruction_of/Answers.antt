-- The two words that have no field.
use Rattle.std.proofs.Common.{arith}
use Rattle.words.specs.declared.instruction.Instruction.TheVariants.{Return, ReturnFromInterrupt}
use Rattle.words.proofs.Codec.{writes_computed}
use Rattle.words.proofs.decoding.instruction_of.Goals as goal

pub returns-in-233472 : goal.returns-in-233472
returns-in-233472 c = writes_computed Return c.args.word (tt, omega arith)

pub returns-in-237568 : goal.returns-in-237568
returns-in-237568 c = writes_computed ReturnFromInterrupt c.args.word (tt, omega arith)
