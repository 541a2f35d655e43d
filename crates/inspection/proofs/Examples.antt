-- The worked examples hold. Assumes nothing.
use Rattle.std.proofs.Common.{List, refl, arith}
use Rattle.refusals.specs.declared.Refusal.TheVariants.{PageNotOwned}
use Rattle.words.specs.Decoding.{instruction_of, operation_at, flag_at, transfer_at, offset_at}
use Rattle.ledger.specs.declared.row.Row.{Row}
use Rattle.inspection.specs.Examples.{example, example_again, page_three, WorkedExamples}
use Rattle.inspection.specs.Inspects.{Passes, Refused}
use Rattle.inspection.proofs.Computing.{Computed, rows_found, passes_computed, refused_computed}

computed : Computed example
unfolding instruction_of operation_at flag_at transfer_at offset_at
computed = record { two = omega arith; longs = (refl, refl, refl); mains = refl; handlers = refl; spanned = refl; enough = refl; blank = refl; clear = refl }

computed_again : Computed example_again
unfolding instruction_of operation_at flag_at transfer_at offset_at
computed_again = record { two = omega arith; longs = (refl, refl, refl); mains = refl; handlers = refl; spanned = refl; enough = refl; blank = refl; clear = refl }

example_passes : (rows : List Row) × Passes example page_three rows 2
unfolding instruction_of operation_at flag_at transfer_at offset_at
example_passes = (rows_found example, passes_computed computed page_three (omega arith) refl)

again_refused : Refused example_again page_three (PageNotOwned 5)
unfolding instruction_of operation_at flag_at transfer_at offset_at
again_refused = refused_computed computed_again page_three (omega arith) 5 (omega arith) refl refl

pub examples_hold : WorkedExamples
examples_hold = record {
  add_r1_r2 = ((omega arith, omega arith), refl);
  mov_r0_r0 = ((omega arith, omega arith), refl);
  reserved_opcode = λ d. grind arith;
  unused_bit_set = λ d. grind arith;
  add_200_56 = (refl, refl, refl);
  subc_0_255 = (refl, refl, refl);
  rorc_1 = (refl, refl, refl);
  passes = example_passes;
  refused = again_refused;
}
