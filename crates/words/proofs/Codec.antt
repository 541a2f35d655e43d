-- Each defined word is written by one valid instruction, and no other word is. Assumes nothing.
use Rattle.std.proofs.Common.{◌≡◌, ℕ, ◌-◌, ◌/◌, ◌%◌, ◌^◌, ◌<◌, ◌⊎◌, ℤ, pos, negsuc, IfSome, Some, None, Option, Result, sym, refl, ◌∙◌, subst, inl, inr, ⊎_elim, arith}
use Rattle.std.proofs.lemmas.Bool.{cases_lt}
use Rattle.std.proofs.lemmas.Bool.Decides.{nat_tests}
use Rattle.refusals.specs.declared.Refusal.{Refusal}
use Rattle.words.specs.declared.codes.Condition.{Condition}
use Rattle.words.specs.declared.codes.FlagChange.{FlagChange}
use Rattle.words.specs.declared.codes.Operation.{Operation}
use Rattle.words.specs.declared.codes.Rotation.{Rotation}
use Rattle.words.specs.declared.codes.Transfer.{Transfer}
use Rattle.words.specs.declared.instruction.Instruction.{Instruction}
use Rattle.words.specs.declared.instruction.Instruction.TheVariants.{Register, Immediate, Rotate, Flag, Direct, Indirect, BranchIf, CallIf, Call, Return, ReturnFromInterrupt, Branch}
use Rattle.words.specs.Bits.{bits, InOffsetRange, offset_field}
use Rattle.words.specs.Codes.{operation_code, rotation_code, flag_code, transfer_code, condition_code}
use Rattle.words.specs.Decoding.{operation_at, rotation_at, flag_at, transfer_at, condition_at, offset_at, instruction_of}
use Rattle.words.specs.Encoding.{Valid, word_of}
use Rattle.words.specs.Patterns.{Defined, RegisterPattern, ImmediatePattern, RotatePattern, FlagPattern, TransferPattern, ConditionalPattern, UnconditionalPattern, ReturnPattern}
use Rattle.words.specs.Codec.{Writes, Decodes, answer_of, OneInstructionEach}

operation_below : (o : Operation) → operation_code o < 10
operation_below o = grind arith

offset_below : (o : ℤ) → InOffsetRange o → offset_field o < 4096
offset_below (pos n) h = omega arith
offset_below (negsuc n) h = omega arith

condition_below : (c : Condition) → condition_code c < 4
condition_below c = grind arith

-- what an instruction writes is defined
valid_defined : (i : Instruction) → Valid i → Defined (word_of i)
valid_defined (Register o d b) h = let k = operation_below o in grind arith
valid_defined (Immediate o d c) h = let k = operation_below o in grind arith
valid_defined (Rotate r d b) h = grind arith
valid_defined (Flag f) h = grind arith
valid_defined (Direct t d n) h = grind arith
valid_defined (Indirect t d b) h = grind arith
valid_defined (BranchIf c o) h = let k = condition_below c in let l = offset_below o h in grind arith
valid_defined (CallIf c o) h = let k = condition_below c in let l = offset_below o h in grind arith
valid_defined (Call o) h = let l = offset_below o h in grind arith
valid_defined Return h = grind arith
valid_defined ReturnFromInterrupt h = grind arith
valid_defined (Branch o) h = let l = offset_below o h in grind arith

operation_at_lem : (n : ℕ) → n < 10 → operation_code (operation_at n) ≡ n
unfolding operation_at
operation_at_lem n h = grind (arith, nat_tests)

rotation_at_lem : (n : ℕ) → n < 4 → rotation_code (rotation_at n) ≡ n
unfolding rotation_at
rotation_at_lem n h = grind (arith, nat_tests)

flag_at_lem : (n : ℕ) → n < 6 → flag_code (flag_at n) ≡ n
unfolding flag_at
flag_at_lem n h = grind (arith, nat_tests)

transfer_at_lem : (n : ℕ) → n < 6 → (n / 2) % 2 ≡ 0 → transfer_code (transfer_at n) ≡ n
unfolding transfer_at
transfer_at_lem n h e = grind (arith, nat_tests)

condition_at_lem : (n : ℕ) → n < 4 → condition_code (condition_at n) ≡ n
unfolding condition_at
condition_at_lem n h = grind (arith, nat_tests)

offset_at_lem : (n : ℕ) → n < 4096 → InOffsetRange (offset_at n) × (offset_field (offset_at n) ≡ n)
unfolding offset_at
offset_at_lem n h = grind (arith, nat_tests)

Written : ℕ → Type 0
Written w = (i : Instruction) × Writes i w

module _ (w : ℕ) (below : w < 2 ^ 18) where
  written_register : RegisterPattern w → Written w
  unfolding Written
  written_register p = (Register (operation_at (bits 17 14 w)) (bits 12 8 w) (bits 7 3 w), let k = operation_at_lem (bits 17 14 w) p.0 in grind arith)

  written_immediate : ImmediatePattern w → Written w
  unfolding Written
  written_immediate p = (Immediate (operation_at (bits 17 14 w)) (bits 12 8 w) (bits 7 0 w), let k = operation_at_lem (bits 17 14 w) p.0 in grind arith)

  written_rotate : RotatePattern w → Written w
  unfolding Written
  written_rotate p = (Rotate (rotation_at (bits 2 0 w)) (bits 12 8 w) (bits 7 3 w), let k = rotation_at_lem (bits 2 0 w) p.1 in grind arith)

  written_flag : FlagPattern w → Written w
  unfolding Written
  written_flag p = (Flag (flag_at (bits 2 0 w)), let k = flag_at_lem (bits 2 0 w) p.2 in (tt, grind arith))

  written_transfer : TransferPattern w → Written w
  unfolding Written
  written_transfer p = elim (cases_lt (bits 1 1 w) 1) [
    | inl z ↦ (Direct (transfer_at (bits 2 0 w)) (bits 12 8 w) (bits 7 3 w), let k = transfer_at_lem (bits 2 0 w) (omega arith) (omega arith) in grind arith)
    | inr z ↦ (Indirect (transfer_at (bits 2 0 w - 2)) (bits 12 8 w) (bits 7 3 w), let k = transfer_at_lem (bits 2 0 w - 2) (omega arith) (omega arith) in grind arith)
  ]

  written_conditional : ConditionalPattern w → Written w
  unfolding Written
  written_conditional p =
      let k = condition_at_lem (bits 13 12 w) (omega arith) in
      let o = offset_at_lem (bits 11 0 w) (omega arith) in
      elim (cases_lt (bits 14 14 w) 1) [
        | inl z ↦ (BranchIf (condition_at (bits 13 12 w)) (offset_at (bits 11 0 w)), (o.0, grind (arith, o.1)))
        | inr z ↦ (CallIf (condition_at (bits 13 12 w)) (offset_at (bits 11 0 w)), (o.0, grind (arith, o.1)))
      ]

  written_unconditional : UnconditionalPattern w → Written w
  unfolding Written
  written_unconditional p =
      let o = offset_at_lem (bits 11 0 w) (omega arith) in
      elim p.1 [ inl z ↦ (Call (offset_at (bits 11 0 w)), (o.0, grind (arith, o.1))) | inr z ↦ (Branch (offset_at (bits 11 0 w)), (o.0, grind (arith, o.1))) ]

  written_return : ReturnPattern w → Written w
  unfolding Written
  written_return p = elim p.1 [ inl z ↦ (Return, (tt, grind arith)) | inr z ↦ (ReturnFromInterrupt, (tt, grind arith)) ]

operation_back : (o : Operation) → operation_at (operation_code o) ≡ o
unfolding operation_at
operation_back o = grind (arith, nat_tests)

offset_back : (o : ℤ) → InOffsetRange o → offset_at (offset_field o) ≡ o
unfolding offset_at
offset_back (pos n) h = grind (arith, nat_tests)
offset_back (negsuc n) h = grind (arith, nat_tests)

condition_back : (c : Condition) → condition_at (condition_code c) ≡ c
unfolding condition_at
condition_back c = grind (arith, nat_tests)

rotation_back : (r : Rotation) → rotation_at (rotation_code r) ≡ r
unfolding rotation_at
rotation_back r = grind (arith, nat_tests)

transfer_back : (t : Transfer) → transfer_at (transfer_code t) ≡ t
unfolding transfer_at
transfer_back t = grind (arith, nat_tests)

flag_back : (f : FlagChange) → flag_at (flag_code f) ≡ f
unfolding flag_at
flag_back f = grind (arith, nat_tests)

rotation_below : (r : Rotation) → rotation_code r < 4
rotation_below r = grind arith

flag_below : (f : FlagChange) → flag_code f < 6
flag_below f = grind arith

transfer_bit : (t : Transfer) → (transfer_code t < 6) × ((transfer_code t / 2) % 2 ≡ 0)
transfer_bit t = grind arith

computed_back : (i : Instruction) → Valid i → instruction_of (word_of i) ≡ Some i
unfolding instruction_of
computed_back (Register o d b) h = let k = operation_below o in let e = operation_back o in grind (arith, nat_tests)
computed_back (Immediate o d c) h = let k = operation_below o in let e = operation_back o in grind (arith, nat_tests)
computed_back (Rotate r d b) h = let k = rotation_below r in let e = rotation_back r in grind (arith, nat_tests)
computed_back (Flag f) h = let k = flag_below f in let e = flag_back f in grind (arith, nat_tests)
computed_back (Direct t d n) h = let k = transfer_bit t in let e = transfer_back t in grind (arith, nat_tests)
computed_back (Indirect t d b) h = let k = transfer_bit t in let e = transfer_back t in grind (arith, nat_tests)
computed_back (BranchIf c o) h = let k = condition_below c in let e = condition_back c in let l = offset_below o h in let f = offset_back o h in grind (arith, nat_tests)
computed_back (CallIf c o) h = let k = condition_below c in let e = condition_back c in let l = offset_below o h in let f = offset_back o h in grind (arith, nat_tests)
computed_back (Call o) h = let l = offset_below o h in let f = offset_back o h in grind (arith, nat_tests)
computed_back Return h = refl
computed_back ReturnFromInterrupt h = refl
computed_back (Branch o) h = let l = offset_below o h in let f = offset_back o h in grind (arith, nat_tests)

undefined_none : (w : ℕ) → (Defined w → ⊥) → instruction_of w ≡ None
unfolding instruction_of
undefined_none w u = grind (arith, nat_tests)

-- what writes a word is what the word computes to
pub written_computed : (i : Instruction) (w : ℕ) → Writes i w → instruction_of w ≡ Some i
written_computed i w h = subst (λ v. instruction_of v ≡ Some i) h.1 (computed_back i h.0)

-- a decision is what the word computes to
abbrev pub Computed : ℕ → Option Instruction → Type 0
Computed w o = (o ≡ instruction_of w) × IfSome o (λ i. Valid i)

pub writes_computed : (i : Instruction) (w : ℕ) → Writes i w → Computed w (Some i)
writes_computed i w writes = (sym (written_computed i w writes), writes.0)

pub undefined_computed : (w : ℕ) → (Defined w → ⊥) → Computed w None
undefined_computed w undefined = (sym (undefined_none w undefined), tt)

same_some : (i j : Instruction) → Some i ≡ Some j → i ≡ j
same_some i j e = cc

all_written : (w : ℕ) → Defined w → (i : Instruction) × Writes i w
unfolding Written
all_written = λ w d. ⊎_elim (written_register w d.0) (⊎_elim (written_immediate w d.0) (⊎_elim (written_rotate w d.0) (⊎_elim (written_flag w d.0) (⊎_elim (written_transfer w d.0) (⊎_elim (written_conditional w d.0) (⊎_elim (written_unconditional w d.0) (written_return w d.0))))))) d.1

-- a word is defined or not
decided : (w : ℕ) → Defined w ⊎ (Defined w → ⊥)
decided w = grind arith

decoded_by : (w : ℕ) → ((d : Defined w) → (i : Instruction) × Writes i w) → Decodes w (answer_of (instruction_of w))
decoded_by w written = ⊎_elim
    (λ d. let i = written d in rw (written_computed i.0 w i.1) (d, i.1))
    (λ u. rw (undefined_none w u) (u, refl))
    (decided w)

pub one_instruction_each : OneInstructionEach
unfolding Written
one_instruction_each = record {
  written = all_written;
  decoded = λ w. decoded_by w (all_written w);
  defined = λ i w h. subst Defined h.1 (valid_defined i h.0);
  only = λ i j w h k. same_some i j (sym (written_computed i w h) ∙ written_computed j w k);
}

pub computed_decodes : (w : ℕ) (r : Result Instruction Refusal) → r ≡ answer_of (instruction_of w) → Decodes w r
computed_decodes w r e = subst (Decodes w) (sym e) (one_instruction_each.decoded w)
