-- What it says of a word that it is an instruction. Assumes nothing.
use Rattle.std.proofs.Common.{◌≡◌, ℕ, zero, suc, ◌<◌, Bool, true, false, cond, ltb, List, [], ◌∷◌, length, get_or, ℤ, pos, negsuc, Some, None, sym, refl, ap, ◌∙◌, subst, arith}
use Rattle.std.proofs.lemmas.Bool.{or_left, or_right, ltb-true}
use Rattle.std.proofs.lemmas.Bool.Decides.{nat_tests}
use Rattle.words.specs.declared.instruction.Instruction.{Instruction}
use Rattle.words.specs.Addresses.{inside_image}
use Rattle.words.specs.Codec.{Writes}
use Rattle.words.specs.Decoding.{instruction_of}
use Rattle.words.specs.Patterns.{Defined}
use Rattle.words.proofs.Codec.{one_instruction_each, written_computed}
use Rattle.ledger.specs.Interrupts.{enables, word_enables, interruptible}

some_defined : (w : ℕ) (i : Instruction) → instruction_of w ≡ Some i → Defined w
unfolding instruction_of
some_defined w i e = grind (arith, nat_tests)

same_some : (i j : Instruction) → Some i ≡ Some j → i ≡ j
same_some i j e = cc

-- the instruction that a word computes to writes it
pub computed_writes : (w : ℕ) (i : Instruction) → instruction_of w ≡ Some i → Writes i w
computed_writes w i e =
    let one = one_instruction_each.written w (some_defined w i e) in
    subst (λ j. Writes j w) (same_some one.0 i (sym (written_computed one.0 w one.1) ∙ e)) one.1

-- an image with a word that enables interrupts is interruptible
pub interruptible_found : (image : List ℕ) (a : ℕ) (i : Instruction) → a < length image → instruction_of (get_or image a 0) ≡ Some i → enables i ≡ true → interruptible image ≡ true
interruptible_found [] a i inside found e = absurd (omega arith)
interruptible_found (word ∷ image) zero i inside found e = or_left _ _ (ap word_enables found ∙ e)
interruptible_found (word ∷ image) (suc a) i inside found e = or_right _ _ (interruptible_found image a i (omega arith) found e)

-- an address that lies in the image
pub inside_address : (words : ℕ) (to : ℤ) (b : ℕ) → inside_image words to ≡ Some b → (to ≡ pos b) × (b < words)
inside_address words (pos address) b e = go (ltb address words) refl e
  where
    go : (t : Bool) → ltb address words ≡ t → cond t (Some address) None ≡ Some b → (pos address ≡ pos b) × (b < words)
    go true h same = let k : address ≡ b = cc in (ap pos k, omega (arith, ltb-true address words h))
    go false h none = let z : ◌≡◌ {A = ℕ} 0 1 = cc in absurd (omega arith)
inside_address words (negsuc below) b e = let z : ◌≡◌ {A = ℕ} 0 1 = cc in absurd (omega arith)
