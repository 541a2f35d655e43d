-- The successors of an instruction: where control can go from it, and which way. Assumes nothing.
use Rattle.std.specs.Prelude.{◌≡◌, ℕ, ◌+◌, ◌<◌, ◌⊎◌, List, length, ℤ, pos, ◌+ℤ◌, Some, None, Option, slice_index}
use Rattle.words.specs.declared.instruction.Instruction.{Instruction}
use Rattle.words.specs.declared.instruction.Instruction.TheVariants.{Register, Immediate, Rotate, Flag, Direct, Indirect, BranchIf, CallIf, Call, Return, ReturnFromInterrupt, Branch}
use Rattle.words.specs.Addresses.{inside_image}
use Rattle.words.specs.Codec.{Writes}
use Rattle.facts.specs.declared.successors.Successors.{Successors}

-- to the word after
abbrev pub onward : ℕ → Successors ℤ
onward a = record { next = Some (pos (a + 1)); target = None; routine = None; resume = None }

abbrev pub nowhere : Successors ℤ
nowhere = record { next = None; target = None; routine = None; resume = None }

abbrev pub successors : ℕ → Instruction → Successors ℤ
successors a (Register operation rd rb) = onward a
successors a (Immediate operation rd constant) = onward a
successors a (Rotate rotation rd rb) = onward a
successors a (Flag change) = onward a
successors a (Direct transfer rd number) = onward a
successors a (Indirect transfer rd rb) = onward a
successors a (BranchIf condition offset) = record { next = Some (pos (a + 1)); target = Some (pos a +ℤ offset); routine = None; resume = None }
successors a (CallIf condition offset) = record { next = Some (pos (a + 1)); target = None; routine = Some (pos a +ℤ offset); resume = Some (pos (a + 1)) }
successors a (Call offset) = record { next = None; target = None; routine = Some (pos a +ℤ offset); resume = Some (pos (a + 1)) }
successors a Return = nowhere
successors a ReturnFromInterrupt = nowhere
successors a (Branch offset) = record { next = None; target = Some (pos a +ℤ offset); routine = None; resume = None }

-- the address, if there is one and it lies in an image of so many words
abbrev pub inside : ℕ → Option ℤ → Option ℕ
inside words None = None
inside words (Some address) = inside_image words address

abbrev pub within : ℕ → Successors ℤ → Successors ℕ
within words s = record { next = inside words s.next; target = inside words s.target; routine = inside words s.routine; resume = inside words s.resume }

-- the way that control takes: past a word, into a routine, or back behind its call
pub data Edge : Type 0 where
  past enter resume : Edge

abbrev pub Leads : {A : Type 0} → Successors A → Edge → A → Type 0
Leads s past to = (s.next ≡ Some to) ⊎ (s.target ≡ Some to)
Leads s enter to = s.routine ≡ Some to
Leads s resume to = s.resume ≡ Some to

-- the instruction at one address of the image leads to another address of it
pub record Step (image : List ℕ) (edge : Edge) (a : ℕ) (i : Instruction) (b : ℕ) : Type 0 where
  pub from : a < length image
  pub writes : Writes i (slice_index image a)
  pub leads : Leads (successors a i) edge (pos b)
  pub to : b < length image
