-- An interrupt whose handler only returns gives all back. Assumes nothing.
use Rattle.std.proofs.Common.{◌≡◌, ℕ, Bool, true, false, cond, not, ltb, List, length, get_or, Some, None, Ok, Err, Option, sym, refl, subst, arith}
use Rattle.std.proofs.lemmas.Bool.{and_parts, not-true, and_right, ltb-true, lt-ltb}
use Rattle.refusals.specs.declared.Refusal.TheVariants.{PcOutside, StackFull}
use Rattle.words.specs.declared.instruction.Instruction.TheVariants.{ReturnFromInterrupt}
use Rattle.words.specs.Decoding.{instruction_of}
use Rattle.memories.specs.Meaning.{Meaning}
use Rattle.machine.specs.Cores.{Core, at, pushed, with_interrupts}
use Rattle.machine.specs.Moves.{interrupts}
use Rattle.machine.specs.Ticks.{line}
use Rattle.machine.specs.Steps.{Outcome, went, moving, only, step}

-- what an entry leaves
abbrev in_handler : Core → Core
in_handler core = at 0 (with_interrupts core.enabled true (pushed core.pc core))

-- a step that went began inside the image
inside_image_lem : (inside : Bool) (outcome : Outcome) {core' : Core} {memory' : Meaning} {cycles : ℕ} {export : Option ℕ} (pc : ℕ) → only inside (PcOutside pc) outcome ≡ went core' memory' cycles export → (inside ≡ true) × (outcome ≡ went core' memory' cycles export)
inside_image_lem true outcome pc e = (refl, e)
inside_image_lem false outcome pc e = let z : ◌≡◌ {A = ℕ} 0 1 = cc in absurd (omega arith)

-- an entry that went led into the handler
led_in : (roomy : Bool) (core : Core) (memory : Meaning) {core' : Core} {memory' : Meaning} {cycles : ℕ} {export : Option ℕ} → moving (cond roomy (Ok (in_handler core)) (Err (StackFull core.pc))) memory 2 None ≡ went core' memory' cycles export → (core' ≡ in_handler core) × (memory' ≡ memory)
led_in true core memory e = (cc, cc)
led_in false core memory e = let z : ◌≡◌ {A = ℕ} 0 1 = cc in absurd (omega arith)

module _ (image : List ℕ) (room : Bool) (next : ℕ) (core : Core) (memory : Meaning) (returns : instruction_of (get_or image 0 0) ≡ Some ReturnFromInterrupt) (served : core.service ≡ false) (inside : ltb core.pc (length image) ≡ true) where
  quiet : interrupts next (in_handler core) ≡ false
  quiet = and_right (line next) _ (and_right core.enabled false refl)

  some_words : ltb 0 (length image) ≡ true
  some_words = lt-ltb 0 (length image) (omega (arith, ltb-true _ _ inside))

  back_again : step image room next (in_handler core) memory ≡ went core memory 2 None
  back_again = rw (some_words, quiet, returns, inside) (λ i. went (record { registers = core.registers; carry = core.carry; zero = core.zero; enabled = core.enabled; service = sym served i; pc = core.pc; stack = core.stack }) memory 2 None)

pub transparent : (image : List ℕ) (room : Bool) (tick next : ℕ) (core core' : Core) (memory memory' : Meaning) (cycles : ℕ) (export : Option ℕ) → instruction_of (get_or image 0 0) ≡ Some ReturnFromInterrupt → interrupts tick core ≡ true → step image room tick core memory ≡ went core' memory' cycles export → step image room next core' memory' ≡ went core memory 2 None
transparent image room tick next core core' memory memory' cycles export returns due goes =
    let began = inside_image_lem (ltb core.pc (length image)) _ core.pc goes in
    let led = led_in (ltb (length core.stack) 16) core memory (rw due at began.1) in
    let idle = (and_parts core.enabled (not core.service) (and_parts (line tick) _ due).1).1 in
    subst (λ k. step image room next k memory' ≡ went core memory 2 None) (sym led.0) (subst (λ m. step image room next (in_handler core) m ≡ went core memory 2 None) (sym led.1) (back_again image room next core memory returns (not-true _ idle) began.0))
