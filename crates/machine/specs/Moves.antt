-- Where control goes: to an address of the image, through the call stack, into and out of an interrupt. Assumes nothing.
use Rattle.std.specs.Prelude.{◌≡◌, ℕ, ◌+◌, Bool, true, false, cond, not, ◌&&◌, [], ◌∷◌, length, ℤ, pos, Some, None, Ok, Err, Option, Result, nat_lt}
use Rattle.refusals.specs.declared.Refusal.{Refusal}
use Rattle.refusals.specs.declared.Refusal.TheVariants.{NotInService, StackEmpty, NextOutside, StackFull}
use Rattle.words.specs.declared.codes.Condition.{Condition}
use Rattle.words.specs.declared.codes.Condition.TheVariants.{Zero, NotZero, Carry, NotCarry}
use Rattle.words.specs.Addresses.{inside_image, landing}
use Rattle.machine.specs.declared.stack.Entry.{Entry}
use Rattle.machine.specs.Cores.{Core, at, pushed, with_flags, with_interrupts, with_stack}
use Rattle.machine.specs.Stacks.{rest_of}
use Rattle.machine.specs.Ticks.{line}

-- the core after a move, or why there is none
abbrev pub Moved : Type 0
Moved = Result Core Refusal

-- where this does not hold, stop with that refusal
abbrev pub unless : Bool → Refusal → Moved → Moved
unless holds refusal moved = cond holds moved (Err refusal)

-- an address of the image, or the refusal of any other
abbrev pub reached : ℕ → Option ℕ → Result ℕ Refusal
reached pc None = Err (NextOutside pc)
reached pc (Some address) = Ok address

-- go on from an address of the image
abbrev pub going : Result ℕ Refusal → (ℕ → Moved) → Moved
going (Ok address) go = go address
going (Err refusal) go = Err refusal

-- the word after this one
abbrev pub after : ℕ → Core → Result ℕ Refusal
after words core = reached core.pc (inside_image words (pos (core.pc + 1)))

-- where an offset leads from this word
abbrev pub target : ℕ → ℤ → Core → Result ℕ Refusal
target words offset core = reached core.pc (landing words core.pc offset)

abbrev pub holds : Condition → Core → Bool
holds Zero core = core.zero
holds NotZero core = not core.zero
holds Carry core = core.carry
holds NotCarry core = not core.carry

abbrev pub passed : ℕ → Core → Moved
passed words core = going (after words core) (λ next. Ok (at next core))

abbrev pub jumped : ℕ → ℤ → Core → Moved
jumped words offset core = going (target words offset core) (λ address. Ok (at address core))

-- the target and the return address are looked at before the stack
abbrev pub called : ℕ → ℤ → Core → Moved
called words offset core =
    going (target words offset core) (λ address. going (after words core) (λ next. unless (nat_lt (length core.stack) 16) (StackFull core.pc) (Ok (at address (pushed next core)))))

-- the newest entry, if its address is one of the image
abbrev pub way_back : ℕ → Core → Result Entry Refusal
way_back words core = elim core.stack [ [] ↦ Err (StackEmpty core.pc) | entry ∷ rest ↦ cond (nat_lt entry.address words) (Ok entry) (Err (NextOutside core.pc)) ]

-- to where the newest entry says, by a core that it makes
abbrev pub back : Result Entry Refusal → (Entry → Core) → Moved
back (Ok entry) make = Ok (at entry.address (make entry))
back (Err refusal) make = Err refusal

-- the stored flags are dropped
abbrev pub returned : ℕ → Core → Moved
returned words core = back (way_back words core) (λ entry. with_stack (rest_of core.stack) core)

-- the stored flags are taken back, and the interrupt is served
abbrev pub interrupt_returned : ℕ → Core → Moved
interrupt_returned words core =
    unless core.service (NotInService core.pc)
    (back (way_back words core) (λ entry. with_interrupts core.enabled false (with_flags entry.carry entry.zero (with_stack (rest_of core.stack) core))))

-- the line is up, interrupts are enabled, and none is in service
abbrev pub interrupts : ℕ → Core → Bool
interrupts tick core = line tick && (core.enabled && not core.service)

-- to address 0, to come back to this word with both flags
abbrev pub entered : Core → Moved
entered core = unless (nat_lt (length core.stack) 16) (StackFull core.pc) (Ok (at 0 (with_interrupts core.enabled true (pushed core.pc core))))

-- a call moves so; where it refuses it leaves all as it was
abbrev pub Moves : Moved → Core → Result (Unit {0}) Refusal → Core → Type 0
Moves moved before (Ok done) after = moved ≡ Ok after
Moves moved before (Err refusal) after = (moved ≡ Err refusal) × (after ≡ before)
