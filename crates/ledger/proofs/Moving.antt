-- Steps shown to be fine through the parts that a step is made of, and moves shown to succeed. Assumes nothing.
--
--   Fine   the step stops only for want of room for an export, or what it goes to has the property
use Rattle.std.proofs.Common.{◌≡◌, ℕ, ◌<◌, Bool, true, false, List, ◌∷◌, length, ℤ, Ok, Err, Option, Result, refl, ap, ◌∙◌}
use Rattle.std.proofs.lemmas.Bool.{cond-true, lt-ltb}
use Rattle.refusals.specs.declared.Refusal.{Refusal}
use Rattle.memories.specs.Meaning.{Meaning}
use Rattle.machine.specs.declared.stack.Entry.{Entry}
use Rattle.machine.specs.Cores.{Core, at, pushed, with_flags, with_interrupts, with_stack}
use Rattle.machine.specs.Moves.{Moved, after, target, going, back, way_back, passed, jumped, called, returned, interrupt_returned, entered}
use Rattle.machine.specs.Stacks.{rest_of}
use Rattle.machine.specs.Steps.{Outcome, stopped, went, moving, onward, only}

abbrev pub Fine : (Core → Meaning → Type 0) → Bool → Refusal → Outcome → Type 0
Fine P room full (stopped refusal) = (room ≡ false) × (refusal ≡ full)
Fine P room full (went core memory cycles export) = P core memory

module _ (P : Core → Meaning → Type 0) (room : Bool) (full : Refusal) where
  fine_next : (result : Result ℕ Refusal) (go : ℕ → Outcome) (next : ℕ) → result ≡ Ok next → Fine P room full (go next) → Fine P room full (elim result [ Ok a ↦ go a | Err refusal ↦ stopped refusal ])
  fine_next result go next e h = rw e h

  pub fine_onward : (words : ℕ) (core : Core) (go : ℕ → Outcome) (next : ℕ) → after words core ≡ Ok next → Fine P room full (go next) → Fine P room full (onward words core go)
  fine_onward words core go next e h = fine_next (after words core) go next e h

  pub fine_moving : (moved : Moved) (memory : Meaning) (cycles : ℕ) (export : Option ℕ) (core : Core) → moved ≡ Ok core → P core memory → Fine P room full (moving moved memory cycles export)
  fine_moving moved memory cycles export core e h = rw e h

  pub fine_only : (holds : Bool) (refusal : Refusal) (outcome : Outcome) → holds ≡ true → Fine P room full outcome → Fine P room full (only holds refusal outcome)
  fine_only holds refusal outcome e h = rw e h

pub fine_export : (P : Core → Meaning → Type 0) (room : Bool) (full : Refusal) (core : Core) (memory : Meaning) (cycles : ℕ) (export : Option ℕ) → P core memory → Fine P room full (only room full (went core memory cycles export))
fine_export P true full core memory cycles export h = h
fine_export P false full core memory cycles export h = (refl, refl)

module _ (words : ℕ) (core : Core) where
  pub passed_ok : (next : ℕ) → after words core ≡ Ok next → passed words core ≡ Ok (at next core)
  passed_ok next e = ap (λ r. going r (λ a. Ok (at a core))) e

  pub jumped_ok : (offset : ℤ) (b : ℕ) → target words offset core ≡ Ok b → jumped words offset core ≡ Ok (at b core)
  jumped_ok offset b e = ap (λ r. going r (λ a. Ok (at a core))) e

  pub called_ok : (offset : ℤ) (b next : ℕ) → target words offset core ≡ Ok b → after words core ≡ Ok next → length core.stack < 16 → called words offset core ≡ Ok (at b (pushed next core))
  called_ok offset b next e f l = rw e (rw f (cond-true _ _ _ (lt-ltb _ _ l)))

  way_back_lem : (entry : Entry) (rest : List Entry) → core.stack ≡ entry ∷ rest → entry.address < words → (way_back words core ≡ Ok entry) × (rest_of core.stack ≡ rest)
  way_back_lem entry rest e l = (rw e (cond-true _ _ _ (lt-ltb _ _ l)), ap rest_of e)

  pub returned_ok : (entry : Entry) (rest : List Entry) → core.stack ≡ entry ∷ rest → entry.address < words → returned words core ≡ Ok (at entry.address (with_stack rest core))
  returned_ok entry rest e l =
      let way = way_back_lem entry rest e l in λ j. back (way.0 j) (λ x. with_stack (way.1 j) core)

  pub interrupt_returned_ok : (entry : Entry) (rest : List Entry) → core.service ≡ true → core.stack ≡ entry ∷ rest → entry.address < words → interrupt_returned words core ≡ Ok (at entry.address (with_interrupts core.enabled false (with_flags entry.carry entry.zero (with_stack rest core))))
  interrupt_returned_ok entry rest s e l =
      let way = way_back_lem entry rest e l in
      cond-true _ _ _ s ∙ (λ j. back (way.0 j) (λ x. with_interrupts core.enabled false (with_flags x.carry x.zero (with_stack (way.1 j) core))))

pub entered_ok : (core : Core) → length core.stack < 16 → entered core ≡ Ok (at 0 (with_interrupts core.enabled true (pushed core.pc core)))
entered_ok core l = cond-true _ _ _ (lt-ltb _ _ l)
