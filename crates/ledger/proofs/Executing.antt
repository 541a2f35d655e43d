-- Each instruction keeps what every reachable state keeps, and stops only for want of room for an export. Assumes nothing.
use Rattle.std.proofs.Common.{◌≡◌, ℕ, ◌+◌, ◌<◌, ◌≤◌, Bool, true, false, cond, ◌&&◌, eqb, ltb, List, ◌∷◌, length, get_or, ℤ, pos, ◌+ℤ◌, Some, None, sym, refl, ap, ◌∙◌, subst, inl, inr, ⊎_elim, arith}
use Rattle.std.proofs.lemmas.Bool.{and_left, cond-false, lt-ltb, ne_eqb}
use Rattle.refusals.specs.declared.Refusal.TheVariants.{ExportsFull}
use Rattle.words.specs.declared.codes.Transfer.{Transfer}
use Rattle.words.specs.declared.codes.Transfer.TheVariants.{Export, Import, Store, Load}
use Rattle.words.specs.declared.instruction.Instruction.{Instruction}
use Rattle.words.specs.declared.instruction.Instruction.TheVariants.{Register, Immediate, Rotate, Flag, Direct, Indirect, BranchIf, CallIf, Call, Return, ReturnFromInterrupt, Branch}
use Rattle.memories.specs.Meaning.{Meaning, poked}
use Rattle.machine.specs.declared.stack.Entry.{Entry}
use Rattle.machine.specs.Arithmetic.{operated, settled, rotated, flagged}
use Rattle.machine.specs.Calls.{Poke}
use Rattle.machine.specs.Cores.{Core, register, page_of, at, pushed, with_register, with_stack, with_flags, with_interrupts}
use Rattle.machine.specs.Moves.{Moved, reached, holds, passed, jumped, called, returned, interrupt_returned}
use Rattle.machine.specs.Steps.{Outcome, execute, transferred, export_of, went, moving, onward}
use Rattle.machine.specs.Ticks.{port_byte}
use Rattle.facts.specs.declared.interval.Interval.{Interval}
use Rattle.facts.specs.Spans.{up_to, computed}
use Rattle.facts.specs.Successors.{past, enter, resume, Step, successors}
use Rattle.facts.specs.Written.{received, written}
use Rattle.ledger.specs.declared.owned.OwnedPages.{OwnedPages}
use Rattle.ledger.specs.declared.row.Row.{Row}
use Rattle.ledger.specs.Causes.{instruction_at}
use Rattle.ledger.specs.Ledgers.{Ledger}
use Rattle.ledger.specs.Pages.{reaches_cell, reaches_memory}
use Rattle.ledger.proofs.Decoded.{computed_writes, interruptible_found}
use Rattle.ledger.proofs.Effects.{Effect, effect_written, effect_kept, register_effect, immediate_effect, rotate_effect, flag_effect}
use Rattle.ledger.proofs.Keeping.{Steady, Kept, Good, inside, lands, steady_past, place_owned}
use Rattle.ledger.proofs.Moving.{Fine, fine_onward, fine_moving, fine_only, fine_export, passed_ok, jumped_ok, called_ok, returned_ok, interrupt_returned_ok}
use Rattle.ledger.proofs.Places.{In, Place, place_need, place_called, place_returned, place_resumed}

pub cell_small : (memory : Meaning) (test : Bool) (value page offset : ℕ) → value < 256 → memory.byte page offset < 256 → cond test value (memory.byte page offset) < 256
cell_small memory true value page offset h k = h
cell_small memory false value page offset h k = k

-- a store into an owned page
stored : (owned : OwnedPages) (memory₀ : Meaning) (pokes : List Poke) (memory : Meaning) (page offset value : ℕ) → Kept owned memory₀ pokes memory → owned.first ≤ page → page ≤ owned.last → value < 256 → Kept owned memory₀ pokes (poked memory page offset value)
stored owned memory₀ pokes memory page offset value kept low high small = record {
  pages = kept.pages;
  small = λ p o. cell_small memory (eqb p page && eqb o offset) value p o small (kept.small p o);
  untouched = λ p o foreign.
      let apart : p ≡ page → ⊥ = λ e. ⊎_elim (λ h. omega arith) (λ h. omega arith) foreign in
      cond-false _ _ _ (and_left _ _ (ne_eqb p page apart)) ∙ kept.untouched p o foreign;
}

module _ {image : List ℕ} {owned : OwnedPages} {rows : List Row} (ledger : Ledger image owned rows) (memory₀ : Meaning) (pages : owned.last < memory₀.pages) (pokes : List Poke) where
  module _ (room : Bool) (tick : ℕ) (core : Core) (memory : Meaning) (steady : Steady image rows core) (kept : Kept owned memory₀ pokes memory) where
    abbrev Goes : Outcome → Type 0
    Goes outcome = Fine (Good image owned rows memory₀ pokes) room (ExportsFull core.pc) outcome

    -- on to the next word, with an effect
    onward_fine : (i : Instruction) → instruction_at image core.pc ≡ Some i → (successors core.pc i).next ≡ Some (pos (core.pc + 1)) → (go : ℕ → Outcome) → ((b : ℕ) → Step image past core.pc i b → Goes (go b)) → Goes (onward (length image) core go)
    onward_fine i found next go fine =
        let l = lands ledger core steady i found past (pos (core.pc + 1)) (inl next) in
        fine_onward (Good image owned rows memory₀ pokes) room (ExportsFull core.pc) (length image) core go l.0 (ap (reached core.pc) l.1) (fine l.0 l.2)

    plain_fine : (i : Instruction) → instruction_at image core.pc ≡ Some i → (successors core.pc i).next ≡ Some (pos (core.pc + 1)) → (core' : Core) → Effect image i core core' → Goes (onward (length image) core (λ next. went (at next core') memory 2 None))
    plain_fine i found next core' effect =
        onward_fine i found next _ (λ b step. (steady_past ledger core steady i core' b found effect step, kept))

    unmoved : (i : Instruction) → written i ≡ None → Effect image i core core
    unmoved i w = effect_kept image i core steady.healthy core refl refl refl steady.healthy.able w

    -- between a register and a port or a cell, named by the word or by a register
    module _ (i : Instruction) (found : instruction_at image core.pc ≡ Some i) (next : (successors core.pc i).next ≡ Some (pos (core.pc + 1))) (wide : (x : Interval) → computed i x ≡ up_to 255) (rd offset : ℕ) where
      received_effect : (value : ℕ) → value < 256 → written i ≡ Some rd → Effect image i core (with_register rd value core)
      received_effect value small w =
          effect_written image i core steady.healthy (with_register rd value core) rd value refl refl refl refl w small (λ x h. subst (λ y. In y value) (sym (wide x)) (omega arith, omega arith))

      page_owned : reaches_memory i ≡ true → (owned.first ≤ page_of core) × (page_of core ≤ owned.last)
      page_owned reaches = place_owned ledger core.service i core.pc core.stack (register core 14) (register core 15) found reaches steady.place

      page_there : reaches_memory i ≡ true → ltb (page_of core) memory.pages ≡ true
      page_there reaches = let own = page_owned reaches in let same = kept.pages in lt-ltb (page_of core) memory.pages (omega arith)

      transfer_fine : (transfer : Transfer) → written i ≡ received transfer rd → reaches_memory i ≡ reaches_cell transfer → Goes (transferred transfer (length image) room tick rd offset core memory)
      transfer_fine Export w reaches =
          onward_fine i found next _ (λ b step. fine_export (Good image owned rows memory₀ pokes) room (ExportsFull core.pc) (at b core) memory 3 (Some (export_of (page_of core) offset (register core rd))) (steady_past ledger core steady i core b found (unmoved i w) step, kept))
      transfer_fine Import w reaches =
          onward_fine i found next _ (λ b step. (steady_past ledger core steady i (with_register rd (port_byte tick) core) b found (received_effect (port_byte tick) (omega arith) w) step, kept))
      transfer_fine Store w reaches =
          onward_fine i found next _ (λ b step. fine_only (Good image owned rows memory₀ pokes) room (ExportsFull core.pc) (ltb (page_of core) memory.pages) _ _ (page_there reaches) (steady_past ledger core steady i core b found (unmoved i w) step, stored owned memory₀ pokes memory (page_of core) offset (register core rd) kept (page_owned reaches).0 (page_owned reaches).1 (steady.healthy.bytes rd)))
      transfer_fine Load w reaches =
          onward_fine i found next _ (λ b step. fine_only (Good image owned rows memory₀ pokes) room (ExportsFull core.pc) (ltb (page_of core) memory.pages) _ _ (page_there reaches) (steady_past ledger core steady i (with_register rd (memory.byte (page_of core) offset) core) b found (received_effect (memory.byte (page_of core) offset) (kept.small (page_of core) offset) w) step, kept))

    -- moves that only change the place
    passed_fine : (i : Instruction) → instruction_at image core.pc ≡ Some i → written i ≡ None → (successors core.pc i).next ≡ Some (pos (core.pc + 1)) → Goes (moving (passed (length image) core) memory 2 None)
    passed_fine i found w next =
        let l = lands ledger core steady i found past (pos (core.pc + 1)) (inl next) in
        fine_moving (Good image owned rows memory₀ pokes) room (ExportsFull core.pc) (passed (length image) core) memory 2 None (at l.0 core) (passed_ok (length image) core l.0 (ap (reached core.pc) l.1)) (steady_past ledger core steady i core l.0 found (unmoved i w) l.2, kept)

    jumped_fine : (i : Instruction) (offset : ℤ) → instruction_at image core.pc ≡ Some i → written i ≡ None → (successors core.pc i).target ≡ Some (pos core.pc +ℤ offset) → Goes (moving (jumped (length image) offset core) memory 2 None)
    jumped_fine i offset found w to =
        let l = lands ledger core steady i found past (pos core.pc +ℤ offset) (inr to) in
        fine_moving (Good image owned rows memory₀ pokes) room (ExportsFull core.pc) (jumped (length image) offset core) memory 2 None (at l.0 core) (jumped_ok (length image) core offset l.0 (ap (reached core.pc) l.1)) (steady_past ledger core steady i core l.0 found (unmoved i w) l.2, kept)

    deep : (stack : List Entry) (r14 r15 pc : ℕ) → Place image rows core.service r14 r15 pc stack → length stack ≤ 16
    deep stack r14 r15 pc h = omega (arith, place_need image rows core.service r14 r15 pc stack h, ledger.shallow)

    called_fine : (i : Instruction) (offset : ℤ) → instruction_at image core.pc ≡ Some i → (successors core.pc i).routine ≡ Some (pos core.pc +ℤ offset) → (successors core.pc i).resume ≡ Some (pos (core.pc + 1)) → Goes (moving (called (length image) offset core) memory 2 None)
    called_fine i offset found routine next =
        let l = lands ledger core steady i found enter (pos core.pc +ℤ offset) routine in
        let m = lands ledger core steady i found resume (pos (core.pc + 1)) next in
        let entry : Entry = record { address = m.0; carry = core.carry; zero = core.zero } in
        let place = place_called ledger i core.pc l.0 m.0 core.stack (register core 14) (register core 15) l.2 m.2 entry refl core.service steady.place in
        fine_moving (Good image owned rows memory₀ pokes) room (ExportsFull core.pc) (called (length image) offset core) memory 2 None (at l.0 (pushed m.0 core))
        (called_ok (length image) core offset l.0 m.0 (ap (reached core.pc) l.1) (ap (reached core.pc) m.1) (deep (entry ∷ core.stack) (register core 14) (register core 15) l.0 place))
        (record { healthy = steady.healthy; place = place }, kept)

    returned_fine : instruction_at image core.pc ≡ Some Return → Goes (moving (returned (length image) core) memory 2 None)
    returned_fine found =
        let p = place_returned ledger core.service core.pc core.stack (register core 14) (register core 15) found steady.place in
        fine_moving (Good image owned rows memory₀ pokes) room (ExportsFull core.pc) (returned (length image) core) memory 2 None (at p.0.address (with_stack p.1 core))
        (returned_ok (length image) core p.0 p.1 p.2 p.3)
        (record { healthy = steady.healthy; place = p.4 }, kept)

    interrupt_returned_fine : instruction_at image core.pc ≡ Some ReturnFromInterrupt → Goes (moving (interrupt_returned (length image) core) memory 2 None)
    interrupt_returned_fine found =
        let p = place_resumed ledger core.service core.pc core.stack (register core 14) (register core 15) found steady.place in
        fine_moving (Good image owned rows memory₀ pokes) room (ExportsFull core.pc) (interrupt_returned (length image) core) memory 2 None (at p.1.address (with_interrupts core.enabled false (with_flags p.1.carry p.1.zero (with_stack p.2 core))))
        (interrupt_returned_ok (length image) core p.1 p.2 p.0 p.3 p.4)
        (record { healthy = steady.healthy; place = p.5 }, kept)

    either_fine : (test : Bool) (x y : Moved) → Goes (moving x memory 2 None) → Goes (moving y memory 2 None) → Goes (moving (cond test x y) memory 2 None)
    either_fine true x y h k = h
    either_fine false x y h k = k

    pub execute_fine : (i : Instruction) → instruction_at image core.pc ≡ Some i → Fine (Good image owned rows memory₀ pokes) room (ExportsFull core.pc) (execute i (length image) room tick core memory)
    execute_fine (Register operation rd rb) found = plain_fine (Register operation rd rb) found refl (operated operation rd (register core rb) core) (register_effect image core steady.healthy operation rd rb)
    execute_fine (Immediate operation rd constant) found = plain_fine (Immediate operation rd constant) found refl (operated operation rd constant core) (immediate_effect image core steady.healthy operation rd constant (computed_writes (get_or image core.pc 0) (Immediate operation rd constant) found).0.1)
    execute_fine (Rotate rotation rd rb) found = plain_fine (Rotate rotation rd rb) found refl (settled rd (rotated rotation core.carry (register core rb)) core) (rotate_effect image core steady.healthy rotation rd rb)
    execute_fine (Flag change) found = plain_fine (Flag change) found refl (flagged change core) (flag_effect image core steady.healthy change (interruptible_found image core.pc (Flag change) (inside ledger core steady) found))
    execute_fine (Direct transfer rd number) found = transfer_fine (Direct transfer rd number) found refl (λ x. refl) rd number transfer refl refl
    execute_fine (Indirect transfer rd rb) found = transfer_fine (Indirect transfer rd rb) found refl (λ x. refl) rd (register core rb) transfer refl refl
    execute_fine (BranchIf condition offset) found = either_fine (holds condition core) (jumped (length image) offset core) (passed (length image) core) (jumped_fine (BranchIf condition offset) offset found refl refl) (passed_fine (BranchIf condition offset) found refl refl)
    execute_fine (CallIf condition offset) found = either_fine (holds condition core) (called (length image) offset core) (passed (length image) core) (called_fine (CallIf condition offset) offset found refl refl) (passed_fine (CallIf condition offset) found refl refl)
    execute_fine (Call offset) found = called_fine (Call offset) offset found refl refl
    execute_fine Return found = returned_fine found
    execute_fine ReturnFromInterrupt found = interrupt_returned_fine found
    execute_fine (Branch offset) found = jumped_fine (Branch offset) offset found refl refl
