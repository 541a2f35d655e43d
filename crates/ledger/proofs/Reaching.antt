-- Every state that can be reached on a certified image keeps its promises, and no step from it faults. Assumes nothing.
use Rattle.std.proofs.Common.{◌≡◌, ℕ, zero, suc, ◌<◌, Bool, true, false, cond, not, ◌&&◌, eqb, ltb, List, ◌∷◌, length, get_or, replicate, Some, None, Option, refl, ap, subst, arith}
use Rattle.std.proofs.lemmas.Bool.{and_parts, false≢true, lt-ltb, not-true}
use Rattle.refusals.specs.declared.Refusal.{Refusal}
use Rattle.refusals.specs.declared.Refusal.TheVariants.{ExportsFull}
use Rattle.words.specs.declared.instruction.Instruction.{Instruction}
use Rattle.memories.specs.Meaning.{Meaning}
use Rattle.machine.specs.declared.stack.Entry.{Entry}
use Rattle.machine.specs.Calls.{Poke, Reached, begun, stepped, was_reset, was_poked}
use Rattle.machine.specs.Cores.{Core, fresh, register, at, pushed, with_interrupts}
use Rattle.machine.specs.Moves.{interrupts, entered}
use Rattle.machine.specs.Steps.{Outcome, stopped, moving, execute_at, step}
use Rattle.machine.specs.Ticks.{line}
use Rattle.ledger.specs.declared.owned.OwnedPages.{OwnedPages}
use Rattle.ledger.specs.declared.row.Row.{Row}
use Rattle.ledger.specs.Causes.{instruction_at}
use Rattle.ledger.specs.Interrupts.{outermost}
use Rattle.ledger.specs.Ledgers.{Ledger, zero_spans}
use Rattle.ledger.specs.Rows.{main_at, spans_at}
use Rattle.ledger.specs.Safety.{Provides}
use Rattle.ledger.proofs.Executing.{cell_small, execute_fine}
use Rattle.ledger.proofs.Keeping.{Steady, Good, inside}
use Rattle.ledger.proofs.Moving.{Fine, fine_moving, fine_only, entered_ok}
use Rattle.ledger.proofs.Places.{Place, covers_outer, lies_covered, place_marked, place_need, place_interrupted}

-- an image with a ledger, and a memory that has its owned pages
pub record Certified (image : List ℕ) (owned : OwnedPages) (rows : List Row) (memory₀ : Meaning) : Type 0 where
  pub some : 1 < length image
  pub ledger : Ledger image owned rows
  pub memory : Provides owned memory₀

zeros_below : (n number : ℕ) → get_or (replicate n 0) number 0 < 256
zeros_below zero number = omega arith
zeros_below (suc n) zero = omega arith
zeros_below (suc n) (suc number) = zeros_below n number

module _ {image : List ℕ} {owned : OwnedPages} {rows : List Row} {memory₀ : Meaning} (certified : Certified image owned rows memory₀) where
  module _ (pokes : List Poke) (room : Bool) (tick : ℕ) (core : Core) (memory : Meaning) (good : Good image owned rows memory₀ pokes core memory) where
    abbrev Goes : Outcome → Type 0
    Goes outcome = Fine (Good image owned rows memory₀ pokes) room (ExportsFull core.pc) outcome

    word_fine : (found : Option Instruction) → instruction_at image core.pc ≡ found → Goes (execute_at found (length image) room tick core memory)
    word_fine None e = absurd (certified.ledger.defined core.pc (record { marked = place_marked image rows core.service (register core 14) (register core 15) core.pc core.stack good.0.place; none = e }))
    word_fine (Some i) e = execute_fine certified.ledger memory₀ certified.memory.pages pokes room tick core memory good.0 good.1 i e

    entered_fine : core.enabled ≡ true → core.service ≡ false → Goes (moving (entered core) memory 2 None)
    entered_fine on idle =
        let entry : Entry = record { address = core.pc; carry = core.carry; zero = core.zero } in
        let here = subst (λ s. Place image rows s (register core 14) (register core 15) core.pc core.stack) idle good.0.place in
        let place = place_interrupted certified.ledger core.pc core.stack (register core 14) (register core 15) entry refl (good.0.healthy.able on) here in
        let need = place_need image rows true (register core 14) (register core 15) 0 (entry ∷ core.stack) place in
        let most = certified.ledger.shallow in
        fine_moving (Good image owned rows memory₀ pokes) room (ExportsFull core.pc) (entered core) memory 2 None (at 0 (with_interrupts core.enabled true (pushed core.pc core)))
        (entered_ok core (omega arith))
        (record { healthy = good.0.healthy; place = place }, good.1)

    tick_fine : (test : Bool) → interrupts tick core ≡ test → Goes (cond test (moving (entered core) memory 2 None) (execute_at (instruction_at image core.pc) (length image) room tick core memory))
    tick_fine true e =
        let outer = and_parts (line tick) (core.enabled && not core.service) e in
        let inner = and_parts core.enabled (not core.service) outer.1 in
        entered_fine inner.0 (not-true core.service inner.1)
    tick_fine false e = word_fine (instruction_at image core.pc) refl

    pub step_fine : Goes (step image room tick core memory)
    step_fine =
        fine_only (Good image owned rows memory₀ pokes) room (ExportsFull core.pc) (ltb core.pc (length image)) _ _ (lt-ltb _ _ (inside certified.ledger core good.0)) (tick_fine (interrupts tick core) refl)

  fresh_steady : Steady image rows fresh
  fresh_steady =
      let some = certified.some in
      record {
        healthy = record { long = refl; bytes = zeros_below 32; able = λ on. absurd (false≢true on) };
        place = (
          lies_covered (spans_at rows 1) zero_spans 0 0 (certified.ledger.spans.begins (omega arith)) ((omega arith, omega arith), (omega arith, omega arith)),
          (covers_outer (main_at rows 1) outermost (certified.ledger.main.begins (omega arith)) refl, omega arith, omega arith),
        );
      }

  pub reached_good : {pokes : List Poke} {core : Core} {memory : Meaning} → Reached image memory₀ pokes core memory → Good image owned rows memory₀ pokes core memory
  reached_good begun = (fresh_steady, record { pages = refl; small = certified.memory.sound.small; untouched = λ page offset foreign. refl })
  reached_good (stepped {pokes} {core} {core'} {memory} {memory'} {cycles} {export} room tick r e) =
      subst (Fine (Good image owned rows memory₀ pokes) room (ExportsFull core.pc)) e (step_fine pokes room tick core memory (reached_good r))
  reached_good (was_reset r) = (fresh_steady, (reached_good r).1)
  reached_good (was_poked {pokes} {core} {memory} page offset byte there low small r) =
      let good = reached_good r in (
        good.0,
        record {
          pages = good.1.pages;
          small = λ p o. cell_small memory (eqb p page && eqb o offset) byte p o small (good.1.small p o);
          untouched = λ p o foreign. ap (cond (eqb p page && eqb o offset) byte) (good.1.untouched p o foreign);
        },
      )

  pub reached_steps : {pokes : List Poke} {core : Core} {memory : Meaning} → Reached image memory₀ pokes core memory → (room : Bool) (tick : ℕ) (refusal : Refusal) → step image room tick core memory ≡ stopped refusal → (room ≡ false) × (refusal ≡ ExportsFull core.pc)
  reached_steps {pokes} {core} {memory} r room tick refusal e =
      subst (Fine (Good image owned rows memory₀ pokes) room (ExportsFull core.pc)) e (step_fine pokes room tick core memory (reached_good r))
