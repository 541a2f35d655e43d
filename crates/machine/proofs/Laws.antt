-- The laws of whole steps and runs hold. Assumes nothing.
use Rattle.std.proofs.Common.{◌≡◌, ℕ, ◌+◌, ◌-◌, ◌*◌, ◌≤◌, ltb, List, [], ◌∷◌, ◌++◌, length, Some, None, Option, sym, refl, ap, ◌∙◌, subst, zero-add, arith, length-append}
use Rattle.refusals.specs.declared.Refusal.{Refusal}
use Rattle.memories.specs.Meaning.{Meaning}
use Rattle.machine.specs.Cores.{Core}
use Rattle.machine.specs.Laws.{MachineLaws, OneCell, OneRegister}
use Rattle.machine.specs.Runs.{Ran, ran, later, list_of}
use Rattle.machine.specs.Steps.{Outcome, stopped, went, step}
use Rattle.machine.proofs.Locality.{step_local}
use Rattle.machine.proofs.Outcomes.{Every, Usual, step_usual}
use Rattle.machine.proofs.Runs.{ran_more, ran_stops, ran_none, later_later}
use Rattle.machine.proofs.Transparency.{transparent}

-- a step, or the end of the run
data First (image : List ℕ) (room : ℕ) (tick : ℕ) (ticks : List ℕ) (core : Core) (memory : Meaning) : Type 0 where
  goes : (core' : Core) (memory' : Meaning) (cycles : ℕ) (export : Option ℕ) → step image (ltb 0 room) tick core memory ≡ went core' memory' cycles export → First image room tick ticks core memory
  stops : (refusal : Refusal) → step image (ltb 0 room) tick core memory ≡ stopped refusal → First image room tick ticks core memory

first : (image : List ℕ) (room : ℕ) (tick : ℕ) (ticks : List ℕ) (core : Core) (memory : Meaning) → First image room tick ticks core memory
first image room tick ticks core memory = by (step image (ltb 0 room) tick core memory) refl
  where
    by : (outcome : Outcome) → step image (ltb 0 room) tick core memory ≡ outcome → First image room tick ticks core memory
    by (stopped refusal) e = stops refusal e
    by (went core' memory' cycles export) e = goes core' memory' cycles export e

Paced : Ran → Type 0
Paced run = (2 * run.ticks ≤ run.cycles) × (run.cycles ≤ 3 * run.ticks)

paced : (image : List ℕ) (room : ℕ) (ticks : List ℕ) (core : Core) (memory : Meaning) → Paced (ran image room ticks core memory)
unfolding Paced
paced image room [] core memory = rw (ran_none image room core memory) (omega arith, omega arith)
paced image room (tick ∷ ticks) core memory = elim (first image room tick ticks core memory) [
  | goes core' memory' cycles export e ↦
      let usual = subst (Every (Usual (ltb 0 room))) e (step_usual image (ltb 0 room) tick core memory) in
      let rest = paced image (room - length (list_of export)) ticks core' memory' in
      subst Paced (sym (ran_more image room core memory tick ticks core' memory' cycles export e)) (omega (arith, usual.least), omega (arith, usual.most))
  | stops refusal e ↦ subst Paced (sym (ran_stops image room core memory tick ticks refusal e)) (omega arith, omega arith)
]

later_none : (rest : Ran) → later 0 0 [] rest ≡ rest
later_none rest = λ i. record {
  core = rest.core;
  memory = rest.memory;
  ticks = zero-add rest.ticks i;
  cycles = zero-add rest.cycles i;
  exports = rest.exports;
  stop = rest.stop;
}

-- the run over a second list of ticks, behind a run that ended so
Behind : List ℕ → ℕ → List ℕ → Ran → Ran
Behind image room second run = later run.ticks run.cycles run.exports (ran image (room - length run.exports) second run.core run.memory)

joins : (image : List ℕ) (room : ℕ) (first second : List ℕ) (core : Core) (memory : Meaning) → (ran image room first core memory).stop ≡ None → ran image room (first ++ second) core memory ≡ Behind image room second (ran image room first core memory)
unfolding Behind
joins image room [] second core memory done =
    let same : room ≡ room - 0 = omega arith in
    subst (λ run. ran image room second core memory ≡ Behind image room second run) (sym (ran_none image room core memory)) (ap (λ n. ran image n second core memory) same ∙ sym (later_none _))
joins image room (tick ∷ ticks) second core memory done = elim (first image room tick ticks core memory) [
  | goes core' memory' cycles export e ↦
      let left : ℕ = room - length (list_of export) in
      let run : Ran = ran image left ticks core' memory' in
      let whole = ran_more image room core memory tick ticks core' memory' cycles export e in
      let rest = joins image left ticks second core' memory' (ap (λ r. r.stop) (sym whole) ∙ done) in
      let room' : left - length run.exports ≡ room - length (list_of export ++ run.exports) = omega (arith, length-append (list_of export) run.exports) in
      subst (λ r. ran image room (tick ∷ (ticks ++ second)) core memory ≡ Behind image room second r) (sym whole)
      (ran_more image room core memory tick (ticks ++ second) core' memory' cycles export e ∙ ap (later 1 cycles (list_of export)) rest ∙ later_later 1 cycles (list_of export) run.ticks run.cycles run.exports _ ∙ ap (λ n. later (1 + run.ticks) (cycles + run.cycles) (list_of export ++ run.exports) (ran image n second run.core run.memory)) room')
  | stops refusal e ↦
      let none : Some refusal ≡ None = ap (λ r. r.stop) (sym (ran_stops image room core memory tick ticks refusal e)) ∙ done in
      let z : ◌≡◌ {A = ℕ} 0 1 = cc in absurd (omega arith)
]

pub machine_laws : MachineLaws
unfolding Paced Behind
machine_laws = record {
  joins = joins;
  local = λ image room tick core core' memory memory' cycles export e. subst (Every (λ c m n x. OneCell memory m × OneRegister core c)) e (step_local core memory image room tick);
  transparent = transparent;
  paced = paced;
}
