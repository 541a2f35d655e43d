-- What steps, runs and lists of calls leave is reached, so it is safe. Assumes nothing.
use Rattle.std.proofs.Common.{◌≡◌, ℕ, ◌-◌, ◌<◌, ◌≤◌, Bool, true, false, cond, ltb, List, [], ◌∷◌, length, Some, None, Option, sym, refl, subst, arith}
use Rattle.std.proofs.lemmas.Bool.{ltb-true}
use Rattle.std.specs.List.{AllByRecursion}
use Rattle.refusals.specs.declared.Refusal.{Refusal}
use Rattle.memories.specs.Meaning.{Meaning, poked}
use Rattle.machine.specs.Calls.{Call, stepping, running, resetting, counting, peeking, poking, State, Poke, Fits, Reached, begun, stepped, was_reset, was_poked, does, performs, state_after, started}
use Rattle.machine.specs.Cores.{Core, register}
use Rattle.machine.specs.Runs.{Ran, ran, list_of, hindered}
use Rattle.machine.specs.Steps.{Outcome, stopped, went, step}
use Rattle.machine.proofs.Runs.{ran_none, ran_more, ran_stops}
use Rattle.ledger.specs.declared.owned.OwnedPages.{OwnedPages}
use Rattle.ledger.specs.declared.row.Row.{Row}
use Rattle.ledger.specs.Pokes.{pokes_by, pokes_of}
use Rattle.ledger.specs.Ledgers.{Ledger}
use Rattle.ledger.specs.Needs.{depth}
use Rattle.ledger.specs.Limits.{SafetyWithin, SafeImageWithin, ReachedSafeWithin, SafeWithin}
use Rattle.ledger.specs.Safety.{Safety, Safe, Courses, start}
use Rattle.ledger.proofs.Places.{place_need}
use Rattle.ledger.proofs.Reaching.{Certified, reached_good, reached_steps}

-- a state of the board and its memory that can be reached
abbrev ReachedState : List ℕ → Meaning → List Poke → State → Type 0
ReachedState image memory₀ pokes state = Reached image memory₀ pokes state.core state.memory

-- the end of a run is reached, and what stopped the run stops a step from there
pub record Ends (image : List ℕ) (memory₀ : Meaning) (pokes : List Poke) (run : Ran) : Type 0 where
  pub reached : Reached image memory₀ pokes run.core run.memory
  pub stops : (refusal : Refusal) → run.stop ≡ Some refusal → (room : Bool) × (tick : ℕ) × (step image room tick run.core run.memory ≡ stopped refusal)

unstopped : (refusal : Refusal) → None ≡ Some refusal → ⊥
unstopped refusal e = let z : ◌≡◌ {A = ℕ} 0 1 = cc in omega arith

same_stop : (outcome : Outcome) (x y : Refusal) → outcome ≡ stopped x → Some x ≡ Some y → outcome ≡ stopped y
same_stop outcome x y e same = cc

module _ (image : List ℕ) (memory₀ : Meaning) (pokes : List Poke) where
  ran_ends : (ticks : List ℕ) (room : ℕ) (core : Core) (memory : Meaning) → Reached image memory₀ pokes core memory → Ends image memory₀ pokes (ran image room ticks core memory)
  ran_ends [] room core memory r =
      subst (Ends image memory₀ pokes) (sym (ran_none image room core memory)) (record { reached = r; stops = λ refusal e. absurd (unstopped refusal e) })
  ran_ends (tick ∷ ticks) room core memory r = go (step image (ltb 0 room) tick core memory) refl (ran_ends ticks)
    where
      go : (outcome : Outcome) → step image (ltb 0 room) tick core memory ≡ outcome → ((room' : ℕ) (core' : Core) (memory' : Meaning) → Reached image memory₀ pokes core' memory' → Ends image memory₀ pokes (ran image room' ticks core' memory')) → Ends image memory₀ pokes (ran image room (tick ∷ ticks) core memory)
      go (stopped refusal) e rest =
          subst (Ends image memory₀ pokes) (sym (ran_stops image room core memory tick ticks refusal e))
          (record { reached = r; stops = λ other same. (ltb 0 room, tick, same_stop _ refusal other e same) })
      go (went core' memory' cycles export) e rest =
          let ends = rest (room - length (list_of export)) core' memory' (stepped (ltb 0 room) tick r e) in
          subst (Ends image memory₀ pokes) (sym (ran_more image room core memory tick ticks core' memory' cycles export e))
          (record { reached = ends.reached; stops = ends.stops })

  stepped_reached : (room : Bool) (tick : ℕ) (state : State) (outcome : Outcome) → step image room tick state.core state.memory ≡ outcome → ReachedState image memory₀ pokes state → ReachedState image memory₀ pokes (state_after outcome state)
  stepped_reached room tick state (stopped refusal) e r = r
  stepped_reached room tick state (went core memory cycles export) e r = stepped room tick r e

  lone_reached : (tick : ℕ) (state : State) (hindrance : Option Refusal) → ReachedState image memory₀ pokes state → ReachedState image memory₀ pokes (state_after (elim hindrance [ None ↦ step image true tick state.core state.memory | Some refusal ↦ stopped refusal ]) state)
  lone_reached tick state None r = stepped_reached true tick state (step image true tick state.core state.memory) refl r
  lone_reached tick state (Some refusal) r = r

  run_reached : (ticks : List ℕ) (room : ℕ) (state : State) (hindrance : Option Refusal) → ReachedState image memory₀ pokes state → ReachedState image memory₀ pokes (started hindrance (ran image room ticks state.core state.memory) state)
  run_reached ticks room state None r = (ran_ends ticks room state.core state.memory r).reached
  run_reached ticks room state (Some refusal) r = r

  poked_reached : (page offset byte : ℕ) (state : State) → Fits (poking page offset byte) → (there : Bool) → ltb page state.memory.pages ≡ there → ReachedState image memory₀ pokes state → Reached image memory₀ (cond there (record { page = page; offset = offset; byte = byte } ∷ pokes) pokes) state.core (cond there (poked state.memory page offset byte) state.memory)
  poked_reached page offset byte state fits true e r = was_poked page offset byte (ltb-true page state.memory.pages e) fits.1.0 fits.1.1 r
  poked_reached page offset byte state fits false e r = r

  does_reached : (call : Call) (state : State) → Fits call → ReachedState image memory₀ pokes state → ReachedState image memory₀ (pokes_by call state pokes) (does image call state)
  does_reached (stepping tick) state fits r = lone_reached tick state (hindered image (tick ∷ [])) r
  does_reached (running ticks room) state fits r = run_reached ticks room state (hindered image ticks) r
  does_reached resetting state fits r = was_reset r
  does_reached counting state fits r = r
  does_reached (peeking page offset) state fits r = r
  does_reached (poking page offset byte) state fits r = poked_reached page offset byte state fits (ltb page state.memory.pages) refl r

performs_reached : (image : List ℕ) (memory₀ : Meaning) (calls : List Call) (pokes : List Poke) (state : State) → AllByRecursion Fits calls → ReachedState image memory₀ pokes state → ReachedState image memory₀ (pokes_of image calls state pokes) (performs image calls state)
performs_reached image memory₀ [] pokes state fits r = r
performs_reached image memory₀ (call ∷ calls) pokes state fits r =
    performs_reached image memory₀ calls (pokes_by call state pokes) (does image call state) fits.1 (does_reached image memory₀ pokes call state fits.0 r)

courses : (image : List ℕ) (memory₀ : Meaning) → Courses image memory₀
courses image memory₀ calls fits = performs_reached image memory₀ calls [] (start memory₀) fits begun

-- wherever the machine stands, its stack keeps to the depth
reached_shallow : {image : List ℕ} {owned : OwnedPages} {rows : List Row} {memory₀ : Meaning} → Certified image owned rows memory₀ → {pokes : List Poke} {core : Core} {memory : Meaning} → Reached image memory₀ pokes core memory → length core.stack ≤ depth image rows
reached_shallow {image} {rows = rows} certified {core = core} r =
    omega (arith, place_need image rows core.service (register core 14) (register core 15) core.pc core.stack (reached_good certified r).0.place)

reached_safe : (image : List ℕ) (owned : OwnedPages) (rows : List Row) (memory₀ : Meaning) → Certified image owned rows memory₀ → ReachedSafeWithin image owned (depth image rows) memory₀
reached_safe image owned rows memory₀ certified pokes core memory r =
    let good = reached_good certified r in
    record {
      steps = reached_steps certified r;
      runs = λ room ticks refusal e.
          let ends = ran_ends image memory₀ pokes ticks room core memory r in
          let stop = ends.stops refusal e in
          (reached_steps certified ends.reached stop.0 stop.1 refusal stop.2).1;
      shallow = reached_shallow certified r;
      shallows = λ room ticks. reached_shallow certified (ran_ends image memory₀ pokes ticks room core memory r).reached;
      untouched = good.1.untouched;
    }

pub safe_image : (image : List ℕ) (owned : OwnedPages) (rows : List Row) → 1 < length image → Ledger image owned rows → SafeImageWithin image owned (depth image rows)
safe_image image owned rows some ledger = record {
  reached = λ memory₀ memory. reached_safe image owned rows memory₀ (record { some = some; ledger = ledger; memory = memory });
  performed = λ memory₀ memory calls fits.
      reached_safe image owned rows memory₀ (record { some = some; ledger = ledger; memory = memory }) _ _ _ (courses image memory₀ calls fits);
}

pub safety_within : SafetyWithin
safety_within = record { images = λ image owned rows few many ledger. safe_image image owned rows few ledger; courses = courses }

-- within the depth of a ledger, the same of its rows
safe_by_rows : (image : List ℕ) (owned : OwnedPages) (rows : List Row) (memory₀ : Meaning) (pokes : List Poke) (core : Core) (memory : Meaning) → SafeWithin image owned (depth image rows) memory₀ pokes core memory → Safe image owned rows memory₀ pokes core memory
safe_by_rows image owned rows memory₀ pokes core memory safe = record { steps = safe.steps; runs = safe.runs; shallow = safe.shallow; untouched = safe.untouched }

pub safety : Safety
safety = record {
  images = λ image owned rows few many ledger.
      let safe = safe_image image owned rows few ledger in
      record {
        reached = λ memory₀ memory pokes core after r. safe_by_rows image owned rows memory₀ pokes core after (safe.reached memory₀ memory pokes core after r);
        performed = λ memory₀ memory calls fits. safe_by_rows image owned rows memory₀ _ _ _ (safe.performed memory₀ memory calls fits);
      };
  courses = courses;
}
