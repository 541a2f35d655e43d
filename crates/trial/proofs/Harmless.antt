-- Why a trial of a certified image meets no fault. Assumes nothing.
use Rattle.std.proofs.Common.{◌≡◌, ℕ, ◌≤◌, Bool, true, false, cond, leb, List, [], ◌∷◌, length, get_or, take, Some, None, Option, sym, refl, ap, ◌∙◌, subst, arith}
use Rattle.std.proofs.ByRecursion.{All-take}
use Rattle.std.proofs.lemmas.Bool.{true≢false}
use Rattle.refusals.specs.declared.Refusal.{Refusal}
use Rattle.refusals.specs.declared.Refusal.TheVariants.{ImageLength, TooManyTicks, ExportsFull}
use Rattle.refusals.specs.Numbers.{number_of}
use Rattle.memories.specs.Meaning.{Meaning}
use Rattle.machine.specs.Calls.{Call, stepping, running, resetting, counting, peeking, poking, State, Poke, Fits}
use Rattle.machine.specs.Cores.{Core, fresh}
use Rattle.machine.specs.Runs.{ran, hindered, large_tick, first_large, fits_image}
use Rattle.machine.specs.Steps.{Outcome, stopped, went, step}
use Rattle.ledger.specs.declared.owned.OwnedPages.{OwnedPages}
use Rattle.ledger.specs.Pokes.{pokes_of}
use Rattle.ledger.specs.Limits.{SafeWithin, SafeImageWithin}
use Rattle.ledger.specs.Safety.{Provides, start}
use Rattle.ledger.proofs.Performing.{safe_image}
use Rattle.calls.specs.declared.answer.Answer.{Answer}
use Rattle.calls.specs.declared.answer.Answer.TheVariants.{Run}
use Rattle.calls.specs.Answering.{answer_of, step_answer, run_answer}
use Rattle.calls.specs.Performing.{PerformsAll}
use Rattle.inspection.specs.declared.passed.PassedImage.{PassedImage}
use Rattle.inspection.specs.Inspects.{Certified}
use Rattle.trial.specs.Trials.{IsFault, NoFault, why_not, Harmless, state_at, TrialSafe}

-- what keeps a step or a run from starting is no fault
large_harmless : (found : Option ℕ) → NoFault (large_tick found)
large_harmless None = tt
large_harmless (Some place) = λ fault. omega (arith, fault.0)

hindered_harmless : (image ticks : List ℕ) → NoFault (hindered image ticks)
hindered_harmless image ticks = go (fits_image (length image)) (leb (length ticks) 65536)
  where
    go : (fits few : Bool) → NoFault (cond fits (cond few (large_tick (first_large 0 ticks)) (Some TooManyTicks)) (Some ImageLength))
    go true true = large_harmless (first_large 0 ticks)
    go true false = λ fault. omega (arith, fault.0)
    go false few = λ fault. omega (arith, fault.0)

full_harmless : (pc : ℕ) (refusal : Refusal) → refusal ≡ ExportsFull pc → IsFault refusal → ⊥
full_harmless pc refusal e fault = let n = ap number_of e in omega (arith, fault.1)

-- from a safe state
module _ {image : List ℕ} {owned : OwnedPages} {limit : ℕ} {memory₀ : Meaning} {pokes : List Poke} (state : State) (safe : SafeWithin image owned limit memory₀ pokes state.core state.memory) where
  step_harmless : (tick : ℕ) (hindrance : Option Refusal) → NoFault hindrance → NoFault (why_not (step_answer (elim hindrance [ None ↦ step image true tick state.core state.memory | Some refusal ↦ stopped refusal ])))
  step_harmless tick None fine = go (step image true tick state.core state.memory) refl
    where
      go : (outcome : Outcome) → step image true tick state.core state.memory ≡ outcome → NoFault (why_not (step_answer outcome))
      go (stopped refusal) e = absurd (true≢false (safe.steps true tick refusal e).0)
      go (went core memory cycles export) e = tt
  step_harmless tick (Some refusal) fine = fine

  stop_harmless : (room : ℕ) (ticks : List ℕ) → NoFault (ran image room ticks state.core state.memory).stop
  stop_harmless room ticks = go (ran image room ticks state.core state.memory).stop refl
    where
      go : (stop : Option Refusal) → (ran image room ticks state.core state.memory).stop ≡ stop → NoFault stop
      go None e = tt
      go (Some refusal) e = full_harmless _ refusal (safe.runs room ticks refusal e)

  run_harmless : (room : ℕ) (ticks : List ℕ) (hindrance : Option Refusal) → NoFault hindrance → Harmless (Run (run_answer hindrance (ran image room ticks state.core state.memory)))
  run_harmless room ticks None fine = stop_harmless room ticks
  run_harmless room ticks (Some refusal) fine = fine

  answer_harmless : (call : Call) → Harmless (answer_of image call state)
  answer_harmless (stepping tick) = step_harmless tick (hindered image (tick ∷ [])) (hindered_harmless image (tick ∷ []))
  answer_harmless (running ticks room) = run_harmless room ticks (hindered image ticks) (hindered_harmless image ticks)
  answer_harmless resetting = tt
  answer_harmless counting = tt
  answer_harmless (peeking page offset) = tt
  answer_harmless (poking page offset byte) = tt

module _ {image : List ℕ} {owned : OwnedPages} {limit : ℕ} {memory₀ : Meaning} (safe : SafeImageWithin image owned limit) (provides : Provides owned memory₀) {calls : List Call} {exports exports' : List ℕ} {answers answers' : List Answer} {after : State} (performs : PerformsAll image calls (start memory₀) exports answers after exports' answers') where
  safe_at : (place : ℕ) → SafeWithin image owned limit memory₀ (pokes_of image (take place calls) (start memory₀) []) (state_at image memory₀ calls place).core (state_at image memory₀ calls place).memory
  safe_at place = safe.performed memory₀ provides (take place calls) (All-take Fits place calls performs.fits)

  pub trial_safe : TrialSafe image owned limit memory₀ calls answers' after
  trial_safe =
      let end = safe.performed memory₀ provides calls performs.fits in
      record {
        harmless = λ place inside. subst Harmless (sym (performs.each place inside)) (answer_harmless (state_at image memory₀ calls place) (safe_at place) (get_or calls place resetting));
        shallow = λ place. (safe_at place).shallow;
        shallows = λ place. (safe_at place).shallows;
        stack = subst (λ state. length state.core.stack ≤ limit) (sym performs.state) end.shallow;
        cells = λ page offset foreign. ap (λ state. state.memory.byte page offset) performs.state ∙ end.untouched page offset foreign;
      }

pub certified_safe : (passed : PassedImage) → Certified passed → SafeImageWithin passed.words.now passed.owned passed.depth
certified_safe passed certified =
    subst (SafeImageWithin passed.words.now passed.owned) (sym certified.passes.value) (safe_image passed.words.now passed.owned certified.rows certified.fits.0 certified.passes.ledger.ledger)

-- on the words of the passed image, from a newly reset board
pub begun :
    {words image : List ℕ} {core : Core} {memory₀ : Meaning} {calls : List Call} {exports exports' : List ℕ} {answers answers' : List Answer} {after : State}
    → words ≡ image
    → core ≡ fresh
    → PerformsAll words calls (record { core = core; memory = memory₀ }) exports answers after exports' answers'
    → PerformsAll image calls (start memory₀) exports answers after exports' answers'
begun {words} {memory₀ = memory₀} {calls} {exports} {exports'} {answers} {answers'} {after} same newly performs =
    subst (λ image. PerformsAll image calls (start memory₀) exports answers after exports' answers') same (subst (λ core. PerformsAll words calls (record { core = core; memory = memory₀ }) exports answers after exports' answers') newly performs)
