-- A run has one result. Assumes nothing.
use Rattle.std.proofs.Common.{◌≡◌, ℕ, List, Ok, Err, Result, sym, ap, ◌∙◌}
use Rattle.refusals.specs.declared.Refusal.{Refusal}
use Rattle.memories.specs.Meaning.{Meaning}
use Rattle.machine.specs.declared.report.RunReport.{RunReport}
use Rattle.machine.specs.Cores.{Core}
use Rattle.machine.specs.Runs.{Ran, Reports, Runs}
use Rattle.inspection.proofs.Once.{none_some}

module _ {result : Ran} {exports after after' : List ℕ} {core core' : Core} {memory memory' : Meaning} where
  reports_once : (a b : RunReport) → Reports result a exports core memory after → Reports result b exports core' memory' after' → a ≡ b
  reports_once a b x y = λ i. record {
    ticks = ticks i;
    cycles = cycles i;
    exports = exported i;
    stop = stop i;
    pc = pc i;
  }
    where
      ticks : a.ticks ≡ b.ticks
      ticks = x.ticks ∙ sym y.ticks

      cycles : a.cycles ≡ b.cycles
      cycles = x.cycles ∙ sym y.cycles

      exported : a.exports ≡ b.exports
      exported = x.exported ∙ sym y.exported

      stop : a.stop ≡ b.stop
      stop = x.stop ∙ sym y.stop

      pc : a.pc ≡ b.pc
      pc = x.pc ∙ sym y.pc

module _ (words ticks : List ℕ) (core : Core) (memory : Meaning) (exports : List ℕ) where
  pub one_run : (r s : Result RunReport Refusal) (core₁ core₂ : Core) (memory₁ memory₂ : Meaning) (after₁ after₂ : List ℕ) → Runs words ticks core memory exports r core₁ memory₁ after₁ → Runs words ticks core memory exports s core₂ memory₂ after₂ → r ≡ s
  one_run (Ok a) (Ok b) core₁ core₂ memory₁ memory₂ after₁ after₂ x y = ap Ok (reports_once a b x.1 y.1)
  one_run (Ok a) (Err s) core₁ core₂ memory₁ memory₂ after₁ after₂ x y = absurd (none_some x.0 y.0)
  one_run (Err r) (Ok b) core₁ core₂ memory₁ memory₂ after₁ after₂ x y = absurd (none_some y.0 x.0)
  one_run (Err r) (Err s) core₁ core₂ memory₁ memory₂ after₁ after₂ x y = let p = x.0 in let q = y.0 in let e : r ≡ s = cc in ap Err e
