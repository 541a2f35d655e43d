-- What the successors of a word ask for, of the needs of a list. Assumes nothing.
use Rattle.std.proofs.Common.{◌≡◌, ℕ, ◌+◌, ◌<◌, ◌≤◌, min, max, List, length, get_or, pos, Some, None, Option, refl, sym, ap, ◌∙◌, subst, inl, inr, arith}
use Rattle.std.proofs.lemmas.Option.{none-some}
use Rattle.words.specs.declared.instruction.Instruction.{Instruction}
use Rattle.words.specs.Decoding.{instruction_of}
use Rattle.words.proofs.Codec.{written_computed}
use Rattle.facts.specs.Successors.{Edge, past, enter, resume, Leads, Step, successors, within}
use Rattle.facts.proofs.Spreading.{inside_some, from_inside}
use Rattle.ledger.specs.Needs.{pushes}
use Rattle.ledger.proofs.Decoded.{computed_writes}
use Rattle.inspection.specs.Needing.{cap, need_of, called_need, Asks}

module _ (need : List ℕ) (k : ℕ) where
  need_bound : (to : Option ℕ) → ((b : ℕ) → to ≡ Some b → get_or need b 0 ≤ k) → need_of need to ≤ k
  need_bound None h = omega arith
  need_bound (Some b) h = h b refl

  call_bound : (to : Option ℕ) → ((b : ℕ) → to ≡ Some b → 1 + get_or need b 0 ≤ k) → called_need need to ≤ k
  call_bound None h = omega arith
  call_bound (Some b) h = omega (arith, h b refl)

same_instruction : (i j : Instruction) (found : Option Instruction) → found ≡ Some i → found ≡ Some j → j ≡ i
same_instruction i j found p q = cc

module _ (image need : List ℕ) (at : ℕ) where
  -- a word that is no instruction has no successors
  pub asks_none : instruction_of (get_or image at 0) ≡ None → Asks image need at 0
  asks_none none = record {
    enough = λ edge i b step. absurd (none-some i (sym none ∙ written_computed i _ step.writes));
    least = λ k h. omega arith;
  }

  module _ (i : Instruction) (found : instruction_of (get_or image at 0) ≡ Some i) (inside : at < length image) where
    pub asks : (r : ℕ) → r ≡ max (max (need_of need (within (length image) (successors at i)).next) (need_of need (within (length image) (successors at i)).target)) (max (called_need need (within (length image) (successors at i)).routine) (need_of need (within (length image) (successors at i)).resume)) → Asks image need at r
    asks r is = record {
      enough = λ edge j b step. go edge b (subst (λ q. Leads (successors at q) edge (pos b)) (same_instruction i j _ found (written_computed j _ step.writes)) step.leads) step.to;
      least = λ k h.
          let n = need_bound need k (within (length image) (successors at i)).next (λ b e. let f = from_inside (length image) (successors at i).next b e in omega (arith, h past i b (step past b (inl f.0) f.1))) in
          let t = need_bound need k (within (length image) (successors at i)).target (λ b e. let f = from_inside (length image) (successors at i).target b e in omega (arith, h past i b (step past b (inr f.0) f.1))) in
          let c = call_bound need k (within (length image) (successors at i)).routine (λ b e. let f = from_inside (length image) (successors at i).routine b e in h enter i b (step enter b f.0 f.1)) in
          let s = need_bound need k (within (length image) (successors at i)).resume (λ b e. let f = from_inside (length image) (successors at i).resume b e in omega (arith, h resume i b (step resume b f.0 f.1))) in
          omega arith;
    }
      where
        step : (edge : Edge) (b : ℕ) → Leads (successors at i) edge (pos b) → b < length image → Step image edge at i b
        step edge b leads to = record { from = inside; writes = computed_writes _ i found; leads = leads; to = to }

        go : (edge : Edge) (b : ℕ) → Leads (successors at i) edge (pos b) → b < length image → min cap (pushes edge + get_or need b 0) ≤ r
        go past b leads to = elim leads [
          | inl e ↦ let h = ap (need_of need) (inside_some (length image) (successors at i).next b e to) in omega arith
          | inr e ↦ let h = ap (need_of need) (inside_some (length image) (successors at i).target b e to) in omega arith
        ]
        go enter b leads to = let h = ap (called_need need) (inside_some (length image) (successors at i).routine b leads to) in omega arith
        go resume b leads to = let h = ap (need_of need) (inside_some (length image) (successors at i).resume b leads to) in omega arith
