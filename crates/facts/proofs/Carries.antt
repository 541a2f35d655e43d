-- What is carried along an edge: of nothing nothing, and more of a larger summary. Assumes nothing.
use Rattle.std.proofs.Common.{◌≡◌}
use Rattle.words.specs.declared.instruction.Instruction.{Instruction}
use Rattle.facts.specs.Kinds.{Kind, Covers}
use Rattle.facts.specs.Laws.{Laws}
use Rattle.facts.specs.Successors.{Edge, past, enter, resume}
use Rattle.facts.specs.Tables.{carry}

module _ {F : Type 0} {k : Kind F} (laws : Laws k) where
  pub carry_bottom : (edge : Edge) (i : Instruction) (s : F) → carry k edge i s k.bottom ≡ k.bottom
  carry_bottom past i s = laws.strict.past i
  carry_bottom enter i s = laws.strict.enter
  carry_bottom resume i s = laws.strict.resume s

  pub carry_mono :
      (edge : Edge) (i : Instruction) (s t x : F)
      → Covers k s t
      → Covers k (carry k edge i s x) (carry k edge i t x)
  carry_mono past i s t x h = laws.order.reflexive _
  carry_mono enter i s t x h = laws.order.reflexive _
  carry_mono resume i s t x h = laws.monotone.resume s t x x h (laws.order.reflexive x)
