use Rattle.memories.specs.Kinds.{joined, of_bytes}
use Rattle.memories.proofs.piles.new_pile.Goals as goal

pub returns : goal.returns
returns c = λ i. joined (c.new.ensures.value i) (joined (of_bytes (c.new-2.ensures.held i)) (c.new-3.ensures.value i))
