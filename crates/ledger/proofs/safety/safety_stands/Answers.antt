use Rattle.std.proofs.Common.{refl}
use Rattle.ledger.proofs.Examples.{ledger_examples}
use Rattle.ledger.proofs.Performing.{safety}
use Rattle.ledger.proofs.safety.safety_stands.Goals as goal

pub returns : goal.returns
returns c = record { answer = refl; theorem = safety; examples = ledger_examples }
