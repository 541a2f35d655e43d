use Rattle.facts.proofs.Lasting.{spans_where_marked}
use Rattle.facts.proofs.spans.spans_where_marked.Goals as goal

pub returns : goal.returns
returns c = spans_where_marked
