-- Frame marks keep the laws of a kind of fact. Assumes nothing.
use Rattle.std.proofs.Common.{rules}
use Rattle.facts.specs.Laws.{Laws}
use Rattle.facts.specs.Marks.{marks}

pub marks_laws : Laws marks
marks_laws = search rules
