-- Frame marks and page spans are never carried to nothing, so that they mark the same addresses. Assumes nothing.
use Rattle.std.proofs.Common.{◌≡◌, true, Option, Some, None, refl, arith}
use Rattle.words.specs.declared.instruction.Instruction.{Instruction}
use Rattle.facts.specs.Marks.{marks}
pub use Rattle.facts.specs.MarksLaws.{marks_laws}
use Rattle.facts.specs.Spans.{spans}
use Rattle.facts.specs.Successors.{Edge, past, enter, resume}
use Rattle.facts.specs.Tables.{carry, known}
use Rattle.facts.specs.Theorems.{Lasting, SameMarked}
use Rattle.facts.specs.declared.marks.FrameMarks.{FrameMarks}
use Rattle.facts.specs.declared.spans.PageSpans.{PageSpans}
use Rattle.facts.specs.SpansLaws.{spans_laws}
use Rattle.facts.proofs.Summaries.{summary_above}
use Rattle.facts.proofs.Theorems.{known_above, same_marked}

marks_last :
    (edge : Edge) (i : Instruction) (s x : FrameMarks)
    → known marks x ≡ true
    → known marks (carry marks edge i s x) ≡ true
marks_last past i s x e = e
marks_last enter i s x e = grind arith
marks_last resume i s x e = e

pub lasting_marks : Lasting marks
lasting_marks image table edge i a h = marks_last edge i _ _

spans_last :
    (edge : Edge) (i : Instruction) (s x : Option PageSpans)
    → known spans s ≡ true
    → known spans x ≡ true
    → known spans (carry spans edge i s x) ≡ true
spans_last past i s None k e = e
spans_last past i s (Some y) k e = refl
spans_last enter i s x k e = e
spans_last resume i s None k e = e
spans_last resume i s (Some y) k e = k

pub lasting_spans : Lasting spans
lasting_spans image table edge i a h m = spans_last edge i _ _ (known_above spans_laws _ _ (summary_above spans_laws image table a h refl) m) m

pub spans_where_marked : SameMarked marks spans
spans_where_marked = same_marked marks_laws spans_laws lasting_marks lasting_spans
