-- The kind of fact that frame marks are: sets of outer and routine. Assumes nothing.
use Rattle.std.specs.Prelude.{ℕ, ◌+◌, Bool, false, cond, not, ◌&&◌, ◌||◌, List, codes}
use Rattle.facts.specs.Kinds.{Kind}
use Rattle.facts.specs.declared.marks.FrameMarks.{FrameMarks}

abbrev pub unmarked : FrameMarks
unmarked = record { outer = false; routine = false }

abbrev pub any_frame : FrameMarks → Bool
any_frame marks = marks.outer || marks.routine

-- `O` for the outer frame, `R` for a routine's, both, or a dash for none
abbrev pub marks_text : FrameMarks → List ℕ
marks_text marks = cond marks.outer (cond marks.routine (codes "OR") (codes "O")) (cond marks.routine (codes "R") (codes "-"))

-- marks stay but into a routine, where any mark becomes routine
abbrev pub marks : Kind FrameMarks
marks = record {
  bottom = unmarked;
  join = λ x y. record { outer = x.outer || y.outer; routine = x.routine || y.routine };
  covers = λ x y. (x.outer || not y.outer) && (x.routine || not y.routine);
  rank = λ x. cond x.outer 1 0 + cond x.routine 1 0;
  past = λ i x. x;
  enter = λ x. record { outer = false; routine = x.outer || x.routine };
  resume = λ s x. x;
  names = λ w. false;
}
