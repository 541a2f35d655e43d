-- The kind of fact that page spans are: an interval for each page register, or nothing. Assumes nothing.
use Rattle.std.specs.Prelude.{ℕ, ◌+◌, ◌-◌, ◌≤◌, min, max, Bool, true, false, cond, ◌&&◌, Some, None, Option, ◌==◌, nat_le}
use Rattle.std.proofs.Common.{arith}
use Rattle.words.specs.declared.codes.Operation.{Operation}
use Rattle.words.specs.declared.codes.Operation.TheVariants.{Sub, Subc, Add, Addc, Mov, And, Or, Xor, Cmp, Test}
use Rattle.words.specs.declared.instruction.Instruction.{Instruction}
use Rattle.words.specs.declared.instruction.Instruction.TheVariants.{Register, Immediate, Rotate, Flag, Direct, Indirect, BranchIf, CallIf, Call, Return, ReturnFromInterrupt, Branch}
use Rattle.facts.specs.Kinds.{Kind}
use Rattle.facts.specs.Written.{written}
use Rattle.facts.specs.declared.interval.Interval.{Interval}
use Rattle.facts.specs.declared.spans.PageSpans.{PageSpans}

abbrev pub point : ℕ → Interval
point c = record { low = c; high = c; ordered = omega arith }

abbrev pub up_to : ℕ → Interval
up_to c = record { low = 0; high = c; ordered = omega arith }

pub hull_ordered : (x y : Interval) → min x.low y.low ≤ max x.high y.high
hull_ordered x y = let p = x.ordered in omega arith

abbrev pub hull : Interval → Interval → Interval
hull x y = record { low = min x.low y.low; high = max x.high y.high; ordered = hull_ordered x y }

abbrev pub contains : Interval → Interval → Bool
contains x y = nat_le x.low y.low && nat_le y.high x.high

abbrev pub width : Interval → ℕ
width x = x.high - x.low

-- where the result of an operation with a constant lies
abbrev pub immediate : Operation → ℕ → Interval → Interval
immediate Sub c x = up_to 255
immediate Subc c x = up_to 255
immediate Add c x = up_to 255
immediate Addc c x = up_to 255
immediate Mov c x = point c
immediate And c x = up_to (min c x.high)
immediate Or c x = up_to 255
immediate Xor c x = up_to 255
immediate Cmp c x = up_to 255
immediate Test c x = up_to 255

-- where the result of an instruction lies
abbrev pub computed : Instruction → Interval → Interval
computed (Register operation rd rb) x = up_to 255
computed (Immediate operation rd constant) x = immediate operation constant x
computed (Rotate rotation rd rb) x = up_to 255
computed (Flag change) x = up_to 255
computed (Direct transfer rd number) x = up_to 255
computed (Indirect transfer rd rb) x = up_to 255
computed (BranchIf condition offset) x = up_to 255
computed (CallIf condition offset) x = up_to 255
computed (Call offset) x = up_to 255
computed Return x = up_to 255
computed ReturnFromInterrupt x = up_to 255
computed (Branch offset) x = up_to 255

abbrev pub is : ℕ → Option ℕ → Bool
is register None = false
is register (Some rd) = rd == register

-- where a register lies past an instruction
abbrev pub moved : ℕ → Instruction → Interval → Interval
moved register i x = cond (is register (written i)) (computed i x) x

abbrev pub zero_both : PageSpans
zero_both = record { r14 = point 0; r15 = point 0 }

abbrev pub hull_both : PageSpans → PageSpans → PageSpans
hull_both x y = record { r14 = hull x.r14 y.r14; r15 = hull x.r15 y.r15 }

abbrev pub contains_both : PageSpans → PageSpans → Bool
contains_both x y = contains x.r14 y.r14 && contains x.r15 y.r15

abbrev pub moved_both : Instruction → PageSpans → PageSpans
moved_both i x = record { r14 = moved 14 i x.r14; r15 = moved 15 i x.r15 }

abbrev pub joined : Option PageSpans → Option PageSpans → Option PageSpans
joined None y = y
joined (Some x) None = Some x
joined (Some x) (Some y) = Some (hull_both x y)

abbrev pub covered : Option PageSpans → Option PageSpans → Bool
covered None None = true
covered None (Some y) = false
covered (Some x) None = true
covered (Some x) (Some y) = contains_both x y

abbrev pub extent : Option PageSpans → ℕ
extent None = 0
extent (Some x) = 1 + (width x.r14 + width x.r15)

abbrev pub move_both : Instruction → Option PageSpans → Option PageSpans
move_both i None = None
move_both i (Some x) = Some (moved_both i x)

abbrev pub summed : Option PageSpans → Option PageSpans → Option PageSpans
summed s None = None
summed s (Some x) = s

abbrev pub spans : Kind (Option PageSpans)
spans = record {
  bottom = None;
  join = joined;
  covers = covered;
  rank = extent;
  past = move_both;
  enter = λ x. x;
  resume = summed;
  names = λ w. true;
}
