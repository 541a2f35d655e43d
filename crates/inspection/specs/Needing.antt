-- Stack needs as they are raised, and what each step of that promises. Assumes nothing.
--
--   cap         a need that no certified image has
--   needing     needs as a kind of fact, of which only order, join and rank are used
--   Enough      a list of needs is enough at an address, as far as the cap
--   Allowed     a list of needs is enough wherever an address is marked
--   Asks        what the successors of an address ask for
--   Lifts       needs only rise, and stay below every list that is enough
--   Settled     the least needs
use Rattle.std.specs.Prelude.{◌≡◌, ℕ, ◌+◌, ◌<◌, ◌≤◌, min, max, Bool, true, false, List, length, Some, None, Option, nat_le, slice_index}
use Rattle.words.specs.declared.instruction.Instruction.{Instruction}
use Rattle.facts.specs.declared.marks.FrameMarks.{FrameMarks}
use Rattle.facts.specs.Kinds.{Kind}
use Rattle.facts.specs.Marks.{marks}
use Rattle.facts.specs.Progress.{Grows}
use Rattle.facts.specs.Successors.{Edge, Step}
use Rattle.facts.specs.Tables.{fact_at}
use Rattle.ledger.specs.Needs.{pushes}
use Rattle.inspection.specs.Looking.{either_marked}

abbrev pub cap : ℕ
cap = 17

abbrev pub needing : Kind ℕ
needing = record {
  bottom = 0;
  join = max;
  covers = λ x y. nat_le y x;
  rank = λ x. x;
  past = λ i x. x;
  enter = λ x. x;
  resume = λ s x. x;
  names = λ w. false;
}

-- what is needed at an address, if there is one
abbrev pub need_of : List ℕ → Option ℕ → ℕ
need_of need None = 0
need_of need (Some b) = slice_index need b

-- what a call of a routine there needs, as far as the cap
abbrev pub called_need : List ℕ → Option ℕ → ℕ
called_need need None = 0
called_need need (Some b) = min cap (1 + slice_index need b)

abbrev pub marked_in : List FrameMarks → List FrameMarks → ℕ → Bool
marked_in mains handlers a = either_marked (fact_at marks mains a) (fact_at marks handlers a)

abbrev pub Enough : List ℕ → (ℕ → Bool) → List ℕ → ℕ → Type 0
Enough image marked need a =
    marked a ≡ true → (edge : Edge) (i : Instruction) (b : ℕ) → Step image edge a i b → min cap (pushes edge + slice_index need b) ≤ slice_index need a

abbrev pub Allowed : List ℕ → (ℕ → Bool) → List ℕ → Type 0
Allowed image marked need =
    (a : ℕ) → marked a ≡ true → (edge : Edge) (i : Instruction) (b : ℕ) → Step image edge a i b → pushes edge + slice_index need b ≤ slice_index need a

pub record Asks (image : List ℕ) (need : List ℕ) (a : ℕ) (r : ℕ) : Type 0 where
  pub enough : (edge : Edge) (i : Instruction) (b : ℕ) → Step image edge a i b → min cap (pushes edge + slice_index need b) ≤ r
  pub least : (k : ℕ) → ((edge : Edge) (i : Instruction) (b : ℕ) → Step image edge a i b → pushes edge + slice_index need b ≤ k) → r ≤ k

pub record Lifts (image : List ℕ) (marked : ℕ → Bool) (before after : List ℕ) (changed : Bool) : Type 0 where
  pub grows : Grows needing (Allowed image marked) before after changed
  pub blank : (a : ℕ) → marked a ≡ false → slice_index after a ≡ slice_index before a

pub record Settled (image : List ℕ) (marked : ℕ → Bool) (need : List ℕ) : Type 0 where
  pub enough : (a : ℕ) → a < length image → Enough image marked need a
  pub least : (other : List ℕ) → Allowed image marked other → (a : ℕ) → a < length image → slice_index need a ≤ slice_index other a
  pub blank : (a : ℕ) → marked a ≡ false → slice_index need a ≡ 0
