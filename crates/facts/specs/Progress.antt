-- What each step of the method promises of the table and of the flags beside it. Assumes nothing.
--
--   Level      an image, a table and flags that belong together
--   room       how far the facts of a table can still rise
--   Grows      what any step does to a table
--   Noted      where a fact changed, a flag is set
--   Raises     a step that has the table reach something
--   Receives   each successor has what is carried there
--   Spreads    the step that carries one fact on
--   Settled    where no flag is set, the fact is carried on
--   Visits     the step that carries on what is flagged, at one address or at all
--   NoneBelow  no flag is set
--   Begins     the table that the rounds begin with
--   Settles    all rounds, until nothing changes
use Rattle.std.specs.Prelude.{◌≡◌, ℕ, ◌+◌, ◌-◌, ◌<◌, ◌≤◌, Bool, true, false, ◌⊎◌, List, [], ◌∷◌, length, Some, MatchBool, Option, slice_index_or}
use Rattle.facts.specs.Kinds.{Kind, Covers}
use Rattle.facts.specs.declared.successors.Successors.{Successors}
use Rattle.facts.specs.Tables.{fact_at, summary, Carried, Flows, Closed, Below}

-- an image that fits the device, with a fact and a flag for each of its words
pub record Level {F : Type 0} (image : List ℕ) (table : List F) (flags : List Bool) : Type 0 where
  pub short : length image ≤ 4096
  pub facts : length table ≡ length image
  pub flagged : length flags ≡ length image

abbrev pub flag_at : List Bool → ℕ → Bool
flag_at flags a = slice_index_or flags a false

-- what the method ends by
abbrev pub room : {F : Type 0} → Kind F → List F → ℕ
room k [] = 0
room k (fact ∷ table) = 1000 - k.rank fact + room k table

-- facts only grow; the room fell, or nothing changed; and a table of the stated sort that was above stays above
pub record Grows {F : Type 0} (k : Kind F) (Sort : List F → Type 0) (before after : List F) (changed : Bool) : Type 0 where
  pub long : length after ≡ length before
  pub larger : (a : ℕ) → Covers k (fact_at k after a) (fact_at k before a)
  pub fell : MatchBool changed (room k after < room k before) (after ≡ before)
  pub above : (other : List F) → Sort other → Below k (length before) before other → Below k (length before) after other

pub record Noted {F : Type 0} (k : Kind F) (before : List F) (flags : List Bool) (after : List F) (flags' : List Bool) (changed : Bool) : Type 0 where
  pub long : length flags' ≡ length flags
  pub each :
      (a : ℕ)
      → (flag_at flags' a ≡ true) ⊎ ((fact_at k after a ≡ fact_at k before a) × (flag_at flags' a ≡ flag_at flags a))
  pub still : changed ≡ false → flags' ≡ flags

-- facts are raised until something is reached, and no further: every table above that has reached it stays above
pub record Raises {F : Type 0} (k : Kind F) (Reach : List F → Type 0) (before : List F) (flags : List Bool) (after : List F) (flags' : List Bool) (changed : Bool) : Type 0 where
  pub grows : Grows k Reach before after changed
  pub noted : Noted k before flags after flags' changed
  pub reached : Reach after

-- at the address, if there is one, the table covers the fact
abbrev pub CoversAt : {F : Type 0} → Kind F → Option ℕ → F → List F → Type 0
CoversAt k to fact table = (b : ℕ) → to ≡ Some b → Covers k (fact_at k table b) fact

pub record Receives {F : Type 0} (k : Kind F) (to : Successors ℕ) (past enter resume : F) (table : List F) : Type 0 where
  pub next : CoversAt k to.next past table
  pub target : CoversAt k to.target past table
  pub routine : CoversAt k to.routine enter table
  pub resumed : CoversAt k to.resume resume table

-- the address, if there is one, lies below a bound
abbrev pub AddressBelow : ℕ → Option ℕ → Type 0
AddressBelow words to = (b : ℕ) → to ≡ Some b → b < words

pub record SuccessorsBelow (words : ℕ) (to : Successors ℕ) : Type 0 where
  pub next : AddressBelow words to.next
  pub target : AddressBelow words to.target
  pub routine : AddressBelow words to.routine
  pub resumed : AddressBelow words to.resume

-- tables on which every fact is carried on, with a summary that covers s
abbrev pub FlowsOver : {F : Type 0} → Kind F → List ℕ → F → List F → Type 0
FlowsOver k image s other = Flows k image other × Covers k (summary k image other) s

-- the fact at the address a is carried on
pub record Spreads {F : Type 0} (k : Kind F) (image : List ℕ) (s : F) (a : ℕ) (before : List F) (flags : List Bool) (after : List F) (flags' : List Bool) (changed : Bool) : Type 0 where
  pub grows : Grows k (FlowsOver k image s) before after changed
  pub noted : Noted k before flags after flags' changed
  pub carried : Carried k image s after a (fact_at k before a)

abbrev pub Settled : {F : Type 0} → Kind F → List ℕ → F → List F → List Bool → Type 0
Settled k image s table flags = (a : ℕ) → flag_at flags a ≡ false → Carried k image s table a (fact_at k table a)

-- flagged facts are carried on
pub record Visits {F : Type 0} (k : Kind F) (image : List ℕ) (s : F) (before : List F) (flags : List Bool) (after : List F) (flags' : List Bool) (changed : Bool) : Type 0 where
  pub grows : Grows k (FlowsOver k image s) before after changed
  pub long : length flags' ≡ length flags
  pub settled : Settled k image s after flags'

abbrev pub NoneBelow : ℕ → List Bool → Type 0
NoneBelow words flags = (a : ℕ) → a < words → flag_at flags a ≡ false

-- a table that has what is given, as little else as any closed table, and nothing left to carry on but where a flag is set
pub record Begins {F : Type 0} (k : Kind F) (image : List ℕ) (start : ℕ) (given : F) (table : List F) (flags : List Bool) : Type 0 where
  pub level : Level image table flags
  pub has : start < length image → Covers k (fact_at k table start) given
  pub settled : Settled k image k.bottom table flags
  pub below : (other : List F) → Closed k image start given other → Below k (length image) table other

-- the least table above another on which facts flow, and its summary
pub record Settles {F : Type 0} (k : Kind F) (image : List ℕ) (before after : List F) (s : F) : Type 0 where
  pub long : length after ≡ length before
  pub larger : (a : ℕ) → Covers k (fact_at k after a) (fact_at k before a)
  pub flows : Flows k image after
  pub least :
      (other : List F)
      → Flows k image other
      → Below k (length image) before other
      → Below k (length image) after other
  pub value : s ≡ summary k image after
