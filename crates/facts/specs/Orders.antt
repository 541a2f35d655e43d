-- What an iterator over addresses gives. Assumes nothing.
use Rattle.std.specs.Prelude.{ℕ, ◌<◌, List, Option}
use Rattle.std.specs.Iterator.{Yields, Drains}
use Rattle.std.specs.List.{Contains}

-- no address but those below a bound
abbrev pub GivesBelow : {S : Type 0} → (S → Option ℕ → S → Type 0) → S → ℕ → Type 0
GivesBelow {S} steps order words =
    (given : List ℕ) (rest : S) → Yields steps order given rest → (a : ℕ) → Contains given a → a < words

-- each of these, by the time it ends
abbrev pub GivesEach : {S : Type 0} → (S → Option ℕ → S → Type 0) → S → ℕ → Type 0
GivesEach steps order words = (given : List ℕ) → Drains steps order given → (a : ℕ) → a < words → Contains given a
