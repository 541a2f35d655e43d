-- The records of a job and the bytes that write each. Assumes nothing.
use Rattle.std.specs.Prelude.{◌≡◌, ℕ, ◌/◌, ◌%◌, ◌^◌, ◌<◌, cond, List, [], ◌∷◌, ◌++◌, length, ◌==◌, slice_index}
use Rattle.jobs.specs.declared.record.Record.{Record}
use Rattle.jobs.specs.declared.record.Record.TheVariants.{Pages, Word, Tick}

-- the high byte comes first
abbrev pub two_bytes : ℕ → List ℕ
two_bytes n = n / 256 ∷ n % 256 ∷ []

abbrev pub three_bytes : ℕ → List ℕ
three_bytes n = n / 65536 ∷ n / 256 % 256 ∷ n % 256 ∷ []

-- the kind letter, 80 for `P`, 87 for `W` and 84 for `T`, and then the body
abbrev pub written : Record → List ℕ
written (Pages first last) = 80 ∷ (two_bytes first ++ two_bytes last)
written (Word word) = 87 ∷ three_bytes word
written (Tick tick) = 84 ∷ two_bytes tick

-- each number fits its bytes
abbrev pub Writable : Record → Type 0
Writable (Pages first last) = (first < 2 ^ 16) × (last < 2 ^ 16)
Writable (Word word) = word < 2 ^ 24
Writable (Tick tick) = tick < 2 ^ 16

-- how many bytes a record of that kind letter has; 0 for an unknown one
abbrev pub size_of : ℕ → ℕ
size_of kind = cond (kind == 80) 5 (cond (kind == 87) 4 (cond (kind == 84) 3 0))

-- what is left begins with no known kind letter
abbrev pub Unknown : List ℕ → Type 0
Unknown rest = (0 < length rest) × (size_of (slice_index rest 0) ≡ 0)

-- what is left is shorter than a record of its kind
abbrev pub CutOff : List ℕ → Type 0
CutOff rest = length rest < size_of (slice_index rest 0)
