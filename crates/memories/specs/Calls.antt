-- What the calls of a memory answer, and what it means after them. Assumes nothing.
use Rattle.std.specs.Prelude.{◌≡◌, ℕ, ◌<◌, ◌≤◌, Ok, Err, Result}
use Rattle.refusals.specs.declared.Refusal.{Refusal}
use Rattle.refusals.specs.declared.Refusal.TheVariants.{NoSuchPage}
use Rattle.memories.specs.Meaning.{Meaning, poked}

-- a number, or a refusal where there is no such page
abbrev pub IfPage : ℕ → ℕ → ℕ → Result ℕ Refusal → Type 0
IfPage pages page number (Ok answer) = (page < pages) × (answer ≡ number)
IfPage pages page number (Err refusal) = (pages ≤ page) × (refusal ≡ NoSuchPage)

-- the byte of the cell
abbrev pub Peeks : Meaning → ℕ → ℕ → Result ℕ Refusal → Type 0
Peeks memory page offset r = IfPage memory.pages page (memory.byte page offset) r

-- the one cell is set; a refusal changes nothing
abbrev pub Pokes : Meaning → ℕ → ℕ → ℕ → Result (Unit {0}) Refusal → Meaning → Type 0
Pokes before page offset byte (Ok done) after = (page < before.pages) × (after ≡ poked before page offset byte)
Pokes before page offset byte (Err refusal) after = (before.pages ≤ page) × (refusal ≡ NoSuchPage) × (after ≡ before)
