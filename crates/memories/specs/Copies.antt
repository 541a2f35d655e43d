-- What copying one cell to another answers. Assumes nothing.
use Rattle.std.specs.Prelude.{◌≡◌, ◌<◌, Ok, Err, Result}
use Rattle.refusals.specs.declared.Refusal.{Refusal}
use Rattle.refusals.specs.declared.Refusal.TheVariants.{NoSuchPage}
use Rattle.memories.specs.declared.copying.Cell.{Cell}
use Rattle.memories.specs.Meaning.{Meaning, poked}

abbrev pub Within : Meaning → Cell → Cell → Type 0
Within memory source target = (source.page < memory.pages) × (target.page < memory.pages)

-- the target gets the source's byte; where either page is missing nothing changes
abbrev pub Copies : Meaning → Cell → Cell → Result (Unit {0}) Refusal → Meaning → Type 0
Copies before source target (Ok done) after =
    Within before source target × (after ≡ poked before target.page target.offset (before.byte source.page source.offset))
Copies before source target (Err refusal) after = (Within before source target → ⊥) × (refusal ≡ NoSuchPage) × (after ≡ before)
