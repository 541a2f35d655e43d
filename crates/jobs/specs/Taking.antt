-- What taking one record off the front of a reader's bytes means. Assumes nothing.
use Rattle.std.specs.Prelude.{◌≡◌, ℕ, ◌+◌, ◌^◌, ◌<◌, ◌⊎◌, ◌++◌, length, Ok, Err, Result, slice_index}
use Rattle.refusals.specs.declared.Refusal.{Refusal}
use Rattle.refusals.specs.declared.Refusal.TheVariants.{UnknownKind, RecordCutOff}
use Rattle.jobs.specs.declared.reader.Reader.{Reader}
use Rattle.jobs.specs.declared.record.Record.{Record}
use Rattle.jobs.specs.Records.{written, Writable, Unknown, CutOff}

-- something is left, and it lies in a job that is not too long
abbrev pub Ready : Reader → Type 0
Ready reader = (0 < length reader.rest.now) × (reader.place + length reader.rest.now < 2 ^ 16)

-- the next record is of that kind letter
abbrev pub ReadyFor : ℕ → Reader → Type 0
ReadyFor kind reader = Ready reader × (slice_index reader.rest.now 0 ≡ kind)

-- why no record stands at the front
abbrev pub Stuck : Reader → Refusal → Type 0
Stuck reader refusal =
    (Unknown reader.rest.now × (refusal ≡ UnknownKind reader.place)) ⊎ (CutOff reader.rest.now × (refusal ≡ RecordCutOff reader.place))

-- a record is taken off whole; a refusal takes nothing
abbrev pub Takes : Reader → Result Record Refusal → Reader → Type 0
Takes before (Ok taken) after =
    Writable taken × (before.rest.now ≡ written taken ++ after.rest.now) × (after.place ≡ before.place + length (written taken))
Takes before (Err refusal) after = Stuck before refusal × (after.rest.now ≡ before.rest.now) × (after.place ≡ before.place)
