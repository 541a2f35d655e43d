-- What a list of bytes means as a job: the longest front of whole records, and what is left behind it. Assumes nothing.
--
--   words_of, ticks_of, pages_of   what the records of a job say
--   Within                         no more words and ticks than a job may have
--   Front                          the bytes are these records and then the rest
--   Longest                        no further record stands there that a job may have
--   Means                          the bytes tell this job, or are refused so
use Rattle.std.specs.Prelude.{◌≡◌, ℕ, ◌+◌, ◌-◌, ◌^◌, ◌<◌, ◌≤◌, cond, List, [], ◌∷◌, ◌++◌, map, length, Ok, Err, vec_items, Result, ◌==◌, nat_lt}
use Rattle.std.specs.List.{flat_map, AllByRecursion}
use Rattle.refusals.specs.declared.Refusal.{Refusal}
use Rattle.refusals.specs.declared.Refusal.TheVariants.{UnknownKind, RecordCutOff, TooManyRecords, JobTooLong}
use Rattle.jobs.specs.declared.job.Job.{Job}
use Rattle.jobs.specs.declared.job.JobError.{JobError}
use Rattle.jobs.specs.declared.job.JobError.TheVariants.{Refused, OutOfMemory}
use Rattle.ledger.specs.declared.owned.OwnedPages.{OwnedPages}
use Rattle.jobs.specs.declared.record.Record.{Record}
use Rattle.jobs.specs.declared.record.Record.TheVariants.{Pages, Word, Tick}
use Rattle.jobs.specs.Records.{written, Writable, size_of}

abbrev pub words_of : List Record → List ℕ
words_of [] = []
words_of (Pages first last ∷ records) = words_of records
words_of (Word word ∷ records) = word ∷ words_of records
words_of (Tick tick ∷ records) = words_of records

abbrev pub ticks_of : List Record → List ℕ
ticks_of [] = []
ticks_of (Pages first last ∷ records) = ticks_of records
ticks_of (Word word ∷ records) = ticks_of records
ticks_of (Tick tick ∷ records) = tick ∷ ticks_of records

-- a later record of pages counts
abbrev pub pages_from : OwnedPages → List Record → OwnedPages
pages_from pages [] = pages
pages_from pages (Pages first last ∷ records) = pages_from (record { first = first; last = last }) records
pages_from pages (Word word ∷ records) = pages_from pages records
pages_from pages (Tick tick ∷ records) = pages_from pages records

-- without such a record the pages are 0 to 0
abbrev pub pages_of : List Record → OwnedPages
pages_of records = pages_from (record { first = 0; last = 0 }) records

abbrev pub Within : List Record → Type 0
Within records = (length (words_of records) ≤ 4096) × (length (ticks_of records) ≤ 4096)

pub record Front (bytes : List ℕ) (records : List Record) (rest : List ℕ) : Type 0 where
  pub whole : bytes ≡ flat_map written records ++ rest
  pub writable : AllByRecursion Writable records
  pub within : Within records

abbrev pub Longest : List Record → List ℕ → Type 0
Longest records rest = (next : Record) (more : List ℕ) → Writable next → rest ≡ written next ++ more → Within (records ++ next ∷ []) → ⊥

-- a job, or the refusal of one
pub data Reading : Type 0 where
  accepted : OwnedPages → List ℕ → List ℕ → Reading
  refused : Refusal → Reading

-- with nothing left the records are the job; else the kind letter that is left decides
abbrev pub verdict : List Record → List ℕ → ℕ → Reading
verdict records [] place = accepted (pages_of records) (words_of records) (ticks_of records)
verdict records (kind ∷ body) place =
    refused (cond (size_of kind == 0) (UnknownKind place) (cond (nat_lt (length (kind ∷ body)) (size_of kind)) (RecordCutOff place) (TooManyRecords place)))

pub record Read (bytes : List ℕ) (reading : Reading) : Type 0 where
  pub records : List Record
  pub rest : List ℕ
  pub front : Front bytes records rest
  pub longest : Longest records rest
  pub told : reading ≡ verdict records rest (length bytes - length rest)

-- a job that is too long is refused before any record is looked at
abbrev pub Means : List ℕ → Reading → Type 0
Means bytes reading = cond (nat_lt (length bytes) (2 ^ 16)) (Read bytes reading) (reading ≡ refused JobTooLong)

-- memory was wanted for a word or a tick that the job may have
pub record Starved (bytes : List ℕ) : Type 0 where
  pub records : List Record
  pub rest : List ℕ
  pub front : Front bytes records rest
  pub some : 0 < length (words_of records) + length (ticks_of records)
  pub short : length bytes < 2 ^ 16

-- want of memory aside, the answer is what the bytes mean
abbrev pub Answers : List ℕ → Result Job JobError → Type 0
Answers bytes (Ok job) = Means bytes (accepted job.pages (vec_items job.words) (vec_items job.ticks))
Answers bytes (Err (Refused refusal)) = Means bytes (refused refusal)
Answers bytes (Err OutOfMemory) = Starved bytes

-- an item more at the end of a list that has room
abbrev pub Pushes : {T : Type 0} → List T → T → ℕ → Result (Unit {0}) JobError → List T → Type 0
Pushes before item place (Ok done) after = (length before < 4096) × (after ≡ before ++ item ∷ [])
Pushes before item place (Err (Refused refusal)) after = (4096 ≤ length before) × (refusal ≡ TooManyRecords place)
Pushes before item place (Err OutOfMemory) after = length before < 4096

-- the job says what it said and then what the record says
pub record Grown (before : Job) (next : Record) (after : Job) : Type 0 where
  pub pages : after.pages ≡ pages_from before.pages (next ∷ [])
  pub words : vec_items after.words ≡ vec_items before.words ++ words_of (next ∷ [])
  pub ticks : vec_items after.ticks ≡ vec_items before.ticks ++ ticks_of (next ∷ [])

-- the job may have one such record more
abbrev pub Room : Job → Record → Type 0
Room job (Pages first last) = Unit {0}
Room job (Word word) = length (vec_items job.words) < 4096
Room job (Tick tick) = length (vec_items job.ticks) < 4096

abbrev pub Adds : Job → Record → ℕ → Result (Unit {0}) JobError → Job → Type 0
Adds before next place (Ok done) after = Room before next × Grown before next after
Adds before next place (Err (Refused refusal)) after = (Room before next → ⊥) × (refusal ≡ TooManyRecords place)
Adds before next place (Err OutOfMemory) after = Room before next × (0 < length (words_of (next ∷ [])) + length (ticks_of (next ∷ [])))

-- a job written down: its pages, its words and its ticks
abbrev pub written_job : OwnedPages → List ℕ → List ℕ → List ℕ
written_job pages words ticks = flat_map written (Pages pages.first pages.last ∷ (map (λ w. Word w) words ++ map (λ t. Tick t) ticks))

-- a job whose numbers and lists fit the format
pub record Storable (pages : OwnedPages) (words ticks : List ℕ) : Type 0 where
  pub pages_fit : (pages.first < 2 ^ 16) × (pages.last < 2 ^ 16)
  pub words_fit : AllByRecursion (λ w. w < 2 ^ 24) words
  pub ticks_fit : AllByRecursion (λ t. t < 2 ^ 16) ticks
  pub few_words : length words ≤ 4096
  pub few_ticks : length ticks ≤ 4096

pub record ReadingLaws : Type 0 where
  -- bytes have one meaning at most
  pub one_meaning : (bytes : List ℕ) (a b : Reading) → Means bytes a → Means bytes b → a ≡ b
  -- a job that is written down reads back as that job
  pub reads_back : (pages : OwnedPages) (words ticks : List ℕ) → Storable pages words ticks → Means (written_job pages words ticks) (accepted pages words ticks)
