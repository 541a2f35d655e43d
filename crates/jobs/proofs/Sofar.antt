-- What one turn of reading keeps: the job holds the records taken off so far. Assumes nothing.
use Rattle.std.proofs.Common.{◌≡◌, ℕ, ◌+◌, ◌-◌, ◌^◌, ◌<◌, List, [], ◌∷◌, ◌++◌, length, Err, vec_items, sym, refl, ap, ◌∙◌, subst, append_assoc, arith, length-append}
use Rattle.std.specs.List.{flat_map}
use Rattle.std.proofs.ByRecursion.{All-push}
use Rattle.std.proofs.lemmas.List.{flat_map_more}
use Rattle.std.proofs.lemmas.Bool.{lt-ltb}
use Rattle.refusals.specs.declared.Refusal.TheVariants.{TooManyRecords}
use Rattle.jobs.specs.declared.job.Job.{Job}
use Rattle.jobs.specs.declared.job.JobError.{JobError}
use Rattle.jobs.specs.declared.job.JobError.TheVariants.{Refused, OutOfMemory}
use Rattle.ledger.specs.declared.owned.OwnedPages.{OwnedPages}
use Rattle.jobs.specs.declared.record.Record.{Record}
use Rattle.jobs.specs.declared.record.Record.TheVariants.{Pages, Word, Tick}
use Rattle.jobs.specs.Jobs.{Front, Within, Room, Grown, Adds, Read, Means, Starved, Answers, refused, pages_from, pages_of, words_of, ticks_of}
use Rattle.jobs.specs.Records.{written, Writable}
use Rattle.jobs.proofs.Verdicts.{full_longest, full_told}

pub record Sofar (bytes : List ℕ) (job : Job) (rest : List ℕ) (place : ℕ) : Type 0 where
  pub records : List Record
  pub front : Front bytes records rest
  pub pages : job.pages ≡ pages_of records
  pub words : vec_items job.words ≡ words_of records
  pub ticks : vec_items job.ticks ≡ ticks_of records
  pub reached : place + length rest ≡ length bytes
  pub short : length bytes < 2 ^ 16

pub words_append : (xs ys : List Record) → words_of (xs ++ ys) ≡ words_of xs ++ words_of ys
words_append [] ys = refl
words_append (Pages f l ∷ xs) ys = words_append xs ys
words_append (Word w ∷ xs) ys = ap (λ ws. w ∷ ws) (words_append xs ys)
words_append (Tick t ∷ xs) ys = words_append xs ys

pub ticks_append : (xs ys : List Record) → ticks_of (xs ++ ys) ≡ ticks_of xs ++ ticks_of ys
ticks_append [] ys = refl
ticks_append (Pages f l ∷ xs) ys = ticks_append xs ys
ticks_append (Word w ∷ xs) ys = ticks_append xs ys
ticks_append (Tick t ∷ xs) ys = ap (λ ts. t ∷ ts) (ticks_append xs ys)

pub pages_append : (pages : OwnedPages) (xs ys : List Record) → pages_from pages (xs ++ ys) ≡ pages_from (pages_from pages xs) ys
pages_append pages [] ys = refl
pages_append pages (Pages f l ∷ xs) ys = pages_append _ xs ys
pages_append pages (Word w ∷ xs) ys = pages_append pages xs ys
pages_append pages (Tick t ∷ xs) ys = pages_append pages xs ys

-- how many words and ticks one record more makes
counts_more : (records : List Record) (next : Record) → (length (words_of (records ++ next ∷ [])) ≡ length (words_of records) + length (words_of (next ∷ []))) × (length (ticks_of (records ++ next ∷ [])) ≡ length (ticks_of records) + length (ticks_of (next ∷ [])))
counts_more records next = (
  ap length (words_append records (next ∷ [])) ∙ length-append _ _,
  ap length (ticks_append records (next ∷ [])) ∙ length-append _ _,
)

module _ {bytes rest : List ℕ} {job : Job} {place : ℕ} (old : Sofar bytes job rest place) where
  within_more : (next : Record) → Room job next → Within (old.records ++ next ∷ [])
  within_more (Pages f l) room = let n = counts_more old.records (Pages f l) in let w = old.front.within in (omega arith, omega arith)
  within_more (Word x) room = let n = counts_more old.records (Word x) in let w = old.front.within in let e = ap length old.words in (omega arith, omega arith)
  within_more (Tick t) room = let n = counts_more old.records (Tick t) in let w = old.front.within in let e = ap length old.ticks in (omega arith, omega arith)

  room_within : (next : Record) → Within (old.records ++ next ∷ []) → Room job next
  room_within (Pages f l) within = tt
  room_within (Word x) within = let n = counts_more old.records (Word x) in let e = ap length old.words in omega arith
  room_within (Tick t) within = let n = counts_more old.records (Tick t) in let e = ap length old.ticks in omega arith

  front_more : (next : Record) (rest' : List ℕ) → Writable next → rest ≡ written next ++ rest' → Room job next → Front bytes (old.records ++ next ∷ []) rest'
  front_more next rest' fits cut room = record {
    whole = old.front.whole ∙ ap (λ r. flat_map written old.records ++ r) cut ∙ sym (append_assoc (flat_map written old.records) (written next) rest') ∙ ap (λ l. l ++ rest') (flat_map_more written [] old.records next);
    writable = All-push Writable old.records next old.front.writable fits;
    within = within_more next room;
  }

  pub one_more : (next : Record) {job' : Job} {rest' : List ℕ} {place' : ℕ} → Writable next → rest ≡ written next ++ rest' → place' ≡ place + length (written next) → Room job next → Grown job next job' → Sofar bytes job' rest' place'
  one_more next {job'} {rest'} fits cut step room grown = record {
    records = old.records ++ next ∷ [];
    front = front_more next rest' fits cut room;
    pages = grown.pages ∙ ap (λ p. pages_from p (next ∷ [])) old.pages ∙ sym (pages_append _ old.records (next ∷ []));
    words = grown.words ∙ ap (λ l. l ++ words_of (next ∷ [])) old.words ∙ sym (words_append old.records (next ∷ []));
    ticks = grown.ticks ∙ ap (λ l. l ++ ticks_of (next ∷ [])) old.ticks ∙ sym (ticks_append old.records (next ∷ []));
    reached = let e = ap length cut ∙ length-append (written next) rest' in omega (arith, old.reached);
    short = old.short;
  }

  starved : (next : Record) (rest' : List ℕ) → Writable next → rest ≡ written next ++ rest' → Room job next → 0 < length (words_of (next ∷ [])) + length (ticks_of (next ∷ [])) → Starved bytes
  starved next rest' fits cut room some = record {
    records = old.records ++ next ∷ [];
    rest = rest';
    front = front_more next rest' fits cut room;
    some = let n = counts_more old.records next in omega arith;
    short = old.short;
  }

  one_too_many : (next : Record) (rest' : List ℕ) → rest ≡ written next ++ rest' → (Room job next → ⊥) → Read bytes (refused (TooManyRecords place))
  one_too_many next rest' cut none = record {
    records = old.records;
    rest = rest;
    front = old.front;
    longest = full_longest old.records rest next rest' cut (λ within. none (room_within next within));
    told = let e : place ≡ length bytes - length rest = omega (arith, old.reached) in ap (λ p. refused (TooManyRecords p)) e ∙ sym (full_told old.records rest _ next rest' cut);
  }

  -- the answer where a record was taken off and not added
  pub not_added : (next : Record) (rest' : List ℕ) (error : JobError) (job' : Job) → Writable next → rest ≡ written next ++ rest' → Adds job next place (Err error) job' → Answers bytes (Err error)
  not_added next rest' (Refused refusal) job' fits cut adds =
      subst (λ e. Means bytes (refused e)) (sym adds.1) (rw (lt-ltb _ _ old.short) (one_too_many next rest' cut adds.0))
  not_added next rest' OutOfMemory job' fits cut adds = starved next rest' fits cut adds.0 adds.1
