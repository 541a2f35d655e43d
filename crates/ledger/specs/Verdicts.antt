-- Why an image is refused, and which rows are answered for one that is not. Assumes nothing.
--
--   Surveyed         rows whose marks and spans are the smallest closed ones
--   Clear            none of the causes 5 to 9 holds at an address
--   CauseAt          the cause of the smallest number, of these five, that holds at an address
--   Because          the refusal that the rows of an image give
--   SmallestLedger   a ledger with the smallest marks, spans and needs, and zeros where nothing is marked
--   NoLedger         there is none
use Rattle.std.specs.Prelude.{◌≡◌, ℕ, ◌<◌, ◌≤◌, List, length, get_or, slice_index, slice_index_or}
use Rattle.refusals.specs.declared.Refusal.{Refusal}
use Rattle.refusals.specs.declared.Refusal.TheVariants.{SuccessorOutside, UndefinedReached, FramesMixed, ReturnMisplaced, PageRegisterWritten, StackTooDeep, PageNotOwned}
use Rattle.facts.specs.Marks.{marks}
use Rattle.facts.specs.Spans.{point, spans}
use Rattle.facts.specs.Tables.{Smallest}
use Rattle.ledger.specs.declared.owned.OwnedPages.{OwnedPages}
use Rattle.ledger.specs.declared.row.Row.{Row}
use Rattle.ledger.specs.Causes.{LeadsOutside, Undefined, MixedFrames, MisplacedReturn, WritesPageRegister, ForeignPage}
use Rattle.ledger.specs.Interrupts.{outermost, handler_start}
use Rattle.ledger.specs.Ledgers.{Ledger, zero_spans}
use Rattle.ledger.specs.Needs.{Suffices, TooDeep}
use Rattle.ledger.specs.Rows.{MainMarked, Marked, blank_row, mains, handlers, page_spans, need_at}

pub record Surveyed (image : List ℕ) (rows : List Row) : Type 0 where
  -- a row for each word
  pub long : length rows ≡ length image
  pub main : Smallest marks image 1 outermost (mains rows)
  pub handler : Smallest marks image 0 (handler_start image) (handlers rows)
  pub spans : Smallest spans image 1 zero_spans (page_spans rows)

pub record Clear (image : List ℕ) (rows : List Row) (a : ℕ) : Type 0 where
  pub inside : LeadsOutside image rows a → ⊥
  pub defined : Undefined image rows a → ⊥
  pub apart : MixedFrames rows a → ⊥
  pub returns : MisplacedReturn image rows a → ⊥
  pub keeps : WritesPageRegister image rows a → ⊥

pub data CauseAt (image : List ℕ) (rows : List Row) (a : ℕ) : Refusal → Type 0 where
  outside : LeadsOutside image rows a → CauseAt image rows a (SuccessorOutside a)
  undefined : (LeadsOutside image rows a → ⊥) → Undefined image rows a → CauseAt image rows a (UndefinedReached a)
  mixed : (LeadsOutside image rows a → ⊥) → (Undefined image rows a → ⊥) → MixedFrames rows a → CauseAt image rows a (FramesMixed a)
  misplaced : (LeadsOutside image rows a → ⊥) → (Undefined image rows a → ⊥) → (MixedFrames rows a → ⊥) → MisplacedReturn image rows a → CauseAt image rows a (ReturnMisplaced a)
  written : (LeadsOutside image rows a → ⊥) → (Undefined image rows a → ⊥) → (MixedFrames rows a → ⊥) → (MisplacedReturn image rows a → ⊥) → WritesPageRegister image rows a → CauseAt image rows a (PageRegisterWritten a)

pub data Because (image : List ℕ) (owned : OwnedPages) (rows : List Row) : Refusal → Type 0 where
  -- the lowest address that has one of the causes 5 to 9
  early : {refusal : Refusal} (a : ℕ) → a < length image → ((b : ℕ) → b < a → Clear image rows b) → CauseAt image rows a refusal → Because image owned rows refusal
  deep : ((b : ℕ) → Clear image rows b) → TooDeep image rows → Because image owned rows StackTooDeep
  -- the lowest address that reaches a foreign page
  foreign : (a : ℕ) → a < length image → ((b : ℕ) → Clear image rows b) → (TooDeep image rows → ⊥) → ((b : ℕ) → b < a → ForeignPage image owned rows b → ⊥) → ForeignPage image owned rows a → Because image owned rows (PageNotOwned a)

pub record SmallestLedger (image : List ℕ) (owned : OwnedPages) (rows : List Row) : Type 0 where
  pub ledger : Ledger image owned rows
  pub surveyed : Surveyed image rows
  pub least : (need : List ℕ) → Suffices image rows need → (a : ℕ) → need_at rows a ≤ slice_index need a
  pub spanless : (a : ℕ) → (MainMarked rows a → ⊥) → ((get_or rows a blank_row).r14 ≡ point 0) × ((get_or rows a blank_row).r15 ≡ point 0)
  pub blank : (a : ℕ) → (Marked rows a → ⊥) → slice_index_or rows a blank_row ≡ blank_row

abbrev pub NoLedger : List ℕ → OwnedPages → Type 0
NoLedger image owned = (rows : List Row) → Ledger image owned rows → ⊥
