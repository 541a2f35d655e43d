-- What performing calls promises: the defined state, export list and answers. Assumes nothing.
--
--   Performs       one call
--   PerformsAll    a list of calls; what stood in the list of answers behind them stays
use Rattle.std.specs.Prelude.{◌≡◌, ℕ, ◌<◌, List, ◌++◌, length, take, drop, slice_index_or}
use Rattle.std.specs.List.{AllByRecursion}
use Rattle.machine.specs.Calls.{Call, resetting, State, Fits, does, performs}
use Rattle.calls.specs.declared.answer.Answer.{Answer}
use Rattle.calls.specs.declared.answer.Answer.TheVariants.{Reset}
use Rattle.calls.specs.Answering.{answer_of, exports_by, answers_of, exports_of}

pub record Performs (image : List ℕ) (call : Call) (before : State) (exports : List ℕ) (after : State) (exports' : List ℕ) (answer : Answer) : Type 0 where
  pub state : after ≡ does image call before
  pub listed : exports' ≡ exports_by image call before exports
  pub answered : answer ≡ answer_of image call before
  -- since the numbers of the code have types
  pub fits : Fits call

pub record PerformsAll (image : List ℕ) (calls : List Call) (before : State) (exports : List ℕ) (answers : List Answer) (after : State) (exports' : List ℕ) (answers' : List Answer) : Type 0 where
  pub state : after ≡ performs image calls before
  pub listed : exports' ≡ exports_of image calls before exports
  pub answered : answers' ≡ answers_of image calls before ++ drop (length calls) answers
  -- each answer is that of its call, at the state that the calls before it left
  pub each : (place : ℕ)
      → place < length calls
      → slice_index_or answers' place Reset ≡ answer_of image (slice_index_or calls place resetting) (performs image (take place calls) before)
  pub fits : AllByRecursion Fits calls
