-- Lists of calls: one call more at the end, and the calls before a place. Assumes nothing.
use Rattle.std.proofs.Common.{◌≡◌, ℕ, zero, suc, ◌+◌, ◌<◌, List, [], ◌∷◌, ◌++◌, length, get_or, take, drop, set, sym, refl, ap, ◌∙◌, append_assoc, arith}
use Rattle.std.proofs.lemmas.List.{take_more, drop_more, set_at, length_push, length-map, length-take-le, map-append, get_or_append_left}
use Rattle.std.specs.List.{AllByRecursion}
use Rattle.machine.specs.Calls.{Call, resetting, State, Fits, does, performs}
use Rattle.calls.specs.declared.answer.Answer.{Answer}
use Rattle.calls.specs.declared.answer.Answer.TheVariants.{Reset}
use Rattle.calls.specs.declared.call.Call.{Call as Value}
use Rattle.calls.specs.Answering.{answer_of, exports_by, answers_of, exports_of}
use Rattle.calls.specs.Calling.{call_of, calls_of}
use Rattle.calls.specs.Performing.{Performs, PerformsAll}

set_behind :
    {X : Type 0} (xs ys : List X) (n : ℕ) (a : X)
    → length xs ≡ n
    → n < length ys
    → set (xs ++ drop n ys) n a ≡ (xs ++ a ∷ []) ++ drop (n + 1) ys
set_behind xs ys n a long inside =
    ap (λ rest. set (xs ++ rest) n a) (drop_more ys n a inside) ∙ set_at xs (get_or ys n a) (drop (n + 1) ys) a n long ∙ sym (append_assoc xs (a ∷ []) (drop (n + 1) ys))

module _ (image : List ℕ) where
  performs_push : (calls : List Call) (call : Call) (state : State) → performs image (calls ++ call ∷ []) state ≡ does image call (performs image calls state)
  performs_push [] call state = refl
  performs_push (first ∷ calls) call state = performs_push calls call (does image first state)

  exports_push : (calls : List Call) (call : Call) (state : State) (exports : List ℕ) → exports_of image (calls ++ call ∷ []) state exports ≡ exports_by image call (performs image calls state) (exports_of image calls state exports)
  exports_push [] call state exports = refl
  exports_push (first ∷ calls) call state exports = exports_push calls call (does image first state) (exports_by image first state exports)

  answers_push : (calls : List Call) (call : Call) (state : State) → answers_of image (calls ++ call ∷ []) state ≡ answers_of image calls state ++ answer_of image call (performs image calls state) ∷ []
  answers_push [] call state = refl
  answers_push (first ∷ calls) call state = ap (λ l. answer_of image first state ∷ l) (answers_push calls call (does image first state))

  length_answers : (calls : List Call) (state : State) → length (answers_of image calls state) ≡ length calls
  length_answers [] state = refl
  length_answers (first ∷ calls) state = ap suc (length_answers calls (does image first state))

  answers_at :
      (calls : List Call) (state : State) (place : ℕ)
      → place < length calls
      → get_or (answers_of image calls state) place Reset ≡ answer_of image (get_or calls place resetting) (performs image (take place calls) state)
  answers_at [] state place h = absurd (omega arith)
  answers_at (first ∷ calls) state zero h = refl
  answers_at (first ∷ calls) state (suc place) h = answers_at calls (does image first state) place (omega arith)

fits_push : (calls : List Call) (call : Call) → AllByRecursion Fits calls → Fits call → AllByRecursion Fits (calls ++ call ∷ [])
fits_push [] call all fits = (fits, tt)
fits_push (first ∷ calls) call all fits = (all.0, fits_push calls call all.1 fits)

-- so the calls before a place may be looked at by themselves
pub fits_take : (calls : List Call) (n : ℕ) → AllByRecursion Fits calls → AllByRecursion Fits (take n calls)
fits_take [] zero all = tt
fits_take [] (suc n) all = tt
fits_take (first ∷ calls) zero all = tt
fits_take (first ∷ calls) (suc n) all = (all.0, fits_take calls n all.1)

pub performs_more :
    (image : List ℕ) (calls : List Call) (call : Call) (before now after : State) (exports exports' exports'' : List ℕ) (answers answers' : List Answer) (answer : Answer)
    → length calls < length answers
    → PerformsAll image calls before exports answers now exports' answers'
    → Performs image call now exports' after exports'' answer
    → PerformsAll image (calls ++ call ∷ []) before exports answers after exports'' (set answers' (length calls) answer)
performs_more image calls call before now after exports exports' exports'' answers answers' answer inside old one = record {
  state = one.state ∙ ap (does image call) old.state ∙ sym (performs_push image calls call before);
  listed = one.listed ∙ ap (λ s. exports_by image call s exports') old.state ∙ ap (exports_by image call (performs image calls before)) old.listed ∙ sym (exports_push image calls call before exports);
  answered = answered;
  each = λ place h. ap (λ l. get_or l place Reset) answered ∙ get_or_append_left _ _ Reset place (rw (length_answers image (calls ++ call ∷ []) before) h) ∙ answers_at image (calls ++ call ∷ []) before place h;
  fits = fits_push calls call old.fits one.fits;
}
  where
    said : answer ≡ answer_of image call (performs image calls before)
    said = one.answered ∙ ap (answer_of image call) old.state

    answered : set answers' (length calls) answer ≡ answers_of image (calls ++ call ∷ []) before ++ drop (length (calls ++ call ∷ [])) answers
    answered = rw (old.answered, said, length_push calls call, answers_push image calls call before) (set_behind (answers_of image calls before) answers (length calls) (answer_of image call (performs image calls before)) (length_answers image calls before) inside)

-- the call at a place, after all before it
pub performs_next :
    (image : List ℕ) (calls : List Value) (place : ℕ) (default : Value) (room : ℕ) (before now after : State) (exports exports' exports'' : List ℕ) (answers answers' : List Answer) (answer : Answer)
    → place < length calls
    → place < length answers
    → length exports' ≡ room
    → PerformsAll image (calls_of room (take place calls)) before exports answers now exports' answers'
    → Performs image (call_of (length exports') (get_or calls place default)) now exports' after exports'' answer
    → PerformsAll image (calls_of room (take (place + 1) calls)) before exports answers after exports'' (set answers' place answer)
performs_next image calls place default room before now after exports exports' exports'' answers answers' answer listed inside kept old one =
    let long : length (calls_of room (take place calls)) ≡ place = length-map (take place calls) (call_of room) ∙ length-take-le place calls (omega arith) in
    let more : calls_of room (take (place + 1) calls) ≡ calls_of room (take place calls) ++ call_of room (get_or calls place default) ∷ [] = ap (calls_of room) (take_more calls place default listed) ∙ map-append (call_of room) (take place calls) (get_or calls place default ∷ []) in
    let all = performs_more image (calls_of room (take place calls)) (call_of room (get_or calls place default)) before now after exports exports' exports'' answers answers' answer (omega arith) old (rw kept at one) in
    rw more (rw long at all)
