-- One line more of a listing. Assumes nothing.
use Rattle.std.proofs.Common.{◌≡◌, ℕ, ◌+◌, ◌<◌, List, [], ◌∷◌, ◌++◌, length, get_or, take, Result, sym, refl, ap, ◌∙◌, subst, append_assoc, arith}
use Rattle.std.proofs.lemmas.List.{take_more, length-take-le}
use Rattle.refusals.specs.declared.Refusal.{Refusal}
use Rattle.words.specs.declared.instruction.Instruction.{Instruction}
use Rattle.words.specs.Codec.{Decodes}
use Rattle.ledger.specs.declared.owned.OwnedPages.{OwnedPages}
use Rattle.jobs.specs.Jobs.{accepted}
use Rattle.jobs.specs.Listing.{line_text, Lines, summary_text, Lists}

lines_push : (address : ℕ) (words : List ℕ) (word : ℕ) (lines : List ℕ) (decoded : Result Instruction Refusal) → Lines address words lines → Decodes word decoded → Lines address (words ++ word ∷ []) (lines ++ (line_text (address + length words) word decoded ++ (10 ∷ [])))
lines_push address [] word lines decoded h d =
    (decoded, [], d, (λ i. h i ++ (line_text (there i) word decoded ++ (10 ∷ []))), refl)
  where
    there : address + 0 ≡ address
    there = omega arith
lines_push address (w ∷ words) word lines decoded h d =
    (h.0, more, h.2, ap (λ l. l ++ next) h.3 ∙ append_assoc (line_text address w h.0) (10 ∷ h.1) next, subst (λ n. Lines (address + 1) (words ++ word ∷ []) (h.1 ++ (line_text n word decoded ++ (10 ∷ [])))) there (lines_push (address + 1) words word h.1 decoded h.4 d))
  where
    next : List ℕ
    next = line_text (address + length (w ∷ words)) word decoded ++ (10 ∷ [])

    more : List ℕ
    more = h.1 ++ next

    there : address + 1 + length words ≡ address + length (w ∷ words)
    there = omega arith

-- the text is what it was, and then the lines of the words
pub record Listed (before : List ℕ) (words : List ℕ) (after : List ℕ) : Type 0 where
  pub lines : List ℕ
  pub listed : Lines 0 words lines
  pub added : after ≡ before ++ lines

pub listed_more : (before words after after' : List ℕ) (i : ℕ) (decoded : Result Instruction Refusal) → i < length words → Listed before (take i words) after → Decodes (get_or words i 0) decoded → after' ≡ after ++ (line_text i (get_or words i 0) decoded ++ (10 ∷ [])) → Listed before (take (i + 1) words) after'
listed_more before words after after' i decoded inside old d e = record {
  lines = old.lines ++ next i;
  listed = subst (λ ws. Lines 0 ws (old.lines ++ next i)) (sym (take_more words i 0 inside)) (subst (λ n. Lines 0 (take i words ++ get_or words i 0 ∷ []) (old.lines ++ next n)) here (lines_push 0 (take i words) (get_or words i 0) old.lines decoded old.listed d));
  added = e ∙ ap (λ l. l ++ next i) old.added ∙ append_assoc before old.lines (next i);
}
  where
    next : ℕ → List ℕ
    next n = line_text n (get_or words i 0) decoded ++ (10 ∷ [])

    here : 0 + length (take i words) ≡ i
    here = omega (arith, length-take-le i words (omega arith))

-- the summary behind the lines makes the listing whole
pub listing_whole : (pages : OwnedPages) (words ticks : List ℕ) (count : ℕ) (before middle after lines : List ℕ) → Lines 0 words lines → middle ≡ before ++ lines → count ≡ length ticks → after ≡ middle ++ (summary_text pages count ++ (10 ∷ [])) → (listing : List ℕ) × Lists (accepted pages words ticks) listing × (after ≡ before ++ listing)
listing_whole pages words ticks count before middle after lines listed first many last =
    (lines ++ end, (lines, listed, ap (λ n. lines ++ (summary_text pages n ++ (10 ∷ []))) many), last ∙ ap (λ l. l ++ end) first ∙ append_assoc before lines end)
  where
    end : List ℕ
    end = summary_text pages count ++ (10 ∷ [])
