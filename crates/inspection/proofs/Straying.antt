-- What the search for foreign pages finds, or does not find, at an address. Assumes nothing.
use Rattle.std.proofs.Common.{◌≡◌, ℕ, Bool, true, false, cond, not, ◌&&◌, ◌||◌, ◌⊎◌, List, Some, None, Option, refl, ap, ◌∙◌, inl, inr, ⊎_elim, arith}
use Rattle.std.proofs.lemmas.Bool.{and_from, and_parts, false≢true, not_from_false, not-true, or_cases, or_left, or_right}
use Rattle.std.proofs.lemmas.Option.{none-some}
use Rattle.refusals.specs.declared.Refusal.{Refusal}
use Rattle.refusals.specs.declared.Refusal.TheVariants.{PageNotOwned}
use Rattle.words.specs.declared.instruction.Instruction.{Instruction}
use Rattle.facts.specs.Marks.{any_frame}
use Rattle.ledger.specs.declared.owned.OwnedPages.{OwnedPages}
use Rattle.ledger.specs.declared.row.Row.{Row}
use Rattle.ledger.specs.Causes.{instruction_at, ForeignPage}
use Rattle.ledger.specs.Pages.{reaches_memory, inside_owned}
use Rattle.ledger.specs.Rows.{main_at, handler_at, spans_at, all_spans}
use Rattle.inspection.specs.Looking.{reaching, strays, foreign_of}
use Rattle.inspection.proofs.Choosing.{cond_some}

strayed : (m h : Bool) (main handler : Bool) → (((m ≡ true) × (main ≡ false)) ⊎ ((h ≡ true) × (handler ≡ false))) → ((m && not main) || (h && not handler)) ≡ true
strayed m h main handler (inl k) = or_left _ _ (and_from _ _ k.0 (not_from_false _ k.1))
strayed m h main handler (inr k) = or_right _ _ (and_from _ _ k.0 (not_from_false _ k.1))

some_none : (r : Refusal) (rest : Option Refusal) (b : Bool) → b ≡ true → cond b (Some r) rest ≡ None → ⊥
some_none r rest true e n = let z : ◌≡◌ {A = ℕ} 0 1 = cc in omega arith
some_none r rest false e n = false≢true e

-- rows that hold the facts at an address
module _ {image : List ℕ} {owned : OwnedPages} {rows : List Row} {a : ℕ} where
  foreign_both : (found : Option Instruction) → instruction_at image a ≡ found → (reaching found && strays owned (main_at rows a) (handler_at rows a) (spans_at rows a) (all_spans image rows)) ≡ true → ForeignPage image owned rows a
  foreign_both None e both = absurd (false≢true both)
  foreign_both (Some i) e both =
      let parts = and_parts (reaches_memory i) _ both in
      record {
        instruction = i;
        found = e;
        reaches = parts.0;
        foreign = ⊎_elim
            (λ k. let m = and_parts (any_frame (main_at rows a)) _ k in inl (m.0, not-true _ m.1))
            (λ k. let h = and_parts (any_frame (handler_at rows a)) _ k in inr (h.0, not-true _ h.1))
            (or_cases _ _ parts.1);
      }

  pub foreign_found_lem : {refusal : Refusal} → foreign_of a owned (instruction_at image a) (main_at rows a) (handler_at rows a) (spans_at rows a) (all_spans image rows) ≡ Some refusal → ForeignPage image owned rows a × (PageNotOwned a ≡ refusal)
  foreign_found_lem e = ⊎_elim
      (λ k. (foreign_both (instruction_at image a) refl k.0, k.1))
      (λ k. absurd (none-some _ k.1))
      (cond_some _ _ _ e)

  pub foreign_not : foreign_of a owned (instruction_at image a) (main_at rows a) (handler_at rows a) (spans_at rows a) (all_spans image rows) ≡ None → ForeignPage image owned rows a → ⊥
  foreign_not e c = some_none _ _ _
      (and_from _ _ (ap reaching c.found ∙ c.reaches) (strayed (any_frame (main_at rows a)) (any_frame (handler_at rows a)) (inside_owned owned (spans_at rows a)) (inside_owned owned (all_spans image rows)) c.foreign))
      e
