-- How the needs of a sheet rise, row by row. Assumes nothing.
use Rattle.std.proofs.Common.{◌≡◌, ℕ, ◌<◌, ◌≤◌, Bool, true, false, ◌||◌, List, [], ◌∷◌, ◌++◌, map, length, get_or, set, refl, sym, ap, ◌∙◌, subst, inl, inr, arith, Option}
use Rattle.std.proofs.lemmas.List.{get_or_append_left, get_or_push, length-map, length_push, map-set}
use Rattle.std.proofs.lemmas.List.{get_or-map as get_or_map}
use Rattle.std.proofs.Math.ListN.{get_or-map}
use Rattle.std.proofs.Math.Seq.{map-set_same}
use Rattle.std.proofs.lemmas.Bool.{cases_lt, or_parts}
use Rattle.facts.specs.declared.spans.PageSpans.{PageSpans}
use Rattle.facts.specs.Marks.{marks, unmarked, any_frame}
use Rattle.facts.specs.Spans.{spans}
use Rattle.facts.specs.Tables.{Smallest, summary}
use Rattle.ledger.specs.declared.row.Row.{Row}
use Rattle.ledger.specs.Interrupts.{outermost}
use Rattle.ledger.specs.Ledgers.{zero_spans}
use Rattle.ledger.specs.Rows.{blank_row, mains, handlers, page_spans, needs, spans_of}
use Rattle.inspection.specs.declared.sheet.Sheet.{Sheet}
use Rattle.inspection.specs.Facts.{handler_marks, Facts}
use Rattle.inspection.specs.Looking.{either_marked}
use Rattle.inspection.specs.Needing.{marked_in, Enough, Asks, Lifts, Settled}
use Rattle.inspection.specs.Sheets.{reached, needed, needless, SameFacts, SameSheet, RaisesNeeds, SettlesNeeds}
use Rattle.inspection.proofs.Lifting.{lifts_more, lifts_set, settles, still}

-- what is read from a row without its need
module _ {X : Type 0} (f : Row → X) (same : (row : Row) → f (needless row) ≡ f row) where
  read_needless : (rows : List Row) → map f (map needless rows) ≡ map f rows
  read_needless [] = refl
  read_needless (row ∷ rows) = λ i. same row i ∷ read_needless rows i

  read_same : {before after : List Row} → SameFacts before after → map f after ≡ map f before
  read_same {before} {after} facts = sym (read_needless after) ∙ ap (map f) facts.rows ∙ read_needless before

module _ {before after : List Row} (facts : SameFacts before after) where
  pub mains_same : mains after ≡ mains before
  mains_same = read_same (λ row. row.main) (λ row. refl) facts

  pub handlers_same : handlers after ≡ handlers before
  handlers_same = read_same (λ row. row.handler) (λ row. refl) facts

  spans_same : page_spans after ≡ page_spans before
  spans_same = read_same spans_of (λ row. refl) facts

  pub marked_same : marked_in (mains after) (handlers after) ≡ marked_in (mains before) (handlers before)
  marked_same = λ i. marked_in (mains_same i) (handlers_same i)

  row_same : (a : ℕ) → needless (get_or after a blank_row) ≡ needless (get_or before a blank_row)
  row_same a = sym (get_or-map needless after a blank_row) ∙ ap (λ rows. get_or rows a blank_row) facts.rows ∙ get_or-map needless before a blank_row

  pub facts_same : {image : List ℕ} {able : Bool} {all : Option PageSpans} → Facts image able before all → Facts image able after all
  facts_same {image} {able} {all} found = record {
    main = subst (Smallest marks image 1 outermost) (sym mains_same) found.main;
    handler = subst (Smallest marks image 0 (handler_marks able)) (sym handlers_same) found.handler;
    spanned = subst (Smallest spans image 1 zero_spans) (sym spans_same) found.spanned;
    spanless = λ a none.
        let both = found.spanless a (λ m. none (ap (λ rows. any_frame (get_or rows a marks.bottom)) mains_same ∙ m)) in
        (ap (λ row. row.r14) (row_same a) ∙ both.0, ap (λ row. row.r15) (row_same a) ∙ both.1);
    value = found.value ∙ ap (summary spans image) (sym spans_same);
  }

-- one sweep after another
pub raises_more : {a b c : Sheet} {p q : Bool} → RaisesNeeds a b p → RaisesNeeds b c q → RaisesNeeds a c (p || q)
raises_more {a} {b} {c} {p} {q} g h = record {
  same = record { words = h.same.words ∙ g.same.words; loan = h.same.loan ∙ g.same.loan };
  facts = record { rows = h.facts.rows ∙ g.facts.rows };
  lifts = lifts_more _ _ g.lifts (subst (λ words. Lifts words (reached a) (needed b) (needed c) q) g.same.words (subst (λ marked. Lifts b.words.now marked (needed b) (needed c) q) (marked_same g.facts) h.lifts));
}

-- where nothing rose
enough_still : {a b : Sheet} → RaisesNeeds a b false → (at : ℕ) → Enough b.words.now (reached b) (needed b) at → Enough a.words.now (reached a) (needed a) at
enough_still {a} {b} g at enough =
    subst (λ words. Enough words (reached a) (needed a) at) g.same.words
    (subst (λ marked. Enough b.words.now marked (needed a) at) (marked_same g.facts)
    (subst (λ need. Enough b.words.now (reached b) need at) (still _ _ false g.lifts refl) enough))

-- one address more
pub swept :
    {a b : Sheet} {p q : Bool} (xs : List ℕ) (at : ℕ)
    → RaisesNeeds a b p
    → (p ≡ false → (k : ℕ) → k < length xs → Enough a.words.now (reached a) (needed a) (get_or xs k 0))
    → (q ≡ false → Enough b.words.now (reached b) (needed b) at)
    → (p || q) ≡ false
    → (k : ℕ)
    → k < length (xs ++ at ∷ [])
    → Enough a.words.now (reached a) (needed a) (get_or (xs ++ at ∷ []) k 0)
swept {a} {b} {p} {q} xs at raises before here e k inside = let o = or_parts p q e in elim (cases_lt k (length xs)) [
  | inl h ↦ subst (Enough a.words.now (reached a) (needed a)) (sym (get_or_append_left xs (at ∷ []) 0 k h)) (before o.0 k h)
  | inr h ↦
      let last : length xs ≡ k = omega (arith, length_push xs at) in
      subst (Enough a.words.now (reached a) (needed a)) (sym (get_or_push xs at 0 k last)) (enough_still (subst (RaisesNeeds a b) o.0 raises) at (here o.1))
]

pub settles_sheet :
    {a b c : Sheet} {p : Bool}
    → ((at : ℕ) → get_or (needed a) at 0 ≡ 0)
    → RaisesNeeds a b p
    → RaisesNeeds b c false
    → ((at : ℕ) → at < length b.words.now → Enough b.words.now (reached b) (needed b) at)
    → SettlesNeeds a c
settles_sheet {a} {b} {c} {p} zeros g h enough =
    let all = raises_more g h in
    let none : needed c ≡ needed b = still _ _ false h.lifts refl in
    record {
      same = all.same;
      facts = all.facts;
      settled =
          subst (Settled a.words.now (reached a)) (sym none)
          (settles a.words.now (reached a) zeros (length-map a.rows.now (λ row. row.need) ∙ a.level) g.lifts
          (λ at inside.
          subst (λ words. Enough words (reached a) (needed b) at) g.same.words
          (subst (λ marked. Enough b.words.now marked (needed b) at) (marked_same g.facts) (enough at (subst (λ words. at < length words) (sym g.same.words) inside)))));
    }

-- what a sheet has at an address is read from the row there
module _ (sheet : Sheet) (at : ℕ) (d : Row) (inside : at < length sheet.words.now) where
  inner : at < length sheet.rows.now
  inner = omega (arith, sheet.level)

  pub reached_at : reached sheet at ≡ either_marked (get_or sheet.rows.now at d).main (get_or sheet.rows.now at d).handler
  reached_at = λ j. either_marked (get_or_map (λ row. row.main) sheet.rows.now at d unmarked inner j) (get_or_map (λ row. row.handler) sheet.rows.now at d unmarked inner j)

  pub needed_at : get_or (needed sheet) at 0 ≡ (get_or sheet.rows.now at d).need
  needed_at = get_or_map (λ row. row.need) sheet.rows.now at d 0 inner

-- the need at a marked address becomes what is asked there
pub raises_set :
    {a b : Sheet} (at r : ℕ) (d : Row)
    → at < length a.words.now
    → SameSheet a b
    → b.rows.now ≡ set a.rows.now at (record { main = (get_or a.rows.now at d).main; handler = (get_or a.rows.now at d).handler; r14 = (get_or a.rows.now at d).r14; r15 = (get_or a.rows.now at d).r15; need = r })
    → reached a at ≡ true
    → Asks a.words.now (needed a) at r
    → get_or (needed a) at 0 < r
    → r ≤ 1000
    → RaisesNeeds a b true
raises_set {a} {b} at r d inside same is mark asks more few = record {
  same = same;
  facts = record { rows = ap (map needless) is ∙ map-set_same needless a.rows.now at _ d refl };
  lifts =
      subst (λ need. Lifts a.words.now (reached a) (needed a) need true) (sym (ap needs is ∙ map-set (λ row. row.need) a.rows.now at _))
      (lifts_set a.words.now (reached a) (needed a) at r (length-map a.rows.now (λ row. row.need) ∙ a.level) inside mark asks more few);
}
