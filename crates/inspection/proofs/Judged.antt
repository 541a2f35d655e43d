-- From what a sheet shows to the verdict. Assumes nothing.
use Rattle.std.proofs.Common.{◌≡◌, ℕ, ◌+◌, ◌<◌, ◌≤◌, Bool, cond, length, get_or, sym, ap, ◌∙◌, subst, arith, Option}
use Rattle.refusals.specs.declared.Refusal.{Refusal}
use Rattle.refusals.specs.declared.Refusal.TheVariants.{StackTooDeep}
use Rattle.facts.specs.declared.spans.PageSpans.{PageSpans}
use Rattle.ledger.specs.declared.owned.OwnedPages.{OwnedPages}
use Rattle.ledger.specs.Interrupts.{interruptible}
use Rattle.ledger.specs.Needs.{deepest}
use Rattle.ledger.specs.Rows.{mains, handlers, page_spans}
use Rattle.inspection.specs.declared.sheet.Sheet.{Sheet}
use Rattle.inspection.specs.Facts.{Facts}
use Rattle.inspection.specs.First.{NoneBefore, FirstAt}
use Rattle.inspection.specs.Inspects.{Caused, Passes}
use Rattle.inspection.specs.Looking.{cause_in, foreign_in}
use Rattle.inspection.specs.Needing.{Settled}
use Rattle.inspection.specs.Sheets.{reached, needed, cause_on, foreign_on, FindsFacts, SettlesNeeds}
use Rattle.inspection.proofs.Deciding.{caused_early, caused_deep, caused_foreign, passes}
use Rattle.inspection.proofs.Raising.{facts_same, mains_same, handlers_same, marked_same}

-- a sheet before and after the facts were found
module _ {before after : Sheet} (owned : OwnedPages) {able : Bool} {all : Option PageSpans}
    (finds : FindsFacts before able after all)
    (is_able : able ≡ interruptible before.words.now)
  where
    long : length after.rows.now ≡ length before.words.now
    long = after.level ∙ ap length finds.same.words

    found : Facts before.words.now (interruptible before.words.now) after.rows.now all
    found = subst (λ b. Facts before.words.now b after.rows.now all) is_able finds.facts

    pub early_sheet : {refusal : Refusal} → FirstAt (length after.words.now) (cause_on after) refusal → Caused before.words.now owned refusal
    early_sheet {refusal} first = caused_early owned long found (subst (λ words. FirstAt (length words) (cause_in words (mains after.rows.now) (handlers after.rows.now)) refusal) finds.same.words first)

    -- and with the needs
    module _ {last : Sheet}
        (clear : NoneBefore (length after.words.now) (cause_on after))
        (settles : SettlesNeeds after last)
        (depth : ℕ)
        (value : depth ≡ get_or (needed last) 1 0 + cond able (1 + get_or (needed last) 0 0) 0)
      where
        words_last : last.words.now ≡ before.words.now
        words_last = settles.same.words ∙ finds.same.words

        long_last : length last.rows.now ≡ length before.words.now
        long_last = last.level ∙ ap length words_last

        found_last : Facts before.words.now (interruptible before.words.now) last.rows.now all
        found_last = facts_same settles.facts found

        clear_last : NoneBefore (length before.words.now) (cause_in before.words.now (mains last.rows.now) (handlers last.rows.now))
        clear_last a h =
            (λ j. cause_in (sym finds.same.words j) (mains_same settles.facts j) (handlers_same settles.facts j) a) ∙ clear a (subst (λ words. a < length words) (sym finds.same.words) h)

        settled_last : Settled before.words.now (reached last) (needed last)
        settled_last =
            subst (λ words. Settled words (reached last) (needed last)) finds.same.words
            (subst (λ marked. Settled after.words.now marked (needed last)) (sym (marked_same settles.facts)) settles.settled)

        depth_is : depth ≡ deepest before.words.now (needed last)
        depth_is = value ∙ ap (λ b. get_or (needed last) 1 0 + cond b (1 + get_or (needed last) 0 0) 0) is_able

        pub deep_sheet : 1 < length before.words.now → 16 < depth → Caused before.words.now owned StackTooDeep
        deep_sheet two over = caused_deep owned long_last found_last clear_last settled_last two (omega (arith, depth_is))

        module _ (few : depth ≤ 16) where
          pub foreign_sheet : {refusal : Refusal} → FirstAt (length last.words.now) (foreign_on last owned all) refusal → Caused before.words.now owned refusal
          foreign_sheet {refusal} first =
              caused_foreign owned long_last found_last clear_last settled_last (omega (arith, depth_is))
              (subst (λ words. FirstAt (length words) (foreign_in words owned (mains last.rows.now) (handlers last.rows.now) (page_spans last.rows.now) all) refusal) words_last first)

          pub passes_sheet : NoneBefore (length last.words.now) (foreign_on last owned all) → Passes before.words.now owned last.rows.now depth
          passes_sheet stays =
              subst (Passes before.words.now owned last.rows.now) (sym depth_is)
              (passes owned long_last found_last clear_last settled_last (omega (arith, depth_is))
              (subst (λ words. NoneBefore (length words) (foreign_in words owned (mains last.rows.now) (handlers last.rows.now) (page_spans last.rows.now) all)) words_last stays))
