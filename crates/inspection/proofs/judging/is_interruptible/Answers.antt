use Rattle.std.proofs.Common.{◌||◌, refl, ◌∙◌, rules, tests}
use Rattle.std.proofs.lemmas.Iterator.{YieldsList-from_slice}
use Rattle.std.proofs.lemmas.Iterator.Search.{any_from_yields_List}
use Rattle.std.proofs.lemmas.List.Recursion.{same_from_clauses}
use Rattle.std.specs.List.{list_any}
use Rattle.words.specs.Decoding.{instruction_of}
use Rattle.ledger.specs.Interrupts.{word_enables, interruptible}
use Rattle.inspection.proofs.judging.is_interruptible.Goals as goal

pub returns : goal.returns
returns c =
    any_from_yields_List (λ word. word_enables (instruction_of word)) _ _ _ c.any.ensures.ran (YieldsList-from_slice c.args.image.now cc) (λ x b q k. search (rules, tests))
    ∙ same_from_clauses (list_any (λ word. word_enables (instruction_of word))) interruptible (λ word rest. word_enables (instruction_of word) || rest) refl (λ _ _. refl) (λ _ _. refl) c.args.image.now
