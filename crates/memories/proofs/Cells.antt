-- What is known of the cells of any memory, and of what the calls answer. Assumes nothing.
use Rattle.std.proofs.Common.{◌≡◌, ℕ, ◌<◌, Ok, Err, Result, sym, refl, ap, ◌∙◌, arith}
use Rattle.std.proofs.lemmas.Bool.Decides.{nat_tests}
use Rattle.refusals.specs.declared.Refusal.{Refusal}
use Rattle.memories.specs.Calls.{Peeks, Pokes}
use Rattle.memories.specs.Laws.{CellLaws}
use Rattle.memories.specs.Meaning.{Meaning, Sound, poked}

module _ (memory : Meaning) (page offset value : ℕ) where
  pub poked_here : (poked memory page offset value).byte page offset ≡ value
  poked_here = grind (arith, nat_tests)

  pub poked_elsewhere : (p o : ℕ) → (p ≡ page → o ≡ offset → ⊥) → (poked memory page offset value).byte p o ≡ memory.byte p o
  poked_elsewhere p o apart = grind (arith, nat_tests)

  pub poked_sound : Sound memory → page < memory.pages → offset < 256 → value < 256 → Sound (poked memory page offset value)
  poked_sound sound inside low small = record {
    few = sound.few;
    small = λ p o. let h = sound.small p o in grind (arith, nat_tests);
    outside = λ p o past. let h = sound.outside p o past in grind (arith, nat_tests);
  }

pub peeks_once : (memory : Meaning) (page offset : ℕ) (r s : Result ℕ Refusal) → Peeks memory page offset r → Peeks memory page offset s → r ≡ s
peeks_once memory page offset (Ok a) (Ok b) p q = ap Ok (omega arith)
peeks_once memory page offset (Ok a) (Err f) p q = absurd (omega arith)
peeks_once memory page offset (Err e) (Ok b) p q = absurd (omega arith)
peeks_once memory page offset (Err e) (Err f) p q = cc

module _ (before : Meaning) (page offset byte : ℕ) where
  pub pokes_once : (r s : Result (Unit {0}) Refusal) (after after' : Meaning) → Pokes before page offset byte r after → Pokes before page offset byte s after' → (r ≡ s) × (after ≡ after')
  pokes_once (Ok done) (Ok done') after after' p q = (refl, p.1 ∙ sym q.1)
  pokes_once (Ok done) (Err f) after after' p q = absurd (omega arith)
  pokes_once (Err e) (Ok done) after after' p q = absurd (omega arith)
  pokes_once (Err e) (Err f) after after' p q = (ap Err (p.1 ∙ sym q.1), p.2 ∙ sym q.2)

pub cell_laws : CellLaws
cell_laws = record {
  peeks_once = peeks_once;
  pokes_once = pokes_once;
  here = poked_here;
  elsewhere = poked_elsewhere;
  sound = poked_sound;
}
