-- Why a filled memory is sound, whatever it is filled from. Assumes nothing.
use Rattle.std.specs.Prelude.{ℕ, ◌%◌, ◌<◌, Bool, true, false, cond}
use Rattle.std.proofs.Common.{⊎_elim, arith}
use Rattle.std.proofs.lemmas.Bool.{and_left, and_right, cond-false, le-ltb}
use Rattle.memories.specs.Meaning.{Sound, filled}

below : (inside : Bool) (n : ℕ) → cond inside (n % 256) 0 < 256
below true n = omega arith
below false n = omega arith

pub filled_sound : (count : ℕ) (source : ℕ → ℕ → ℕ) → Sound (filled count source)
filled_sound count source = record {
  few = omega arith;
  small = λ page offset. below _ (source page offset);
  outside = λ page offset. ⊎_elim
      (λ past. cond-false _ _ _ (and_left _ _ (le-ltb _ _ past)))
      (λ past. cond-false _ _ _ (and_right _ _ (le-ltb _ _ past)));
}
