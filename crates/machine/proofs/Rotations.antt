-- What the library's rotations of a byte by one bit are as numbers. Assumes nothing.
use Rattle.std.proofs.Common.{◌≡◌, ℕ, ◌+◌, ◌*◌, ◌/◌, ◌%◌, ◌<◌, ap, ◌∙◌, arith, w8, bit_or}
use Rattle.std.proofs.lemmas.Nat.{or_comm, or_shifted}
use Rattle.std.specs.Int.{rotate_left, rotate_right}

module _ (b : ℕ) (small : b < 256) where
  pub turned_right : rotate_right w8 b 1 ≡ 128 * (b % 2) + b / 2
  turned_right =
      ap (bit_or (b / 2)) (omega arith)
      ∙ or_comm (b / 2) (b % 2 * 128)
      ∙ or_shifted (b % 2) 7 (b / 2) (omega arith)
      ∙ omega arith

  pub turned_left : rotate_left w8 b 1 ≡ 2 * b % 256 + b / 128
  turned_left =
      ap (λ x. bit_or x (b / 128)) (omega arith)
      ∙ or_shifted (b % 128) 1 (b / 128) (omega arith)
      ∙ omega arith
