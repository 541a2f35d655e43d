-- What the library's formats write of addresses and words. Assumes nothing.
use Rattle.std.proofs.Common.{◌≡◌, ℕ, ◌/◌, ◌%◌, ◌^◌, ◌<◌, ◌≤◌, true, [], ◌∷◌, ◌++◌, codes, Result, sym, refl, ◌∙◌, arith}
use Rattle.std.proofs.lemmas.Bool.{lt-ltb, le-ltb}
use Rattle.std.specs.Fmt.{digits}
use Rattle.refusals.specs.declared.Refusal.{Refusal}
use Rattle.words.specs.declared.instruction.Instruction.{Instruction}
use Rattle.words.specs.Hex.{hex_digit, hex_four}
use Rattle.words.proofs.Formats.{zero_filled, padded_hex, last}
use Rattle.jobs.specs.Listing.{word_digits, decoded_text, line_text}

module _ (n : ℕ) where
  low_four : (m : ℕ) → m % 65536 ≡ n % 65536 → last 4 m [] ≡ hex_four n
  low_four m same =
      let a : m / 16 / 16 / 16 % 16 ≡ n / 256 % 256 / 16 % 16 = omega arith in
      let b : m / 16 / 16 % 16 ≡ n / 256 % 256 % 16 = omega arith in
      let c : m / 16 % 16 ≡ n % 256 / 16 % 16 = omega arith in
      let d : m % 16 ≡ n % 256 % 16 = omega arith in
      λ i. hex_digit (a i) ∷ hex_digit (b i) ∷ hex_digit (c i) ∷ hex_digit (d i) ∷ []

  pub five_digits : n < 2 ^ 20 → zero_filled 5 (digits 16 true n) ≡ word_digits n
  five_digits small =
      let high : n / 16 / 16 / 16 / 16 % 16 ≡ n / 65536 % 16 = omega arith in
      rw (lt-ltb n (2 ^ 20) small) (padded_hex 4 n (omega arith) (omega arith) ∙ (λ i. hex_digit (high i) ∷ low_four n refl i))

  pub six_digits : 2 ^ 20 ≤ n → zero_filled 6 (digits 16 true (n % 16777216)) ≡ word_digits n
  six_digits large =
      let higher : n % 16777216 / 16 / 16 / 16 / 16 / 16 % 16 ≡ n / 65536 / 16 % 16 = omega arith in
      let high : n % 16777216 / 16 / 16 / 16 / 16 % 16 ≡ n / 65536 % 16 = omega arith in
      rw (le-ltb n (2 ^ 20) large) (padded_hex 5 (n % 16777216) (omega arith) (omega arith) ∙ (λ i. hex_digit (higher i) ∷ hex_digit (high i) ∷ low_four (n % 16777216) (omega arith) i))

  address_digits : zero_filled 4 (digits 16 true (n % 65536)) ≡ hex_four n
  address_digits = padded_hex 3 (n % 65536) (omega arith) (omega arith) ∙ low_four (n % 65536) (omega arith)

-- the address and the word of a line, and what the word is found to be
pub shown_line : (address word : ℕ) {found told : Result Instruction Refusal} → found ≡ told → zero_filled 4 (digits 16 true (address % 65536)) ++ (codes " " ++ (word_digits word ++ (codes " " ++ decoded_text told))) ≡ line_text address word found
shown_line address word same =
    λ i. address_digits address i ++ (codes " " ++ (word_digits word ++ (codes " " ++ decoded_text (sym same i))))
