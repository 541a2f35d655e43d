-- What the library's formats write, in the words of the specs. Assumes nothing.
use Rattle.std.proofs.Common.{◌≡◌, ℕ, zero, suc, ◌+◌, ◌-◌, ◌/◌, ◌%◌, ◌^◌, ◌<◌, true, false, cond, List, [], ◌∷◌, ◌++◌, codes, length, decimal, replicate, sym, refl, ap, ◌∙◌, ⊎_elim, subst, Result, append-nil, length-append, arith}
use Rattle.std.specs.Fmt.{digits, digit_glyph, digits_onto, padded_integral, format_spec, char_count, styled_decimal, WritesOnOk}
use Rattle.std.specs.declared.fmt.Formatter.{Formatter}
use Rattle.std.specs.declared.fmt.Error.{Error}
use Rattle.std.proofs.lemmas.Fmt.{decimal_nonempty, decimal_step, decimal_digit}
use Rattle.std.proofs.lemmas.Bool.{cases_lt, eq-eqb, ne_eqb, lt-ltb, le-ltb}
use Rattle.words.specs.Hex.{hex_two}
use Rattle.words.specs.Text.{register_name, two_operands}

-- what `{:0W}` and `{:0WX}` write for a width W, of the digits of a number
abbrev pub zero_filled : ℕ → List ℕ → List ℕ
zero_filled width numeral = padded_integral (format_spec 32 0 4 width (2 ^ 64 - 1)) false [] numeral

-- zeros fill a number up to its width
pub zero_padded : (width : ℕ) (numeral : List ℕ) → zero_filled width numeral ≡ replicate (width - length numeral) 48 ++ numeral
unfolding padded_integral char_count
zero_padded width numeral =
    let room : width - length numeral - 0 - 0 ≡ width - length numeral = omega arith in
    ap (λ w. replicate w 48 ++ (numeral ++ [])) room ∙ ap (λ l. replicate (width - length numeral) 48 ++ l) (append-nil numeral)

-- the last k digits, before others
abbrev pub last : ℕ → ℕ → List ℕ → List ℕ
last zero n acc = acc
last (suc k) n acc = last k (n / 16) (digit_glyph true (n % 16) ∷ acc)

-- a number of k digits
abbrev pub Below : ℕ → ℕ → Type 0
Below zero n = n ≡ 0
Below (suc k) n = Below k (n / 16)

zeros_before : (k : ℕ) (acc : List ℕ) → 48 ∷ (replicate k 48 ++ acc) ≡ replicate k 48 ++ (48 ∷ acc)
zeros_before zero acc = refl
zeros_before (suc k) acc = ap (λ l. 48 ∷ l) (zeros_before k acc)

last_zeros : (k : ℕ) (acc : List ℕ) → replicate k 48 ++ acc ≡ last k 0 acc
last_zeros zero acc = refl
last_zeros (suc k) acc = zeros_before k acc ∙ last_zeros k (48 ∷ acc)

-- the last digit of a number before others
abbrev digit_onto : ℕ → List ℕ → List ℕ
digit_onto n acc = digit_glyph true (n % 16) ∷ acc

ends : (j n : ℕ) (acc : List ℕ) → n / 16 ≡ 0 → digits_onto (suc j) 16 true n acc ≡ digit_onto n acc
ends j n acc none = ap (λ t. cond t (digit_onto n acc) (digits_onto j 16 true (n / 16) (digit_onto n acc))) (eq-eqb (n / 16) 0 none)

goes_on : (j n : ℕ) (acc : List ℕ) → (n / 16 ≡ 0 → ⊥) → digits_onto (suc j) 16 true n acc ≡ digits_onto j 16 true (n / 16) (digit_onto n acc)
goes_on j n acc some = ap (λ t. cond t (digit_onto n acc) (digits_onto j 16 true (n / 16) (digit_onto n acc))) (ne_eqb (n / 16) 0 some)

abbrev Padded : ℕ → ℕ → List ℕ → List ℕ → Type 0
Padded k n acc written = replicate (k + length acc - length written) 48 ++ written ≡ last k n acc

padded_ends : (k n : ℕ) (acc : List ℕ) → n / 16 ≡ 0 → Padded (suc k) n acc (digit_onto n acc)
padded_ends k n acc none =
    let width : suc k + length acc - length (digit_onto n acc) ≡ k = omega arith in
    ap (λ w. replicate w 48 ++ digit_onto n acc) width ∙ last_zeros k (digit_onto n acc) ∙ ap (λ m. last k m (digit_onto n acc)) (sym none)

padded_goes_on : (k n : ℕ) (acc written : List ℕ) → Padded (suc k) (n / 16) (digit_onto n acc) written → Padded (suc (suc k)) n acc written
padded_goes_on k n acc written padded =
    let width : suc (suc k) + length acc ≡ suc k + length (digit_onto n acc) = omega arith in
    ap (λ w. replicate (w - length written) 48 ++ written) width ∙ padded

padded_last : (j k n : ℕ) (acc : List ℕ) → k < j → Below (suc k) n → Padded (suc k) n acc (digits_onto j 16 true n acc)
padded_last zero k n acc fits below = absurd (omega arith)
padded_last (suc j) zero n acc fits below = subst (Padded 1 n acc) (sym (ends j n acc below)) (padded_ends 0 n acc below)
padded_last (suc j) (suc k) n acc fits below = ⊎_elim
    (λ one. let none : n / 16 ≡ 0 = omega arith in subst (Padded (suc (suc k)) n acc) (sym (ends j n acc none)) (padded_ends (suc k) n acc none))
    (λ some. subst (Padded (suc (suc k)) n acc) (sym (goes_on j n acc (λ none. omega arith))) (padded_goes_on k n acc _ (padded_last j k (n / 16) (digit_onto n acc) (omega arith) below)))
    (cases_lt (n / 16) 1)

-- what `{:0W$X}` writes of a number of W digits
pub padded_hex : (k n : ℕ) → k < 64 → Below (suc k) n → zero_filled (suc k) (digits 16 true n) ≡ last (suc k) n []
unfolding digits
padded_hex k n fits below =
    let width : suc k + 0 ≡ suc k = omega arith in
    zero_padded (suc k) (digits 16 true n) ∙ ap (λ w. replicate (w - length (digits 16 true n)) 48 ++ digits 16 true n) (sym width) ∙ padded_last 64 k n [] fits below

pub two_digits : (n : ℕ) → n < 256 → zero_filled 2 (digits 16 true n) ≡ hex_two n
two_digits n small = padded_hex 1 n (omega arith) (omega arith)

-- what `{:02}` writes
abbrev pub two_wide : ℕ → List ℕ
two_wide n = styled_decimal (format_spec 32 0 4 2 (2 ^ 64 - 1)) n

-- a register's number in at least two digits
pub named : (n : ℕ) → n < 256 → codes "R" ++ two_wide n ≡ register_name n
named n small = ⊎_elim
    (λ one. rw (zero_padded 2 (decimal n), decimal_digit n one, lt-ltb n 10 one))
    (λ two.
    let length_more = ap length (decimal_step n two (omega arith)) ∙ length-append (decimal (n / 10)) _ in
    let some = decimal_nonempty (n / 10) (omega arith) in
    let full : 2 - length (decimal n) ≡ 0 = omega arith in
    rw (zero_padded 2 (decimal n), full, le-ltb n 10 two))
    (cases_lt n 10)

pub two_registers : (mnemonic : List ℕ) (a b : ℕ) → a < 256 → b < 256 → mnemonic ++ (codes " R" ++ (two_wide a ++ (codes ",R" ++ two_wide b))) ≡ two_operands mnemonic (register_name a) (register_name b)
two_registers mnemonic a b p q = λ i. two_operands mnemonic (named a p i) (named b q i)

pub register_and_byte : (mnemonic : List ℕ) (a b : ℕ) → a < 256 → b < 256 → mnemonic ++ (codes " R" ++ (two_wide a ++ (codes ",0x" ++ zero_filled 2 (digits 16 true b)))) ≡ two_operands mnemonic (register_name a) (codes "0x" ++ hex_two b)
register_and_byte mnemonic a b p q = λ i. two_operands mnemonic (named a p i) (codes "0x" ++ two_digits b q i)

-- what is written is the same text
pub writes_same : {W : Type 0} {took : W → List ℕ → W → Type 0} {f g : Formatter W} {a b : List ℕ} (r : Result (Unit {0}) Error) → a ≡ b → WritesOnOk took f r a g → WritesOnOk took f r b g
writes_same {W} {took} {f} {g} r same writes = subst (λ l. WritesOnOk took f r l g) same writes
