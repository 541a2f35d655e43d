-- What a joined memory tells of its parts. Assumes nothing.
use Rattle.std.proofs.Common.{◌≡◌, ℕ, ◌+◌, ◌-◌, ◌^◌, ◌<◌, ◌≤◌, sym, ap, ◌∙◌, inl, inr, ⊎_elim, arith}
use Rattle.std.proofs.lemmas.Bool.{cases_lt}
use Rattle.std.proofs.lemmas.Bool.Decides.{nat_tests}
use Rattle.memories.specs.Frames.{cut}
use Rattle.memories.specs.Kinds.{joined}
use Rattle.memories.specs.Laws.{JoinedLaws}
use Rattle.memories.specs.Meaning.{Meaning, Sound}
use Rattle.memories.proofs.Filled.{same_meaning}

pub first_byte : (a b : Meaning) → Sound a → (page offset : ℕ) → page < a.pages → (joined a b).byte page offset ≡ a.byte page offset
first_byte a b sound page offset inside =
    let few = sound.few in
    let small = sound.small page offset in
    let past : 256 ≤ offset → a.byte page offset ≡ 0 = λ h. sound.outside page offset (inr h) in
    grind (arith, nat_tests)

pub second_byte : (a b : Meaning) → Sound b → (page offset : ℕ) → a.pages + page < 2 ^ 16 → (joined a b).byte (a.pages + page) offset ≡ b.byte page offset
second_byte a b sound page offset inside =
    let small = sound.small page offset in
    let past : 256 ≤ offset → b.byte page offset ≡ 0 = λ h. sound.outside page offset (inr h) in
    let none : b.pages ≤ page → b.byte page offset ≡ 0 = λ h. sound.outside page offset (inl h) in
    let back : a.pages + page - a.pages ≡ page = omega arith in
    grind (arith, nat_tests)

-- the whole, and how it was cut, fix both parts
module _ (a b a' b' : Meaning)
    (sound_a : Sound a)
    (sound_b : Sound b)
    (sound_a' : Sound a')
    (sound_b' : Sound b')
    (whole : joined a b ≡ joined a' b')
    (same : cut a b ≡ cut a' b') where
  boundary : a.pages ≡ a'.pages
  boundary = ap (λ c. c.first_pages) same

  first_fixed : a ≡ a'
  first_fixed = same_meaning a a' boundary (λ page offset. ⊎_elim
      (λ inside. sym (first_byte a b sound_a page offset inside) ∙ ap (λ m. m.byte page offset) whole ∙ first_byte a' b' sound_a' page offset (omega (arith, boundary)))
      (λ past. sound_a.outside page offset (inl past) ∙ sym (sound_a'.outside page offset (inl (omega (arith, boundary)))))
      (cases_lt page a.pages))

  second_fixed : b ≡ b'
  second_fixed = same_meaning b b' (ap (λ c. c.second_pages) same) (λ page offset. ⊎_elim
      (λ inside. sym (second_byte a b sound_b page offset inside) ∙ ap (λ m. m.byte (a.pages + page) offset) whole ∙ ap (λ n. (joined a' b').byte (n + page) offset) boundary ∙ second_byte a' b' sound_b' page offset (omega (arith, boundary)))
      (λ past. let h = ap (λ c. c.beyond page offset) same in let e = boundary in grind (arith, nat_tests))
      (cases_lt (a.pages + page) (2 ^ 16)))

  pub parts_fixed : (a ≡ a') × (b ≡ b')
  parts_fixed = (first_fixed, second_fixed)

pub joined_laws : JoinedLaws
joined_laws = record { first = first_byte; second = second_byte; fixed = parts_fixed }
