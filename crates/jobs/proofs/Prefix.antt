-- No record's bytes are the front of another's, so bytes can be cut into records in one way only. Assumes nothing.
use Rattle.std.proofs.Common.{◌≡◌, ℕ, ◌/◌, ◌%◌, List, ◌∷◌, ◌++◌, arith}
use Rattle.jobs.specs.declared.record.Record.{Record}
use Rattle.jobs.specs.declared.record.Record.TheVariants.{Pages, Word, Tick}
use Rattle.jobs.specs.Records.{written}

same_two : (m n : ℕ) → m / 256 ≡ n / 256 → m % 256 ≡ n % 256 → m ≡ n
same_two m n p q = grind arith

same_three : (m n : ℕ) → m / 65536 ≡ n / 65536 → m / 256 % 256 ≡ n / 256 % 256 → m % 256 ≡ n % 256 → m ≡ n
same_three m n p q r = grind arith

apart : {a b : ℕ} {x y : List ℕ} → (a ≡ b → ⊥) → a ∷ x ≡ b ∷ y → ⊥
apart ne e = ne (cc)

pub same_record : (a b : Record) (x y : List ℕ) → written a ++ x ≡ written b ++ y → (a ≡ b) × (x ≡ y)
same_record (Pages f l) (Pages f' l') x y e =
    let p : f ≡ f' = same_two f f' (cc) (cc) in
    let q : l ≡ l' = same_two l l' (cc) (cc) in
    (cc, cc)
same_record (Pages f l) (Word w) x y e = absurd (apart (omega arith) e)
same_record (Pages f l) (Tick t) x y e = absurd (apart (omega arith) e)
same_record (Word w) (Pages f l) x y e = absurd (apart (omega arith) e)
same_record (Word w) (Word w') x y e = let p : w ≡ w' = same_three w w' (cc) (cc) (cc) in (cc, cc)
same_record (Word w) (Tick t) x y e = absurd (apart (omega arith) e)
same_record (Tick t) (Pages f l) x y e = absurd (apart (omega arith) e)
same_record (Tick t) (Word w) x y e = absurd (apart (omega arith) e)
same_record (Tick t) (Tick t') x y e = let p : t ≡ t' = same_two t t' (cc) (cc) in (cc, cc)
