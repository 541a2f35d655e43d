-- Where no further record can be taken, and what is said there. Assumes nothing.
use Rattle.std.proofs.Common.{◌≡◌, ℕ, List, [], ◌∷◌, ◌++◌, sym, ◌∙◌, subst, arith}
use Rattle.std.proofs.lemmas.Bool.Decides.{nat_tests}
use Rattle.refusals.specs.declared.Refusal.TheVariants.{TooManyRecords}
use Rattle.jobs.specs.declared.record.Record.{Record}
use Rattle.jobs.specs.declared.record.Record.TheVariants.{Pages, Word, Tick}
use Rattle.jobs.specs.Records.{written}
use Rattle.jobs.specs.Jobs.{Within, Longest, verdict, refused}
use Rattle.jobs.proofs.Prefix.{same_record}

pub none_left : (records : List Record) → Longest records []
none_left records (Pages f l) more fits e within = let z : ◌≡◌ {A = ℕ} 0 1 = cc in omega arith
none_left records (Word w) more fits e within = let z : ◌≡◌ {A = ℕ} 0 1 = cc in omega arith
none_left records (Tick t) more fits e within = let z : ◌≡◌ {A = ℕ} 0 1 = cc in omega arith

pub full_longest : (records : List Record) (rest : List ℕ) (next : Record) (more : List ℕ) → rest ≡ written next ++ more → (Within (records ++ next ∷ []) → ⊥) → Longest records rest
full_longest records rest next more e over other more' fits e' within =
    let same = same_record next other more more' (sym e ∙ e') in over (subst (λ r. Within (records ++ r ∷ [])) (sym same.0) within)

pub full_told : (records : List Record) (rest : List ℕ) (place : ℕ) (next : Record) (more : List ℕ) → rest ≡ written next ++ more → verdict records rest place ≡ refused (TooManyRecords place)
full_told records rest place (Pages f l) more e = rw e (grind (arith, nat_tests))
full_told records rest place (Word w) more e = rw e (grind (arith, nat_tests))
full_told records rest place (Tick t) more e = rw e (grind (arith, nat_tests))
