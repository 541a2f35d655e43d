-- Tables of an image that is written out, by computation: a test whether one is closed, and rounds that find the smallest. Assumes nothing.
--
--   every        a test at each number below a bound
--   every_step   a test at each step that an image has
--   closes       the test whether a table is closed
--   two_rounds   what two rounds of carrying on, from low addresses to high, make of what is given
use Rattle.std.proofs.Common.{◌≡◌, ℕ, zero, suc, ◌<◌, ◌≤◌, Bool, true, ◌&&◌, List, [], ◌∷◌, map, length, get_or, ℤ, pos, Some, None, Option, refl, subst, inl, inr, arith}
use Rattle.std.proofs.lemmas.Bool.{and_parts, cases_lt}
use Rattle.words.specs.Decoding.{instruction_of}
use Rattle.words.specs.declared.instruction.Instruction.{Instruction}
use Rattle.words.proofs.Codec.{written_computed}
use Rattle.facts.specs.Kinds.{Kind, Covers}
use Rattle.facts.specs.Laws.{Laws}
use Rattle.facts.specs.Progress.{CoversAt}
use Rattle.facts.specs.Successors.{Edge, past, enter, resume, Leads, Step, inside, successors}
use Rattle.facts.specs.Tables.{fact_at, summary, carry, Flows, Closed, Smallest}
use Rattle.facts.proofs.Spreading.{inside_some, writes_word, already}
use Rattle.facts.proofs.Summaries.{summary_mono}

abbrev pub every : ℕ → (ℕ → Bool) → Bool
every zero test = true
every (suc n) test = test n && every n test

pub every_below : (n : ℕ) (test : ℕ → Bool) → every n test ≡ true → (a : ℕ) → a < n → test a ≡ true
every_below zero test t a h = absurd (omega arith)
every_below (suc n) test t a h = let both = and_parts (test n) (every n test) t in elim (cases_lt a n) [
  | inl l ↦ every_below n test both.1 a l
  | inr g ↦ let same : n ≡ a = omega arith in subst (λ m. test m ≡ true) same both.0
]

-- at the address, if there is one
abbrev pub test_at : (ℕ → Bool) → Option ℕ → Bool
test_at test None = true
test_at test (Some b) = test b

abbrev pub test_from : ℕ → (Edge → ℕ → Instruction → ℕ → Bool) → ℕ → Option Instruction → Bool
test_from words test a None = true
test_from words test a (Some i) =
    test_at (test past a i) (inside words (successors a i).next) && (test_at (test past a i) (inside words (successors a i).target) && (test_at (test enter a i) (inside words (successors a i).routine) && test_at (test resume a i) (inside words (successors a i).resume)))

abbrev pub every_step : List ℕ → (Edge → ℕ → Instruction → ℕ → Bool) → Bool
every_step image test = every (length image) (λ a. test_from (length image) test a (instruction_of (get_or image a 0)))

pub step_tested :
    (image : List ℕ) (test : Edge → ℕ → Instruction → ℕ → Bool)
    → every_step image test ≡ true
    → (edge : Edge) (a : ℕ) (i : Instruction) (b : ℕ)
    → Step image edge a i b
    → test edge a i b ≡ true
step_tested image test t edge a i b step =
    let here = subst (λ found. test_from (length image) test a found ≡ true) (written_computed i _ step.writes) (every_below (length image) (λ n. test_from (length image) test n (instruction_of (get_or image n 0))) t a step.from) in
    let one = and_parts (test_at (test past a i) (inside (length image) (successors a i).next)) _ here in
    let two = and_parts (test_at (test past a i) (inside (length image) (successors a i).target)) _ one.1 in
    let three = and_parts (test_at (test enter a i) (inside (length image) (successors a i).routine)) _ two.1 in
    go edge step.leads one.0 two.0 three.0 three.1
  where
    at_some : (q : ℕ → Bool) (to : Option ℤ) → test_at q (inside (length image) to) ≡ true → to ≡ Some (pos b) → q b ≡ true
    at_some q to h e = subst (λ o. test_at q o ≡ true) (inside_some (length image) to b e step.to) h

    go :
        (edge : Edge)
        → Leads (successors a i) edge (pos b)
        → test_at (test past a i) (inside (length image) (successors a i).next) ≡ true
        → test_at (test past a i) (inside (length image) (successors a i).target) ≡ true
        → test_at (test enter a i) (inside (length image) (successors a i).routine) ≡ true
        → test_at (test resume a i) (inside (length image) (successors a i).resume) ≡ true
        → test edge a i b ≡ true
    go past (inl e) next target routine back = at_some (test past a i) _ next e
    go past (inr e) next target routine back = at_some (test past a i) _ target e
    go enter e next target routine back = at_some (test enter a i) _ routine e
    go resume e next target routine back = at_some (test resume a i) _ back e

abbrev pub closes : {F : Type 0} → Kind F → List ℕ → ℕ → F → List F → Bool
closes k image start given table =
    k.covers (fact_at k table start) given && every_step image (λ edge a i b. k.covers (fact_at k table b) (carry k edge i (summary k image table) (fact_at k table a)))

closed_tested : {F : Type 0} (k : Kind F) (image : List ℕ) (start : ℕ) (given : F) (table : List F) → closes k image start given table ≡ true → Closed k image start given table
closed_tested k image start given table t =
    let both = and_parts (k.covers (fact_at k table start) given) _ t in
    record {
      begins = λ h. both.0;
      flows = λ a edge i b step. step_tested image (λ edge a i b. k.covers (fact_at k table b) (carry k edge i (summary k image table) (fact_at k table a))) both.1 edge a i b step;
    }

-- a fact joined in at an address
abbrev pub raise : {F : Type 0} → Kind F → ℕ → F → List F → List F
raise k b fact [] = []
raise k zero fact (x ∷ table) = k.join x fact ∷ table
raise k (suc b) fact (x ∷ table) = x ∷ raise k b fact table

abbrev pub raise_at : {F : Type 0} → Kind F → Option ℕ → F → List F → List F
raise_at k None fact table = table
raise_at k (Some b) fact table = raise k b fact table

-- the fact x at the address a carried on to its successors
abbrev pub spread : {F : Type 0} → Kind F → ℕ → F → ℕ → F → Option Instruction → List F → List F
spread k words s a x None table = table
spread k words s a x (Some i) table =
    raise_at k (inside words (successors a i).next) (k.past i x) (raise_at k (inside words (successors a i).target) (k.past i x) (raise_at k (inside words (successors a i).routine) (k.enter x) (raise_at k (inside words (successors a i).resume) (k.resume s x) table)))

abbrev pub spread_from : {F : Type 0} → Kind F → List ℕ → ℕ → List F → List F
spread_from k image a table = spread k (length image) (summary k image table) a (fact_at k table a) (instruction_of (get_or image a 0)) table

-- the facts at the addresses below a bound carried on, in order
abbrev pub round_to : {F : Type 0} → Kind F → List ℕ → ℕ → List F → List F
round_to k image zero table = table
round_to k image (suc n) table = spread_from k image n (round_to k image n table)

abbrev pub two_rounds : {F : Type 0} → Kind F → List ℕ → ℕ → F → List F
two_rounds k image start given =
    round_to k image (length image) (round_to k image (length image) (raise k start given (map (λ word. k.bottom) image)))

-- below at every address, past the image too
abbrev pub Under : {F : Type 0} → Kind F → List F → List F → Type 0
Under k table other = (a : ℕ) → Covers k (fact_at k other a) (fact_at k table a)

module _ {F : Type 0} {k : Kind F} (laws : Laws k) where
  pub raise_under :
      (table : List F) (b : ℕ) (fact : F) (other : ℕ → F)
      → Covers k (other b) fact
      → ((a : ℕ) → Covers k (other a) (fact_at k table a))
      → (a : ℕ)
      → Covers k (other a) (fact_at k (raise k b fact table) a)
  raise_under [] b fact other h under a = under a
  raise_under (x ∷ table) zero fact other h under zero = laws.joins.least _ _ _ (under zero) h
  raise_under (x ∷ table) zero fact other h under (suc a) = under (suc a)
  raise_under (x ∷ table) (suc b) fact other h under zero = under zero
  raise_under (x ∷ table) (suc b) fact other h under (suc a) = raise_under table b fact (λ n. other (suc n)) h (λ n. under (suc n)) a

  raise_at_under : (to : Option ℕ) (fact : F) (table other : List F) → CoversAt k to fact other → Under k table other → Under k (raise_at k to fact table) other
  raise_at_under None fact table other h under = under
  raise_at_under (Some b) fact table other h under = raise_under table b fact (fact_at k other) (h b refl) under

  pub nothing_under : (image : List ℕ) (x : F) (a : ℕ) → Covers k x (fact_at k (map (λ word. k.bottom) image) a)
  nothing_under [] x a = laws.order.lowest x
  nothing_under (word ∷ image) x zero = laws.order.lowest x
  nothing_under (word ∷ image) x (suc a) = nothing_under image x a

  module _ (image : List ℕ) where
    -- a table on which facts flow stays above what is carried on
    module _ (other : List F) (flows : Flows k image other) where
      spread_under : (table : List F) (a : ℕ) → a < length image → Under k table other → Under k (spread_from k image a table) other
      spread_under table a h under = go (instruction_of (get_or image a 0)) refl
        where
          go : (found : Option Instruction) → instruction_of (get_or image a 0) ≡ found → Under k (spread k (length image) (summary k image table) a (fact_at k table a) found table) other
          go None e = under
          go (Some i) e =
              let writes = writes_word (get_or image a 0) i e in
              let all = already laws image a i writes (summary k image table) table other h (λ b l. under b) (flows, summary_mono laws image table other (λ b l. under b)) in
              raise_at_under _ _ _ other all.next (raise_at_under _ _ _ other all.target (raise_at_under _ _ _ other all.routine (raise_at_under _ _ table other all.resumed under)))

      round_under : (n : ℕ) (table : List F) → n ≤ length image → Under k table other → Under k (round_to k image n table) other
      round_under zero table h under = under
      round_under (suc n) table h under = spread_under _ n (omega arith) (round_under n table (omega arith) under)

    pub smallest_computed : (start : ℕ) (given : F) → start < length image → closes k image start given (two_rounds k image start given) ≡ true → Smallest k image start given (two_rounds k image start given)
    smallest_computed start given inner t = record {
      closed = closed_tested k image start given (two_rounds k image start given) t;
      least = λ other closed a h.
          let begun = raise_under (map (λ word. k.bottom) image) start given (fact_at k other) (closed.begins inner) (λ n. nothing_under image (fact_at k other n) n) in
          let once = round_under other closed.flows (length image) _ (omega arith) begun in
          round_under other closed.flows (length image) _ (omega arith) once a;
    }
