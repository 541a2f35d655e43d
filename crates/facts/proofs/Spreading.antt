-- What is carried from one address on: it arrives at each successor, and every table on which facts flow has it. Assumes nothing.
use Rattle.std.proofs.Common.{◌≡◌, ℕ, ◌<◌, Bool, false, ◌||◌, List, length, get_or, ℤ, pos, negsuc, Some, None, Option, sym, refl, subst, inl, inr, arith}
use Rattle.std.proofs.lemmas.List.{get_or_read}
use Rattle.std.proofs.lemmas.Bool.Decides.{nat_tests}
use Rattle.std.proofs.lemmas.Bool.{lt-ltb}
use Rattle.words.specs.Codec.{Decodes, Writes, answer_of}
use Rattle.words.specs.Decoding.{instruction_of}
use Rattle.words.specs.declared.instruction.Instruction.{Instruction}
use Rattle.words.proofs.Codec.{one_instruction_each, written_computed}
use Rattle.facts.specs.Kinds.{Kind, Covers}
use Rattle.facts.specs.Laws.{Laws}
use Rattle.facts.specs.Progress.{Raises, CoversAt, Receives, Spreads, FlowsOver}
use Rattle.facts.specs.Successors.{successors, inside, within, Edge, past, enter, resume, Leads}
use Rattle.facts.specs.Tables.{fact_at, summary, carry, Carried, Below}
use Rattle.facts.specs.declared.successors.Successors.{Successors}
use Rattle.facts.proofs.Growth.{grows_none, grows_for, noted_none, raises_more}

pub inside_some : (words : ℕ) (to : Option ℤ) (b : ℕ) → to ≡ Some (pos b) → b < words → inside words to ≡ Some b
inside_some words to b e h = rw (e, lt-ltb b words h) refl

-- what lies inside an image is an address of it
pub from_inside : (words : ℕ) (to : Option ℤ) (b : ℕ) → inside words to ≡ Some b → (to ≡ Some (pos b)) × (b < words)
from_inside words None b e = grind arith
from_inside words (Some (pos a)) b e = grind (arith, nat_tests)
from_inside words (Some (negsuc a)) b e = grind arith

-- a word is written by the instruction that it computes to
pub writes_word : (word : ℕ) (i : Instruction) → instruction_of word ≡ Some i → Writes i word
writes_word word i e = (subst (λ o. Decodes word (answer_of o)) e (one_instruction_each.decoded word)).1

module _ {F : Type 0} {k : Kind F} (laws : Laws k) where
  kept :
      (to : Option ℕ) (fact : F) (x y : List F)
      → ((n : ℕ) → Covers k (fact_at k y n) (fact_at k x n))
      → CoversAt k to fact x
      → CoversAt k to fact y
  kept to fact x y larger h b e = laws.order.transitive _ _ _ (larger b) (h b e)

  -- four raises, one for each successor
  module _ (to : Successors ℕ) (p e r : F) {t₀ t₁ t₂ t₃ t₄ : List F} {d₀ d₁ d₂ d₃ d₄ : List Bool} {c₁ c₂ c₃ c₄ : Bool} where
    pub raised_all :
        Raises k (CoversAt k to.next p) t₀ d₀ t₁ d₁ c₁
        → Raises k (CoversAt k to.target p) t₁ d₁ t₂ d₂ c₂
        → Raises k (CoversAt k to.routine e) t₂ d₂ t₃ d₃ c₃
        → Raises k (CoversAt k to.resume r) t₃ d₃ t₄ d₄ c₄
        → Raises k (Receives k to p e r) t₀ d₀ t₄ d₄ (((c₁ || c₂) || c₃) || c₄)
    raised_all one two three four =
        let ones = raises_more laws (kept to.next p) one two in
        let more = raises_more laws (λ x y l h. (kept to.next p x y l h.0, kept to.target p x y l h.1)) ones three in
        let all = raises_more laws (λ x y l h. ((kept to.next p x y l h.0.0, kept to.target p x y l h.0.1), kept to.routine e x y l h.1)) more four in
        record {
          grows = grows_for laws (λ other h. (((h.next, h.target), h.routine), h.resumed)) all.grows;
          noted = all.noted;
          reached = record { next = all.reached.0.0.0; target = all.reached.0.0.1; routine = all.reached.0.1; resumed = all.reached.1 };
        }

  module _ (image : List ℕ) (at : ℕ) (i : Instruction) (writes : Writes i (get_or image at 0)) (s : F) where
    carried_on :
        (table : List F) (x : F)
        → Receives k (within (length image) (successors at i)) (k.past i x) (k.enter x) (k.resume s x) table
        → Carried k image s table at x
    carried_on table x h edge j b step = go edge (subst (λ q. Leads (successors at q) edge (pos b)) same step.leads) (subst (λ q. Covers k (fact_at k table b) (carry k edge q s x)) (sym same))
      where
        same : j ≡ i
        same = one_instruction_each.only j i _ step.writes writes

        go :
            (edge : Edge)
            → Leads (successors at i) edge (pos b)
            → (Covers k (fact_at k table b) (carry k edge i s x) → Covers k (fact_at k table b) (carry k edge j s x))
            → Covers k (fact_at k table b) (carry k edge j s x)
        go past leads back = back (elim leads [
          | inl e ↦ h.next b (inside_some _ _ b e step.to)
          | inr e ↦ h.target b (inside_some _ _ b e step.to)
        ])
        go enter leads back = back (h.routine b (inside_some _ _ b leads step.to))
        go resume leads back = back (h.resumed b (inside_some _ _ b leads step.to))

    -- a table on which facts flow, and which covers this one, has received all of it
    pub already :
        (table other : List F)
        → at < length image
        → Below k (length image) table other
        → FlowsOver k image s other
        → Receives k (within (length image) (successors at i)) (k.past i (fact_at k table at)) (k.enter (fact_at k table at)) (k.resume s (fact_at k table at)) other
    already table other from under over = record {
      next = λ b e. let h = from_inside _ _ b e in onward past b (inl h.0) h.1 (laws.monotone.past i _ _ (under at from));
      target = λ b e. let h = from_inside _ _ b e in onward past b (inr h.0) h.1 (laws.monotone.past i _ _ (under at from));
      routine = λ b e. let h = from_inside _ _ b e in onward enter b h.0 h.1 (laws.monotone.enter _ _ (under at from));
      resumed = λ b e. let h = from_inside _ _ b e in onward resume b h.0 h.1 (laws.monotone.resume _ _ _ _ over.1 (under at from));
    }
      where
        onward :
            (edge : Edge) (b : ℕ)
            → Leads (successors at i) edge (pos b)
            → b < length image
            → {fact : F}
            → Covers k (carry k edge i (summary k image other) (fact_at k other at)) fact
            → Covers k (fact_at k other b) fact
        onward edge b leads inner h = laws.order.transitive _ _ _ (over.0 at edge i b (record { from = from; writes = writes; leads = leads; to = inner })) h

    pub spreads :
        (table after : List F) (flags flags' : List Bool) (changed : Bool) (to : Successors ℕ) (x p e r : F)
        → at < length image
        → length table ≡ length image
        → x ≡ get_or table at x
        → to ≡ within (length image) (successors at i)
        → p ≡ k.past i x
        → e ≡ k.enter x
        → r ≡ k.resume s x
        → Raises k (Receives k to p e r) table flags after flags' changed
        → Spreads k image s at table flags after flags' changed
    spreads table after flags flags' changed to x p e r from long read is_to is_p is_e is_r raises =
        let held : x ≡ fact_at k table at = get_or_read table at x (omega arith) read k.bottom in
        let all = rw (is_to, is_p, is_e, is_r, held) at raises in
        record {
          grows = record {
            long = all.grows.long;
            larger = all.grows.larger;
            fell = all.grows.fell;
            above = λ other over under. all.grows.above other (already table other from (rw (← long) under) over) under;
          };
          noted = all.noted;
          carried = carried_on after (fact_at k table at) all.reached;
        }

  -- nothing is carried on from a word that no instruction writes
  pub spreads_none :
      (image : List ℕ) (at : ℕ) (s : F) (table : List F) (flags : List Bool)
      → instruction_of (get_or image at 0) ≡ None
      → Spreads k image s at table flags table flags false
  spreads_none image at s table flags none = record {
    grows = grows_none laws _ table;
    noted = noted_none laws table flags;
    carried = λ edge i b step. let some = written_computed i _ step.writes in grind arith;
  }
