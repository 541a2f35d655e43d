-- The summary of a table: how it is gathered, and that it is the least fact above those at the named words. Assumes nothing.
use Rattle.std.proofs.Common.{◌≡◌, ℕ, zero, suc, ◌+◌, ◌<◌, Bool, true, false, cond, List, [], ◌∷◌, length, get_or, take, sym, refl, ap, ◌∙◌, arith}
use Rattle.facts.specs.Kinds.{Kind, Covers}
use Rattle.facts.specs.Laws.{Laws}
use Rattle.facts.specs.Tables.{fact_at, summary, Below}

module _ {F : Type 0} {k : Kind F} (laws : Laws k) where
  pub summary_least :
      (image : List ℕ) (table : List F) (c : F)
      → ((a : ℕ) → a < length image → k.names (get_or image a 0) ≡ true → Covers k c (fact_at k table a))
      → Covers k c (summary k image table)
  summary_least [] table c h = laws.order.lowest c
  summary_least (w ∷ image) [] c h = laws.order.lowest c
  summary_least (w ∷ image) (x ∷ table) c h = go (k.names w) refl (summary_least image table c (λ a l n. h (suc a) (omega arith) n))
    where
      go :
          (b : Bool)
          → k.names w ≡ b
          → Covers k c (summary k image table)
          → Covers k c (cond b (k.join x (summary k image table)) (summary k image table))
      go true e rest = laws.joins.least _ _ _ (h 0 (omega arith) e) rest
      go false e rest = rest

  pub summary_above :
      (image : List ℕ) (table : List F) (a : ℕ)
      → a < length image
      → k.names (get_or image a 0) ≡ true
      → Covers k (summary k image table) (fact_at k table a)
  summary_above [] table a h named = absurd (omega arith)
  summary_above (w ∷ image) [] a h named = laws.order.lowest _
  summary_above (w ∷ image) (x ∷ table) zero h named = rw named (laws.joins.left x _)
  summary_above (w ∷ image) (x ∷ table) (suc a) h named = go (k.names w) (summary_above image table a (omega arith) named)
    where
      go :
          (b : Bool)
          → Covers k (summary k image table) (fact_at k table a)
          → Covers k (cond b (k.join x (summary k image table)) (summary k image table)) (fact_at k table a)
      go true rest = laws.order.transitive _ _ _ (laws.joins.right x _) rest
      go false rest = rest

  pub summary_mono :
      (image : List ℕ) (table other : List F)
      → Below k (length image) table other
      → Covers k (summary k image other) (summary k image table)
  summary_mono image table other under = summary_least image table _ (λ a h named. laws.order.transitive _ _ _ (summary_above image other a h named) (under a h))

  join_bottom : (x : F) → k.join k.bottom x ≡ k.join x k.bottom
  join_bottom x = laws.order.antisymmetric _ _
      (laws.joins.least _ _ _ (laws.joins.right _ _) (laws.joins.left _ _))
      (laws.joins.least _ _ _ (laws.joins.right _ _) (laws.joins.left _ _))

  join_assoc : (x y z : F) → k.join x (k.join y z) ≡ k.join (k.join x y) z
  join_assoc x y z = laws.order.antisymmetric _ _
      (laws.joins.least _ _ _ (laws.joins.least _ _ _ (laws.joins.left _ _) (laws.order.transitive _ _ _ (laws.joins.right _ _) (laws.joins.left _ _))) (laws.order.transitive _ _ _ (laws.joins.right _ _) (laws.joins.right _ _)))
      (laws.joins.least _ _ _ (laws.order.transitive _ _ _ (laws.joins.left _ _) (laws.joins.left _ _)) (laws.joins.least _ _ _ (laws.order.transitive _ _ _ (laws.joins.left _ _) (laws.joins.right _ _)) (laws.joins.right _ _)))

  summary_more :
      (image : List ℕ) (table : List F) (n : ℕ)
      → n < length image
      → n < length table
      → cond (k.names (get_or image n 0)) (k.join (summary k (take n image) table) (fact_at k table n)) (summary k (take n image) table) ≡ summary k (take (suc n) image) table
  summary_more [] table n h l = absurd (omega arith)
  summary_more (w ∷ image) [] n h l = absurd (omega arith)
  summary_more (w ∷ image) (x ∷ table) zero h l = go (k.names w)
    where
      go : (b : Bool) → cond b (k.join k.bottom x) k.bottom ≡ cond b (k.join x k.bottom) k.bottom
      go true = join_bottom x
      go false = refl
  summary_more (w ∷ image) (x ∷ table) (suc n) h l = go (k.names w) (k.names (get_or image n 0)) (summary_more image table n (omega arith) (omega arith))
    where
      go :
          (b c : Bool)
          → cond c (k.join (summary k (take n image) table) (fact_at k table n)) (summary k (take n image) table) ≡ summary k (take (suc n) image) table
          → cond c (k.join (cond b (k.join x (summary k (take n image) table)) (summary k (take n image) table)) (fact_at k table n)) (cond b (k.join x (summary k (take n image) table)) (summary k (take n image) table)) ≡ cond b (k.join x (summary k (take (suc n) image) table)) (summary k (take (suc n) image) table)
      go true true e = sym (join_assoc x _ _) ∙ ap (k.join x) e
      go true false e = ap (k.join x) e
      go false c e = e

  -- one word more
  pub summary_turn :
      (image : List ℕ) (table : List F) (n m w : ℕ) (x joined : F)
      → m ≡ n + 1
      → n < length image
      → n < length table
      → w ≡ get_or image n 0
      → x ≡ fact_at k table n
      → joined ≡ summary k (take n image) table
      → cond (k.names w) (k.join joined x) joined ≡ summary k (take m image) table
  summary_turn image table n m w x joined more h l word fact is =
      let next : m ≡ suc n = omega arith in rw (word, fact, is, next) (summary_more image table n h l)
