-- The laws of smallest tables, from the laws of the kind of fact. Assumes nothing.
use Rattle.std.proofs.Common.{◌≡◌, ℕ, ◌<◌, Bool, true, false, cond, List, [], map, length, sym, ap, ◌∙◌, subst, inl, inr, arith}
use Rattle.std.proofs.lemmas.List.FromFn.{get_or-map-range_with_len}
use Rattle.std.proofs.lemmas.Bool.{cases_Bool, both_ways, not-true, not-false, not_from_true}
use Rattle.std.proofs.lemmas.Bool.Decides.{same_from_decides}
use Rattle.std.specs.List.{range_with_len}
use Rattle.facts.specs.Kinds.{Kind, Covers}
use Rattle.facts.specs.Laws.{Laws}
use Rattle.facts.specs.Tables.{fact_at, Flows, Closed, Below, Agree, Smallest, known, marked}
use Rattle.facts.specs.Theorems.{Passes, SmallestLaws, Lasting, SameMarked}
use Rattle.facts.proofs.Carries.{carry_bottom, carry_mono}
use Rattle.facts.proofs.Summaries.{summary_mono}

module _ {F : Type 0} {k : Kind F} (laws : Laws k) where
  is_bottom : (x : F) → Covers k k.bottom x → x ≡ k.bottom
  is_bottom x h = laws.order.antisymmetric _ _ (laws.order.lowest x) h

  pub unknown_bottom : (x : F) → known k x ≡ false → x ≡ k.bottom
  unknown_bottom x e = is_bottom x (not-false _ e)

  -- what covers something known is known
  pub known_above : (x y : F) → Covers k x y → known k y ≡ true → known k x ≡ true
  known_above x y h e = elim (cases_Bool (known k x)) [
    | inl t ↦ t
    | inr f ↦ absurd (both_ways _ (not-true _ e) (laws.order.transitive _ _ _ (not-false _ f) h))
  ]

  module _ (image : List ℕ) (start : ℕ) (given : F) (table : List F) (smallest : Smallest k image start given table) where
    agrees : (other : List F) → Smallest k image start given other → Agree k (length image) table other
    agrees other least a h = laws.order.antisymmetric _ _ (least.least table smallest.closed a h) (smallest.least other least.closed a h)

    -- the empty table is closed too
    no_facts : (start < length image → given ≡ k.bottom) → Closed k image start given []
    no_facts none = record {
      begins = λ h. rw (none h) (laws.order.reflexive _);
      flows = λ a edge i b step. rw (carry_bottom laws edge i _) (laws.order.lowest _);
    }

    nothing_flows :
        (start < length image → given ≡ k.bottom)
        → (a : ℕ)
        → a < length image
        → fact_at k table a ≡ k.bottom
    nothing_flows none a h = is_bottom _ (smallest.least [] (no_facts none) a h)

    -- the table without the facts where the test fails
    module _ (test : ℕ → Bool) where
      tested : ℕ → F
      tested a = cond (test a) (fact_at k table a) k.bottom

      sifted : List F
      unfolding tested
      sifted = map tested (range_with_len 0 (length image))

      at_sifted : (a : ℕ) → a < length image → fact_at k sifted a ≡ cond (test a) (fact_at k table a) k.bottom
      unfolding sifted tested
      at_sifted a h = get_or-map-range_with_len tested 0 (length image) a a k.bottom h (omega arith)

      sifted_true : (a : ℕ) → a < length image → test a ≡ true → fact_at k sifted a ≡ fact_at k table a
      sifted_true a h t = at_sifted a h ∙ ap (λ b. cond b (fact_at k table a) k.bottom) t

      sifted_false : (a : ℕ) → a < length image → test a ≡ false → fact_at k sifted a ≡ k.bottom
      sifted_false a h f = at_sifted a h ∙ ap (λ b. cond b (fact_at k table a) k.bottom) f

      sifted_below : Below k (length image) sifted table
      sifted_below a h = elim (cases_Bool (test a)) [
        | inl t ↦ rw (sifted_true a h t) (laws.order.reflexive _)
        | inr f ↦ rw (sifted_false a h f) (laws.order.lowest _)
      ]

      sifted_flows : Passes k image table test → Flows k image sifted
      sifted_flows passes a edge i b step = elim (cases_Bool (test a)) [
        | inr f ↦ rw (sifted_false a step.from f, carry_bottom laws edge i _) (laws.order.lowest _)
        | inl t ↦ rw (sifted_true a step.from t) (elim (cases_Bool (marked k table a)) [
          | inr n ↦ rw (unknown_bottom _ n, carry_bottom laws edge i _) (laws.order.lowest _)
          | inl m ↦ rw (sifted_true b step.to (passes edge a i b step m t)) (laws.order.transitive _ _ _ (smallest.closed.flows a edge i b step) (carry_mono laws edge i _ _ _ (summary_mono laws image sifted table sifted_below)))
        ])
      ]

      by_induction :
          (start < length image → test start ≡ true)
          → Passes k image table test
          → (a : ℕ)
          → a < length image
          → marked k table a ≡ true
          → test a ≡ true
      by_induction begins passes a h m = elim (cases_Bool (test a)) [
        | inl t ↦ t
        | inr f ↦ absurd (both_ways _ (not-true _ m) (subst (λ x. Covers k x (fact_at k table a)) (sifted_false a h f) (smallest.least sifted closed a h)))
      ]
        where
          closed : Closed k image start given sifted
          closed = record { begins = λ l. rw (sifted_true start l (begins l)) (smallest.closed.begins l); flows = sifted_flows passes }

  pub smallest_laws : SmallestLaws k
  smallest_laws = record {
    unique = λ image start given table other p q. agrees image start given table p other q;
    nothing = nothing_flows;
    induction = by_induction;
  }

-- where one kind knows something, so does the other, if what is known there lasts
marked_too :
    {F G : Type 0} {k : Kind F} {l : Kind G} (laws : Laws k) (laws' : Laws l)
    → Lasting l
    → (image : List ℕ) (start : ℕ) (given : F) (given' : G) (table : List F) (table' : List G)
    → Smallest k image start given table
    → Smallest l image start given' table'
    → known l given' ≡ true
    → (a : ℕ)
    → a < length image
    → marked k table a ≡ true
    → marked l table' a ≡ true
marked_too {k = k} {l = l} laws laws' lasting image start given given' table table' small small' some =
    (smallest_laws laws).induction image start given table small (λ a. marked l table' a)
    (λ h. known_above laws' _ _ (small'.closed.begins h) some)
    (λ edge a i b step m t. known_above laws' _ _ (small'.closed.flows a edge i b step) (lasting image table' edge i a step.from t))

bottom_unmarked : {F : Type 0} {k : Kind F} (laws : Laws k) (x : F) → x ≡ k.bottom → known k x ≡ false
bottom_unmarked {k = k} laws x e = rw e (not_from_true _ (laws.order.reflexive k.bottom))

pub same_marked : {F G : Type 0} {k : Kind F} {l : Kind G} → Laws k → Laws l → Lasting k → Lasting l → SameMarked k l
same_marked {k = k} {l = l} laws laws' lasting lasting' image start given given' table table' small small' same a h = elim (cases_Bool (known k given)) [
  | inl t ↦ same_from_decides {P = marked l table' a ≡ true} _ _
      (marked_too laws laws' lasting' image start given given' table table' small small' (sym same ∙ t) a h, marked_too laws' laws lasting image start given' given table' table small' small t a h)
      (λ e. e, λ e. e)
  | inr f ↦
      bottom_unmarked laws _ ((smallest_laws laws).nothing image start given table small (λ _. unknown_bottom laws given f) a h) ∙
      sym (bottom_unmarked laws' _ ((smallest_laws laws').nothing image start given' table' small' (λ _. unknown_bottom laws' given' (sym same ∙ f)) a h))
]
