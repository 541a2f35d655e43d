-- What one turn of a round keeps: facts without a flag are carried on. Assumes nothing.
use Rattle.std.proofs.Common.{◌≡◌, ℕ, ◌<◌, Bool, false, ◌||◌, List, [], ◌∷◌, ◌++◌, length, set, sym, ◌∙◌, subst, inl, inr, length-set, get_or-set_other, get_or-set_same}
use Rattle.std.proofs.lemmas.Bool.{cases_eq, both_ways}
use Rattle.std.proofs.lemmas.List.Elements.{Contains-push_cases}
use Rattle.std.specs.List.{Contains}
use Rattle.facts.specs.Kinds.{Kind, Covers}
use Rattle.facts.specs.Laws.{Laws}
use Rattle.facts.specs.Progress.{Noted, Spreads, Settled, Visits, flag_at}
use Rattle.facts.specs.Tables.{fact_at, Carried}
use Rattle.facts.proofs.Growth.{grows_more}

module _ {F : Type 0} {k : Kind F} (laws : Laws k) (image : List ℕ) (s : F) where
  -- facts that are the same, and were carried on, are carried on in a larger table
  still_carried :
      (before after : List F) (a : ℕ)
      → ((b : ℕ) → Covers k (fact_at k after b) (fact_at k before b))
      → fact_at k after a ≡ fact_at k before a
      → Carried k image s before a (fact_at k before a)
      → Carried k image s after a (fact_at k after a)
  still_carried before after a larger same h = rw same (λ edge i b step. laws.order.transitive _ _ _ (larger b) (h edge i b step))

  pub settled_noted :
      {before after : List F} {flags flags' : List Bool} {changed : Bool}
      → ((b : ℕ) → Covers k (fact_at k after b) (fact_at k before b))
      → Noted k before flags after flags' changed
      → Settled k image s before flags
      → Settled k image s after flags'
  settled_noted {before} {after} larger noted old a off = elim (noted.each a) [
    | inl e ↦ absurd (both_ways _ off e)
    | inr e ↦ still_carried before after a larger e.0 (old a (sym e.1 ∙ off))
  ]

  module _ (at : ℕ) (before after : List F) (flags flags' : List Bool) (changed : Bool) (spread : Spreads k image s at before (set flags at false) after flags' changed) where
    settled_spread : Settled k image s before flags → Settled k image s after flags'
    settled_spread old a off = elim (spread.noted.each a) [
      | inl e ↦ absurd (both_ways _ off e)
      | inr e ↦ elim (cases_eq a at) [
        | inl here ↦ subst (λ n. Carried k image s after n (fact_at k after n)) (sym here) (rw (subst (λ n. fact_at k after n ≡ fact_at k before n) here e.0) spread.carried)
        | inr n ↦ still_carried before after a spread.grows.larger e.0 (old a (sym (get_or-set_other flags at a false false n) ∙ sym e.1 ∙ off))
      ]
    ]

    pub visits_spread : Settled k image s before flags → Visits k image s before flags after flags' changed
    visits_spread old = record { grows = spread.grows; long = spread.noted.long ∙ length-set flags at false; settled = settled_spread old }

  pub visits_more :
      {a b c : List F} {u v w : List Bool} {p q : Bool}
      → Visits k image s a u b v p
      → Visits k image s b v c w q
      → Visits k image s a u c w (p || q)
  visits_more g h = record { grows = grows_more laws g.grows h.grows; long = h.long ∙ g.long; settled = h.settled }

-- one more of the given addresses without a flag
pub none_given :
    (flags : List Bool) (at : ℕ) (given : List ℕ)
    → at < length flags
    → ((a : ℕ) → Contains given a → flag_at flags a ≡ false)
    → (a : ℕ)
    → Contains (given ++ at ∷ []) a
    → flag_at (set flags at false) a ≡ false
none_given flags at given inside none a has = elim (cases_eq a at) [
  | inl e ↦ rw e (get_or-set_same flags at false false inside)
  | inr n ↦ elim (Contains-push_cases given at a has) [
    | inl before ↦ get_or-set_other flags at a false false n ∙ none a before
    | inr same ↦ absurd (n (sym same))
  ]
]
