-- What one raise does to a table, and what steps in a row do. Assumes nothing.
use Rattle.std.proofs.Common.{◌≡◌, ℕ, zero, suc, ◌+◌, ◌-◌, ◌<◌, ◌≤◌, Bool, true, false, ◌||◌, List, [], ◌∷◌, length, get_or, set, Some, MatchBool, Option, sym, refl, ◌∙◌, subst, inl, inr, arith, length-set, get_or-set_other, get_or-set_same}
use Rattle.std.proofs.lemmas.List.{get_or_read}
use Rattle.std.proofs.lemmas.Bool.{cases_eq, both_ways, or_parts, true≢false}
use Rattle.facts.specs.Kinds.{Kind, Covers}
use Rattle.facts.specs.Laws.{Laws}
use Rattle.facts.specs.Progress.{room, Grows, Noted, Raises, CoversAt}
use Rattle.facts.specs.Tables.{fact_at, Below}

pub room_set :
    {F : Type 0} (k : Kind F) (table : List F) (b : ℕ) (y d : F)
    → b < length table
    → room k (set table b y) + (1000 - k.rank (get_or table b d)) ≡ room k table + (1000 - k.rank y)
room_set k [] b y d h = absurd (omega arith)
room_set k (x ∷ table) zero y d h = omega arith
room_set k (x ∷ table) (suc b) y d h = omega (arith, room_set k table b y d (omega arith))

module _ {F : Type 0} {k : Kind F} (laws : Laws k) where
  pub grows_none : (Sort : List F → Type 0) (table : List F) → Grows k Sort table table false
  grows_none Sort table = record {
    long = refl;
    larger = λ a. laws.order.reflexive (fact_at k table a);
    fell = refl;
    above = λ other sort h. h;
  }

  pub grows_for :
      {S T : List F → Type 0} {before after : List F} {changed : Bool}
      → ((other : List F) → T other → S other)
      → Grows k S before after changed
      → Grows k T before after changed
  grows_for f g = record { long = g.long; larger = g.larger; fell = g.fell; above = λ other sort. g.above other (f other sort) }

  fell_more :
      (p q : Bool) (a b c : List F)
      → MatchBool p (room k b < room k a) (b ≡ a)
      → MatchBool q (room k c < room k b) (c ≡ b)
      → MatchBool (p || q) (room k c < room k a) (c ≡ a)
  fell_more true true a b c h l = omega arith
  fell_more true false a b c h l = rw l h
  fell_more false true a b c h l = rw h at l
  fell_more false false a b c h l = l ∙ h

  pub grows_more :
      {S : List F → Type 0} {a b c : List F} {p q : Bool}
      → Grows k S a b p
      → Grows k S b c q
      → Grows k S a c (p || q)
  grows_more {S} {a} {b} {c} {p} {q} g h = record {
    long = h.long ∙ g.long;
    larger = λ x. laws.order.transitive _ _ _ (h.larger x) (g.larger x);
    fell = fell_more p q a b c g.fell h.fell;
    above = λ other sort under. subst (λ n. Below k n c other) g.long (h.above other sort (subst (λ n. Below k n b other) (sym g.long) (g.above other sort under)));
  }

  pub noted_none : (table : List F) (flags : List Bool) → Noted k table flags table flags false
  noted_none table flags = record { long = refl; each = λ a. inr (refl, refl); still = λ e. refl }

  pub noted_more :
      {a b c : List F} {u v w : List Bool} {p q : Bool}
      → Noted k a u b v p
      → Noted k b v c w q
      → Noted k a u c w (p || q)
  noted_more {p = p} {q = q} g h = record {
    long = h.long ∙ g.long;
    each = λ x. elim (h.each x) [
      | inl e ↦ inl e
      | inr e ↦ elim (g.each x) [ inl f ↦ inl (e.1 ∙ f) | inr f ↦ inr (e.0 ∙ f.0, e.1 ∙ f.1) ]
    ];
    still = λ e. let o = or_parts p q e in h.still o.1 ∙ g.still o.0;
  }

  -- the fact x at an address of the table is joined with one that it does not cover
  module _ (table : List F) (b : ℕ) (fact x joined : F) (inside : b < length table) (read : x ≡ get_or table b x) (is : joined ≡ k.join x fact) where
    set_here : fact_at k (set table b joined) b ≡ k.join x fact
    set_here = get_or-set_same table b joined k.bottom inside ∙ is

    held : x ≡ fact_at k table b
    held = get_or_read table b x inside read k.bottom

    set_larger : (a : ℕ) → Covers k (fact_at k (set table b joined) a) (fact_at k table a)
    set_larger a = elim (cases_eq a b) [
      | inl e ↦ rw (e, set_here, ← held) (laws.joins.left x fact)
      | inr n ↦ rw (get_or-set_other table b a joined k.bottom n) (laws.order.reflexive (fact_at k table a))
    ]

    set_above :
        (other : List F)
        → Covers k (fact_at k other b) fact
        → Below k (length table) table other
        → Below k (length table) (set table b joined) other
    set_above other bound under a h = elim (cases_eq a b) [
      | inl e ↦ rw (e, set_here) (laws.joins.least _ _ _ (rw held (under b inside)) bound)
      | inr n ↦ rw (get_or-set_other table b a joined k.bottom n) (under a h)
    ]

    set_falls : k.covers x fact ≡ false → k.rank joined ≤ 1000 → room k (set table b joined) < room k table
    set_falls left bounded = elim (laws.joins.rises x fact) [
      | inl e ↦ absurd (both_ways _ left (subst (λ y. Covers k y fact) e (laws.joins.right x fact)))
      | inr h ↦ let m = rw (← read) at (room_set k table b joined x inside) in let l = rw (← is) at h in omega arith
    ]

    set_noted :
        (flags : List Bool)
        → b < length flags
        → Noted k table flags (set table b joined) (set flags b true) true
    set_noted flags h = record {
      long = length-set flags b true;
      each = λ a. elim (cases_eq a b) [
        | inl e ↦ inl (rw e (get_or-set_same flags b true false h))
        | inr n ↦ inr (get_or-set_other table b a joined k.bottom n, get_or-set_other flags b a true false n)
      ];
      still = λ e. absurd (true≢false e);
    }

    pub raised :
        (to : Option ℕ) (flags : List Bool)
        → to ≡ Some b
        → length flags ≡ length table
        → k.covers x fact ≡ false
        → k.rank joined ≤ 1000
        → Raises k (CoversAt k to fact) table flags (set table b joined) (set flags b true) true
    raised to flags some long left bounded = record {
      grows = record {
        long = length-set table b joined;
        larger = set_larger;
        fell = set_falls left bounded;
        above = λ other sort. set_above other (sort b some);
      };
      noted = set_noted flags (omega arith);
      reached = λ c e. let same : b ≡ c = cc in rw (← same, set_here) (laws.joins.right x fact);
    }

  -- two raises, where what the first reached is not lost by growth
  pub raises_more :
      {P Q : List F → Type 0} {a b c : List F} {u v w : List Bool} {p q : Bool}
      → ((x y : List F) → ((n : ℕ) → Covers k (fact_at k y n) (fact_at k x n)) → P x → P y)
      → Raises k P a u b v p
      → Raises k Q b v c w q
      → Raises k (λ t. P t × Q t) a u c w (p || q)
  raises_more {P} {Q} {a} {b} {c} keep g h = record {
    grows = grows_more (grows_for (λ other s. s.0) g.grows) (grows_for (λ other s. s.1) h.grows);
    noted = noted_more g.noted h.noted;
    reached = (keep b c h.grows.larger g.reached, h.reached);
  }
