-- How needs rise: they keep below every list that is enough, and what is enough when they rise no more. Assumes nothing.
use Rattle.std.proofs.Common.{◌≡◌, ℕ, ◌<◌, ◌≤◌, max, Bool, true, false, ◌||◌, leb, List, map, length, get_or, set, Some, sym, refl, ap, ◌∙◌, subst, inl, inr, arith, get_or-set_other}
use Rattle.std.proofs.lemmas.List.{get_or_default, length-map}
use Rattle.std.proofs.lemmas.Bool.{cases_eq, cases_lt, both_ways, le-leb, leb-true, lt-leb, true≢false}
use Rattle.facts.specs.Laws.{Laws}
use Rattle.facts.specs.Tables.{Below}
use Rattle.facts.proofs.Growth.{raised, grows_more}
use Rattle.inspection.specs.Needing.{needing, Enough, Allowed, Asks, Lifts, Settled}

pub needing_laws : Laws needing
needing_laws = record {
  order = record {
    reflexive = λ x. le-leb x x (omega arith);
    transitive = λ x y z p q. le-leb z x (omega (arith, leb-true y x p, leb-true z y q));
    antisymmetric = λ x y p q. omega (arith, leb-true y x p, leb-true x y q);
    lowest = λ x. le-leb 0 x (omega arith);
  };
  joins = record {
    left = λ x y. le-leb x (max x y) (omega arith);
    right = λ x y. le-leb y (max x y) (omega arith);
    least = λ x y z p q. le-leb (max x y) z (omega (arith, leb-true x z p, leb-true y z q));
    rises = λ x y. elim (cases_lt x y) [ inl h ↦ inr (omega arith) | inr h ↦ inl (omega arith) ];
  };
  strict = record { past = λ i. refl; enter = refl; resume = λ s. refl };
  monotone = record { past = λ i x y h. h; enter = λ x y h. h; resume = λ s t x y g h. h };
}

module _ (image : List ℕ) (marked : ℕ → Bool) where
  pub lifts_more : {a b c : List ℕ} {p q : Bool} → Lifts image marked a b p → Lifts image marked b c q → Lifts image marked a c (p || q)
  lifts_more g h = record { grows = grows_more needing_laws g.grows h.grows; blank = λ x e. h.blank x e ∙ g.blank x e }

  -- what is asked at a marked address is put there
  module _ (need : List ℕ) (at r : ℕ) (long : length need ≡ length image) (inside : at < length image) (mark : marked at ≡ true) (asks : Asks image need at r) (more : get_or need at 0 < r) (few : r ≤ 1000) where
    asked_below : (other : List ℕ) → Allowed image marked other → Below needing (length need) need other → leb r (get_or other at 0) ≡ true
    asked_below other allowed under = le-leb r _ (asks.least (get_or other at 0) (λ edge i b step. omega (arith, allowed at mark edge i b step, leb-true (get_or need b 0) (get_or other b 0) (under b (bound b step.to)))))
      where
        bound : (b : ℕ) → b < length image → b < length need
        bound b h = omega arith

    pub lifts_set : Lifts image marked need (set need at r) true
    lifts_set =
        let flags : List Bool = map (λ n. false) need in
        let all = raised needing_laws need at r (get_or need at 0) r (omega arith) (get_or_default need at 0 (get_or need at 0) (omega arith)) (omega arith) (Some at) flags refl (length-map need (λ n. false)) (lt-leb r (get_or need at 0) more) few in
        record {
          grows = record {
            long = all.grows.long;
            larger = all.grows.larger;
            fell = all.grows.fell;
            above = λ other allowed under. all.grows.above other (λ b e. let same : at ≡ b = cc in subst (λ n. leb r (get_or other n 0) ≡ true) same (asked_below other allowed under)) under;
          };
          blank = λ a e. elim (cases_eq a at) [
            | inl same ↦ absurd (both_ways (marked at) (ap marked (sym same) ∙ e) mark)
            | inr other ↦ get_or-set_other need at a r 0 other
          ];
        }

  pub still : {before after : List ℕ} (changed : Bool) → Lifts image marked before after changed → changed ≡ false → after ≡ before
  still true lifts e = absurd (true≢false e)
  still false lifts e = lifts.grows.fell

  pub settles :
      {before after : List ℕ} {p : Bool}
      → ((a : ℕ) → get_or before a 0 ≡ 0)
      → length before ≡ length image
      → Lifts image marked before after p
      → ((a : ℕ) → a < length image → Enough image marked after a)
      → Settled image marked after
  settles {before} {after} zeros long lifts enough = record {
    enough = enough;
    least = λ other allowed a inside. leb-true (get_or after a 0) (get_or other a 0) (lifts.grows.above other allowed (λ b h. le-leb (get_or before b 0) (get_or other b 0) (omega (arith, zeros b))) a (omega arith));
    blank = λ a e. lifts.blank a e ∙ zeros a;
  }
