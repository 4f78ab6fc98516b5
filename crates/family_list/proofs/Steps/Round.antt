-- ONCE AROUND: the least order on a circle, found by a walk from an order that leads back to itself until the walk
-- is back there. Assumes nothing.
use Rattle.std.specs.Prelude.{◌≡◌, refl}
use Rattle.std.proofs.Math.Path.{sym, ap}
use Rattle.std.proofs.Common.{◌∙◌, add-one, subst}
use Rattle.std.proofs.Math.Option.{Option, some, some-injective}
use Prim.Native.Nat.{ℕ, zero, suc, ◌+◌, ◌-◌, ◌≤◌, ◌<◌, min}
use Rattle.std.proofs.Math.Decide.{dec_lt}
use native.Mathlib.Omega.{arith}
use Rattle.rules.specs.Meaning.Families.{onward, ancestor, LeadsBack}
use Rattle.family_list.specs.Meaning.Parents.{Exist}
use Rattle.family_list.proofs.Steps.Ancestors.{ancestor-add, earlier, stays-in, short}
use Rattle.family_list.specs.Steps.Round.{Least, Round}

-- the lesser of two is one of them
pub min-one : (a b : ℕ) (P : ℕ → Type 0) → P a → P b → P (min a b)
min-one a b P p q = elim (dec_lt b a) [ yes h ↦ let e : b ≡ min a b = omega arith in subst P e q | no h ↦ let e : a ≡ min a b = omega arith in subst P e p ]

module _ (parent : ℕ → Option ℕ) {n : ℕ} (x : Exist n parent) {tip : ℕ} (h : tip < n) where
  -- the first step
  pub round-starts : LeadsBack parent tip → (at : ℕ) × (parent tip ≡ some at) × Round parent n tip 1 at tip
  unfolding ancestor
  round-starts b =
      let c = short parent x h b in
      let q : 1 + c.0 ≡ suc c.0 = omega arith in
      let first = earlier parent 1 c.0 tip (ap (λ (s : ℕ). ancestor parent s tip) q ∙ c.2) in (
        first.0,
        first.1,
        record {
          whole = suc c.0;
          whole_in = omega (arith, c.1);
          circle = c.2;
          one-or-more = omega arith;
          within = omega arith;
          there = first.1;
          passed = λ s k l e. only s k l e;
          place = 0;
          is = refl;
        },
      )
    where
      only : (s k : ℕ) → s < 1 → ancestor parent s tip ≡ some k → tip ≤ k
      only zero k l e = omega (arith, some-injective tip k e)
      only (suc s) k l e = absurd (omega arith)

  module _ {steps at least : ℕ} (r : Round parent n tip steps at least) where
    pub at_in : at < n
    at_in = stays-in parent x steps h r.there

    -- a walk that is not back yet has steps to go
    pub not_round : (at ≡ tip → ⊥) → steps < r.whole
    not_round d = elim (dec_lt steps r.whole) [ yes l ↦ l | no g ↦ absurd (d (back (omega (arith, r.within)))) ]
      where
        back : steps ≡ r.whole → at ≡ tip
        back e = some-injective at tip (sym r.there ∙ ap (λ (s : ℕ). ancestor parent s tip) e ∙ r.circle)

    pub round-goes-on : (at ≡ tip → ⊥) → (k : ℕ) × (parent at ≡ some k) × Round parent n tip (steps + 1) k (min least at)
    unfolding ancestor
    round-goes-on d =
        let l = not_round d in
        let q : suc steps + (r.whole - suc steps) ≡ r.whole = omega arith in
        let next = earlier parent (suc steps) (r.whole - suc steps) tip (ap (λ (s : ℕ). ancestor parent s tip) q ∙ r.circle) in (
          next.0,
          sym (ap (onward parent) r.there) ∙ next.1,
          record {
            whole = r.whole;
            whole_in = r.whole_in;
            circle = r.circle;
            one-or-more = omega arith;
            within = omega arith;
            there = ap (λ (s : ℕ). ancestor parent s tip) (add-one steps) ∙ next.1;
            passed = λ s k m e. elim (dec_lt s steps) [ yes b ↦ omega (arith, r.passed s k b e) | no g ↦ last s k (omega arith) e ];
            place = chosen.0;
            is = chosen.1;
          },
        )
      where
        last : (s k : ℕ) → s ≡ steps → ancestor parent s tip ≡ some k → min least at ≤ k
        last s k q e = omega (arith, some-injective at k (sym r.there ∙ ap (λ (m : ℕ). ancestor parent m tip) (sym q) ∙ e))

        chosen : (s : ℕ) × (ancestor parent s tip ≡ some (min least at))
        chosen = min-one least at (λ (k : ℕ). (s : ℕ) × (ancestor parent s tip ≡ some k)) (r.place, r.is) (steps, r.there)

  -- back at tip
  pub round-ends : {steps at least : ℕ} → Round parent n tip steps at least → at ≡ tip → (i : ℕ) → Least parent n i tip least
  round-ends {steps} {at} {least} r e i = record {
    inside = stays-in parent x r.place h r.is;
    back = record { steps = steps; one-or-more = r.one-or-more; back = sym (ancestor-add parent r.place steps tip r.is) ∙ ap (λ (s : ℕ). ancestor parent s tip) swap ∙ ancestor-add parent steps r.place tip again ∙ r.is };
    no_less = λ s k q l. all s s k (omega arith) q;
  }
    where
      again : ancestor parent steps tip ≡ some tip
      again = r.there ∙ ap some e

      swap : r.place + steps ≡ steps + r.place
      swap = omega arith

      all : (fuel s k : ℕ) → s ≤ fuel → ancestor parent s tip ≡ some k → least ≤ k
      all zero s k l q = r.passed s k (omega (arith, r.one-or-more)) q
      all (suc fuel) s k l q = elim (dec_lt s steps) [
        | yes b ↦ r.passed s k b q
        | no g ↦ let m : steps + (s - steps) ≡ s = omega arith in
            all fuel (s - steps) k (omega (arith, r.one-or-more)) (sym (ancestor-add parent steps (s - steps) tip again) ∙ ap (λ (s : ℕ). ancestor parent s tip) m ∙ q)
      ]

  -- where the walk came back to its first order, this is the least from there on
  pub itself : LeadsBack parent tip → Least parent n tip tip tip
  itself b = record { inside = h; back = b; no_less = λ s k q l. l }
