-- PIGEONHOLE: of n + 1 places with n values, two have the same. Assumes nothing.
use Rattle.std.specs.Prelude.{◌≡◌, refl, Bool, true, false, cond}
use Rattle.std.proofs.Common.{ap, subst, eqb-true, eqb→eq}
use Rattle.std.proofs.Math.Option.{Option, none, some}
use Prim.Native.Nat.{ℕ, zero, suc, ◌≤◌, ◌<◌}
use native.Mathlib.Omega.{arith}
use Rattle.std.proofs.lemmas.Bool.{eqb-false}
use Rattle.std.proofs.Math.Dec.{T, T_not, eqb, eqb_refl}
use Rattle.base_causes.specs.Meaning.Causes.{first_below}
use Rattle.base_causes.proofs.Promised.CauseLaws.{first-is, not-below}

-- two of the places 0 to n have the same
pub record Same (n : ℕ) (f : ℕ → ℕ) : Type 0 where
  pub first : ℕ
  pub second : ℕ
  pub in_order : first < second
  pub second-in : second ≤ n
  pub same : f first ≡ f second

-- the value n is replaced by the last value
squeezed : ℕ → ℕ → ℕ → ℕ
squeezed n last v = cond (eqb v n) last v

-- a value is n and is replaced by the last, or it is not and stays
data Squeezed (n last v : ℕ) : Type 0 where
  is-n : v ≡ n → squeezed n last v ≡ last → Squeezed n last v
  other : (v ≡ n → ⊥) → squeezed n last v ≡ v → Squeezed n last v

squeeze : (n last v : ℕ) → Squeezed n last v
unfolding squeezed
squeeze n last v = by (eqb v n) refl
  where
    by : (b : Bool) → eqb v n ≡ b → Squeezed n last v
    by true e = is-n (eqb-true v n e) (ap (λ (x : Bool). cond x last v) e)
    by false e = other (eqb-false v n e) (ap (λ (x : Bool). cond x last v) e)

module _ (n : ℕ) (f : ℕ → ℕ) (h : (i : ℕ) → i ≤ suc n → f i < suc n) where
  g : ℕ → ℕ
  g i = squeezed n (f (suc n)) (f i)

  Unlike : Type 0
  Unlike = (i : ℕ) → i ≤ n → f i ≡ f (suc n) → ⊥

  below : Unlike → (i : ℕ) → i ≤ n → g i < n
  unfolding g Unlike
  below u i l = by (squeeze n (f (suc n)) (f i)) (h i (omega arith)) (h (suc n) (omega arith)) (u i l)
    where
      by : Squeezed n (f (suc n)) (f i) → f i < suc n → f (suc n) < suc n → (f i ≡ f (suc n) → ⊥) → g i < n
      by (is-n e q) a b d = omega arith
      by (other e q) a b d = omega arith

  back : Unlike → Same n g → Same (suc n) f
  unfolding g Unlike
  back u s = record {
    first = s.first;
    second = s.second;
    in_order = s.in_order;
    second-in = omega (arith, s.second-in);
    same = by (squeeze n (f (suc n)) (f s.first)) (squeeze n (f (suc n)) (f s.second)) s.same (u s.first (omega (arith, s.in_order, s.second-in))) (u s.second s.second-in);
  }
    where
      by : {p q : ℕ} → Squeezed n (f (suc n)) (f p) → Squeezed n (f (suc n)) (f q) → g p ≡ g q → (f p ≡ f (suc n) → ⊥) → (f q ≡ f (suc n) → ⊥) → f p ≡ f q
      by (is-n a b) (is-n c d) e u v = omega arith
      by (is-n a b) (other c d) e u v = absurd (v (omega arith))
      by (other a b) (is-n c d) e u v = absurd (u (omega arith))
      by (other a b) (other c d) e u v = omega arith

  unlike-of : first_below (suc n) (λ i. eqb (f i) (f (suc n))) ≡ none → Unlike
  unfolding Unlike
  unlike-of e i l q = T_not (eqb (f i) (f (suc n))) (not-below (suc n) (λ i. eqb (f i) (f (suc n))) e i (omega arith)) (subst (λ (v : ℕ). T (eqb (f i) v)) q (eqb_refl (f i)))

  step : ((g : ℕ → ℕ) → ((i : ℕ) → i ≤ n → g i < n) → Same n g) → (o : Option ℕ) → first_below (suc n) (λ i. eqb (f i) (f (suc n))) ≡ o → Same (suc n) f
  step ih (some k) e =
      let w = first-is (suc n) (λ i. eqb (f i) (f (suc n))) k e in
      record { first = k; second = suc n; in_order = w.place_in; second-in = omega arith; same = eqb→eq (f k) (f (suc n)) w.holds }
  step ih none e = let u = unlike-of e in back u (ih g (below u))

pub pigeonhole : (n : ℕ) (f : ℕ → ℕ) → ((i : ℕ) → i ≤ n → f i < n) → Same n f
pigeonhole zero f h = absurd (none-less (f 0) (h 0 (omega arith)))
  where
    none-less : (k : ℕ) → k < zero → ⊥
    none-less k l = omega arith
pigeonhole (suc n) f h = step n f h (λ g b. pigeonhole n g b) (first_below (suc n) (λ i. eqb (f i) (f (suc n)))) refl
