-- STEPS UP: where they lead. A circle over n orders has at most n steps, since two of the n + 1 orders after 0, 1,
-- .., n steps are the same. Assumes nothing.
use Rattle.std.specs.Prelude.{◌≡◌}
use Rattle.std.proofs.Math.Path.{refl, sym, ap}
use Rattle.std.proofs.Common.{◌∙◌, add-zero, add-suc, mul-zero, mul-suc, mul-le-mul_right}
use Rattle.std.proofs.Math.Option.{Option, none, some, none-ne-some, some-injective}
use Prim.Native.Nat.{ℕ, zero, suc, ◌+◌, ◌*◌, ◌-◌, ◌≤◌, ◌<◌}
use native.Mathlib.Omega.{arith}
use Rattle.rules.specs.Meaning.Families.{onward, ancestor, LeadsBack}
use Rattle.family_list.specs.Meaning.Parents.{Exist}
use Rattle.family_list.proofs.Steps.Pigeonhole.{pigeonhole}

module _ (parent : ℕ → Option ℕ) where
  -- where the last step came from
  last_step : (o : Option ℕ) {j : ℕ} → onward parent o ≡ some j → (m : ℕ) × (o ≡ some m) × (parent m ≡ some j)
  last_step none {j} e = absurd (none-ne-some j e)
  last_step (some m) e = (m, refl, e)

  -- a steps and then b more
  pub ancestor-add : (a b i : ℕ) {j : ℕ} → ancestor parent a i ≡ some j → ancestor parent (a + b) i ≡ ancestor parent b j
  unfolding ancestor
  ancestor-add a zero i e = rw (add-zero a) e
  ancestor-add a (suc b) i e = rw (add-suc a b) (ap (onward parent) (ancestor-add a b i e))

  -- fewer steps lead to an order too
  pub earlier : (a b i : ℕ) {j : ℕ} → ancestor parent (a + b) i ≡ some j → (m : ℕ) × (ancestor parent a i ≡ some m)
  unfolding ancestor
  earlier a zero i {j} e = (j, rw (add-zero a) at e)
  earlier a (suc b) i e = let w = last_step (ancestor parent (a + b) i) (rw (add-suc a b) at e) in earlier a b i w.1

  pub stays-in : {n : ℕ} → Exist n parent → (k : ℕ) {i j : ℕ} → i < n → ancestor parent k i ≡ some j → j < n
  unfolding ancestor
  stays-in x zero {i} {j} h e = omega (arith, some-injective i j e)
  stays-in x (suc k) {i} {j} h e = let w = last_step (ancestor parent k i) e in x.exists w.0 j (stays-in x k h w.1) w.2

  pub has-parent : {i : ℕ} → LeadsBack parent i → (k : ℕ) × (parent i ≡ some k)
  unfolding ancestor
  has-parent {i} b = let q : 1 + (b.steps - 1) ≡ b.steps = omega (arith, b.one-or-more) in earlier 1 (b.steps - 1) i (ap (λ (s : ℕ). ancestor parent s i) q ∙ b.back)

  -- any number of rounds
  pub rounds : (k : ℕ) {i : ℕ} → ancestor parent k i ≡ some i → (m : ℕ) → ancestor parent (k * m) i ≡ some i
  unfolding ancestor
  rounds k e zero = rw (mul-zero k) refl
  rounds k {i} e (suc m) = rw (mul-suc k m) (ancestor-add (k * m) k i (rounds k e m) ∙ e)

  -- the order after k steps, if there is one
  value_of : Option ℕ → ℕ
  value_of none = 0
  value_of (some j) = j

  -- n steps over n orders pass one order twice
  pub record Twice (n i : ℕ) : Type 0 where
    pub first : ℕ
    pub between : ℕ
    pub one-or-more : 1 ≤ between
    pub within : first + between ≤ n
    pub place : ℕ
    pub at_first : ancestor parent first i ≡ some place
    pub again : ancestor parent between place ≡ some place

  pub twice : {n : ℕ} → Exist n parent → {i j : ℕ} → i < n → ancestor parent n i ≡ some j → Twice n i
  unfolding value_of
  twice {n} x {i} {j} h e =
      let s = pigeonhole n (λ k. value_of (ancestor parent k i)) inside in
      let a = passed s.first (omega (arith, s.in_order, s.second-in)) in
      let b = passed s.second s.second-in in
      let gap : s.first + (s.second - s.first) ≡ s.second = omega (arith, s.in_order) in
      let same : b.0 ≡ a.0 = sym (ap value_of b.1) ∙ sym s.same ∙ ap value_of a.1 in
      record {
        first = s.first;
        between = s.second - s.first;
        one-or-more = omega (arith, s.in_order);
        within = omega (arith, s.in_order, s.second-in);
        place = a.0;
        at_first = a.1;
        again = sym (ancestor-add s.first (s.second - s.first) i a.1) ∙ ap (λ (k : ℕ). ancestor parent k i) gap ∙ b.1 ∙ ap some same;
      }
    where
      passed : (k : ℕ) → k ≤ n → (m : ℕ) × (ancestor parent k i ≡ some m)
      passed k l = let q : k + (n - k) ≡ n = omega arith in earlier k (n - k) i (ap (λ (m : ℕ). ancestor parent m i) q ∙ e)

      inside : (k : ℕ) → k ≤ n → value_of (ancestor parent k i) < n
      inside k l = let w = passed k l in omega (arith, ap value_of w.1, stays-in x k h w.1)

  -- A CIRCLE OVER n ORDERS HAS AT MOST n STEPS
  pub short : {n : ℕ} → Exist n parent → {i : ℕ} → i < n → LeadsBack parent i → (k : ℕ) × (k < n) × (ancestor parent (suc k) i ≡ some i)
  short {n} x {i} h b = (t.between - 1, omega (arith, t.one-or-more, t.within), ap (λ (k : ℕ). ancestor parent k i) one_less ∙ round)
    where
      k : ℕ
      k = b.steps

      at_least : (m : ℕ) → m ≤ k * m
      at_least m = omega (arith, mul-le-mul_right {m = 1} {n = k} m b.one-or-more)

      -- m steps, and the rest of m rounds
      rest : (m : ℕ) → ancestor parent (m + (k * m - m)) i ≡ some i
      rest m = let q : m + (k * m - m) ≡ k * m = omega (arith, at_least m) in ap (λ (l : ℕ). ancestor parent l i) q ∙ rounds k b.back m

      t : Twice n i
      t = twice x h (earlier n (k * n - n) i (rest n)).1

      r : ℕ
      r = k * t.first - t.first

      -- from the place back to i, and once more around to the place before
      on : ancestor parent r t.place ≡ some i
      on = sym (ancestor-add t.first r i t.at_first) ∙ rest t.first

      swap : r + t.between ≡ t.between + r
      swap = omega arith

      round : ancestor parent t.between i ≡ some i
      round = sym (ancestor-add r t.between t.place on) ∙ ap (λ (l : ℕ). ancestor parent l t.place) swap ∙ ancestor-add t.between r t.place t.again ∙ on

      one_less : suc (t.between - 1) ≡ t.between
      one_less = omega (arith, t.one-or-more)
