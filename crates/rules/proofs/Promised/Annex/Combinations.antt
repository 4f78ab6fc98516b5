-- Appendix B of the Annex: the network constraints (63) to (72) allow every convex combination of the flow-based
-- domain and the LTA domain. With both weights positive they allow nothing else. Without LTA weight, as in every
-- hour without links (S-6), they allow only points of the flow-based domain. With the whole weight on the LTA
-- domain the Annex assumes that the PTDF constraints bound the positions; no theorem here says that nothing else is
-- allowed then. Assumes nothing.
use Rattle.std.specs.Prelude.{◌≡◌, refl, ℕ, zero, suc, ◌+◌, ◌*◌, ◌<◌, ℤ, negsuc, nat_abs, ◌+ℤ◌, ◌*ℤ◌, ◌≤ℤ◌, ◌<ℤ◌}
use Rattle.std.proofs.Common.{sym, ap, ◌∙◌, mul-le-mul_left, mul-pos, arith, ltb→lt}
use Rattle.std.proofs.Math.Decide.{dec_lt}
use Rattle.std.proofs.Math.IntN.{pos}
use Rattle.std.specs.Int.Signed.{yes_non_neg, pos-nat_abs}
use Rattle.base_integers.specs.Steps.Difference.{at, ◌⊕◌, ◌⊗◌, le-by, eq-by, le-fact, eq-fact}
use Rattle.base_integers.specs.Steps.Order.{scaled, times-nonneg}
use Rattle.base_integers.specs.Meaning.Sums.{sum_to}
use Rattle.base_integers.specs.Steps.Sums.{sum-ext, sum-scale-l}
use Rattle.base_limits.specs.Meaning.Limits.{parts_in_one}
use Rattle.rules.specs.Meaning.Hour.{Case}
use Rattle.rules.specs.Meaning.Annex.{Solution, Network, FBDomain, TwoPoints, Combines, capacity_lta, net_flow}
use Rattle.rules.proofs.Promised.Annex.CommercialFlows.{net-ext, net-zero, net-scale}

-- Σ_l ptdf_l z n_l = z Σ_l ptdf_l n_l
scaled-use : (n : ℕ) (z : ℤ) (ptdf netpos : ℕ → ℤ) → sum_to n (λ l. ptdf l *ℤ (z *ℤ netpos l)) ≡ z *ℤ sum_to n (λ l. ptdf l *ℤ netpos l)
scaled-use n z ptdf netpos = sum-ext n _ (λ l. z *ℤ (ptdf l *ℤ netpos l)) (λ l h. turned (ptdf l) z (netpos l)) ∙ sum-scale-l n (λ l. ptdf l *ℤ netpos l) z
  where
    turned : (a b e : ℤ) → a *ℤ (b *ℤ e) ≡ b *ℤ (a *ℤ e)
    turned a b e = eq-by (at a ⊗ (at b ⊗ at e)) (at b ⊗ (at a ⊗ at e)) (omega arith)

-- THE COMBINATION of two points, (87) to (90) and the substitution that follows them
unfoldable pub combination : (c : Case) → TwoPoints c → Solution
combination c y = record {
  den = (y.a1 + y.a2) * y.den;
  accepted = λ i. pos 0;
  netpos = λ l. pos y.a1 *ℤ y.netpos_fb l +ℤ pos y.a2 *ℤ y.netpos_lta l;
  netpos_fb = λ l. pos y.a1 *ℤ y.netpos_fb l;
  netpos_lta = λ l. pos y.a2 *ℤ y.netpos_lta l;
  flow = λ l k. pos y.a1 *ℤ y.flow_fb l k +ℤ pos y.a2 *ℤ y.flow_lta l k;
  flow_fb = λ l k. pos y.a1 *ℤ y.flow_fb l k;
  flow_lta = λ l k. pos y.a2 *ℤ y.flow_lta l k;
  alpha1 = pos (parts_in_one * (y.a1 * y.den));
  alpha2 = pos (parts_in_one * (y.a2 * y.den));
}

-- every convex combination is allowed
pub combines : (c : Case) (y : TwoPoints c) → Combines c y (combination c y)
unfolding combination
combines c y = record { netpos-is = λ l h. refl; flow-is = λ l k hl hk. refl }

pub allowed : (c : Case) (y : TwoPoints c) → Network c (combination c y)
unfolding combination
allowed c y = record {
  den-positive = mul-pos y.weights-positive y.den-positive;
  netpos-is = λ l h. refl;
  flow-is = λ l k hl hk. refl;
  alpha-sum = eq-by (at (pos (parts_in_one * (y.a1 * y.den))) ⊕ at (pos (parts_in_one * (y.a2 * y.den)))) (at (pos (parts_in_one * ((y.a1 + y.a2) * y.den)))) (omega arith);
  alpha-in = (le-by (at (pos 0)) (at (pos (parts_in_one * (y.a1 * y.den)))) (omega arith), le-by (at (pos 0)) (at (pos (parts_in_one * (y.a2 * y.den)))) (omega arith));
  no-LTA = λ e. unweighed y.a2 (λ w. (y.long-term w).some-link) e;
  branch = λ m h. rw (scaled-use c.zones (pos y.a1) (c.ptdf m) y.netpos_fb, ← regroup y.a1 y.den (c.ram m))
      (weighed-le y.a1 (sum_to c.zones (λ l. c.ptdf m l *ℤ y.netpos_fb l)) (pos (parts_in_one * y.den) *ℤ c.ram m) (λ w. (y.flow-based w).branch m h));
  netposFB-is = λ l h. weighed-eq y.a1 (y.netpos_fb l) (net_flow c.zones y.flow_fb l) (λ w. (y.flow-based w).netpos-is l h) ∙ sym (net-scale c.zones (pos y.a1) y.flow_fb l);
  flowFB-in = λ l k hl hk. weighed-in y.a1 (y.flow_fb l k) (λ w. (y.flow-based w).flow-in l k hl hk);
  link = λ l k hl hk. rw (← regroup y.a2 y.den (capacity_lta c l k)) (hundred-thousand (pos y.a2 *ℤ y.flow_lta l k) y.a2 y.den (capacity_lta c l k)
      (weighed-le y.a2 (y.flow_lta l k) (pos y.den *ℤ capacity_lta c l k) (λ w. (y.long-term w).link l k hl hk)));
  netposLTA-is = λ l h. weighed-eq y.a2 (y.netpos_lta l) (net_flow c.zones y.flow_lta l) (λ w. (y.long-term w).netpos-is l h) ∙ sym (net-scale c.zones (pos y.a2) y.flow_lta l);
  flowLTA-in = λ l k hl hk. weighed-in y.a2 (y.flow_lta l k) (λ w. (y.long-term w).flow-in l k hl hk);
}
  where
    -- without links there is no point of the LTA domain, and so no weight on it
    unweighed : (a : ℕ) → (0 < a → 0 < c.links) → c.links ≡ 0 → pos (parts_in_one * (a * y.den)) ≡ pos 0
    unweighed zero h e = eq-by (at (pos (parts_in_one * (0 * y.den)))) (at (pos 0)) (omega arith)
    unweighed (suc a) h e = absurd (omega (arith, h (omega arith)))

    -- an inequality that holds where its weight is positive holds after both sides are weighed
    weighed-le : (a : ℕ) (u v : ℤ) → (0 < a → u ≤ℤ v) → (pos a *ℤ u) ≤ℤ (pos a *ℤ v)
    weighed-le zero u v h = le-by (at (pos 0) ⊗ at u) (at (pos 0) ⊗ at v) (omega arith)
    weighed-le (suc a) u v h = scaled (suc a) (h (omega arith))

    weighed-eq : (a : ℕ) (u v : ℤ) → (0 < a → u ≡ v) → pos a *ℤ u ≡ pos a *ℤ v
    weighed-eq zero u v h = eq-by (at (pos 0) ⊗ at u) (at (pos 0) ⊗ at v) (omega arith)
    weighed-eq (suc a) u v h = ap (λ (z : ℤ). pos (suc a) *ℤ z) (h (omega arith))

    weighed-in : (a : ℕ) (u : ℤ) → (0 < a → pos 0 ≤ℤ u) → pos 0 ≤ℤ (pos a *ℤ u)
    weighed-in zero u h = le-by (at (pos 0)) (at (pos 0) ⊗ at u) (omega arith)
    weighed-in (suc a) u h = times-nonneg (suc a) (h (omega arith))

    regroup : (a d : ℕ) (r : ℤ) → pos a *ℤ (pos (parts_in_one * d) *ℤ r) ≡ pos (parts_in_one * (a * d)) *ℤ r
    regroup a d r = eq-by (at (pos a) ⊗ (at (pos (parts_in_one * d)) ⊗ at r)) (at (pos (parts_in_one * (a * d))) ⊗ at r) (omega arith)

    hundred-thousand : (f : ℤ) (a d : ℕ) (k : ℤ) → f ≤ℤ (pos a *ℤ (pos d *ℤ k)) → (pos parts_in_one *ℤ f) ≤ℤ (pos a *ℤ (pos (parts_in_one * d) *ℤ k))
    hundred-thousand f a d k h = le-by (at (pos parts_in_one) ⊗ at f) (at (pos a) ⊗ (at (pos (parts_in_one * d)) ⊗ at k)) (omega (arith, le-fact (at f) (at (pos a) ⊗ (at (pos d) ⊗ at k)) h))

-- WITH BOTH WEIGHTS POSITIVE nothing else is allowed
module _ (c : Case) (x : Solution) (nw : Network c x) (a b : ℕ) (is-a : pos a ≡ x.alpha1) (is_b : pos b ≡ x.alpha2) (a-positive : 0 < a) (b-positive : 0 < b) where
  whole : a + b ≡ parts_in_one * x.den
  whole = omega (arith, eq-fact (at (pos a) ⊕ at (pos b)) (at (pos (parts_in_one * x.den))) (cc (is-a, is_b, nw.alpha-sum)))

  linked : 0 < c.links
  linked = elim (dec_lt 0 c.links) [ yes h ↦ h | no g ↦ absurd (weightless (is_b ∙ nw.no-LTA (omega arith))) ]
    where
      weightless : pos b ≡ pos 0 → ⊥
      weightless e = omega (arith, eq-fact (at (pos b)) (at (pos 0)) e)

  points : TwoPoints c
  points = record {
    den = a * b;
    netpos_fb = λ l. pos (parts_in_one * b) *ℤ x.netpos_fb l;
    flow_fb = λ l k. pos (parts_in_one * b) *ℤ x.flow_fb l k;
    netpos_lta = λ l. pos (parts_in_one * a) *ℤ x.netpos_lta l;
    flow_lta = λ l k. pos (parts_in_one * a) *ℤ x.flow_lta l k;
    a1 = a;
    a2 = b;
    den-positive = mul-pos a-positive b-positive;
    weights-positive = omega arith;
    flow-based = λ w. record {
      branch = λ m h. rw (scaled-use c.zones (pos (parts_in_one * b)) (c.ptdf m) x.netpos_fb) (branch-le (sum_to c.zones (λ l. c.ptdf m l *ℤ x.netpos_fb l)) (c.ram m) (rw (← is-a) at (nw.branch m h)));
      netpos-is = λ l h. ap (λ (z : ℤ). pos (parts_in_one * b) *ℤ z) (nw.netposFB-is l h) ∙ sym (net-scale c.zones (pos (parts_in_one * b)) x.flow_fb l);
      flow-in = λ l k hl hk. times-nonneg (parts_in_one * b) (nw.flowFB-in l k hl hk);
    };
    long-term = λ w. record {
      some-link = linked;
      link = λ l k hl hk. link-le (x.flow_lta l k) (capacity_lta c l k) (rw (← is_b) at (nw.link l k hl hk));
      netpos-is = λ l h. ap (λ (z : ℤ). pos (parts_in_one * a) *ℤ z) (nw.netposLTA-is l h) ∙ sym (net-scale c.zones (pos (parts_in_one * a)) x.flow_lta l);
      flow-in = λ l k hl hk. times-nonneg (parts_in_one * a) (nw.flowLTA-in l k hl hk);
    };
  }
    where
      branch-le : (u r : ℤ) → u ≤ℤ (pos a *ℤ r) → (pos (parts_in_one * b) *ℤ u) ≤ℤ (pos (parts_in_one * (a * b)) *ℤ r)
      branch-le u r h = le-by (at (pos (parts_in_one * b)) ⊗ at u) (at (pos (parts_in_one * (a * b))) ⊗ at r) (omega (arith, mul-le-mul_left b (le-fact (at u) (at (pos a) ⊗ at r) h)))

      link-le : (f k : ℤ) → (pos parts_in_one *ℤ f) ≤ℤ (pos b *ℤ k) → (pos (parts_in_one * a) *ℤ f) ≤ℤ (pos (a * b) *ℤ k)
      link-le f k h = le-by (at (pos (parts_in_one * a)) ⊗ at f) (at (pos (a * b)) ⊗ at k) (omega (arith, mul-le-mul_left a (le-fact (at (pos parts_in_one) ⊗ at f) (at (pos b) ⊗ at k) h)))

  combined : Combines c points x
  unfolding points
  combined = record {
    netpos-is = λ l h. rw (nw.netpos-is l h) (sums (x.netpos_fb l) (x.netpos_lta l));
    flow-is = λ l k hl hk. rw (nw.flow-is l k hl hk) (sums (x.flow_fb l k) (x.flow_lta l k));
  }
    where
      sums : (f g : ℤ) → pos ((a + b) * (a * b)) *ℤ (f +ℤ g) ≡ pos x.den *ℤ (pos a *ℤ (pos (parts_in_one * b) *ℤ f) +ℤ pos b *ℤ (pos (parts_in_one * a) *ℤ g))
      sums f g = rw whole (eq-by (at (pos (parts_in_one * x.den * (a * b))) ⊗ (at f ⊕ at g)) (at (pos x.den) ⊗ (at (pos a) ⊗ (at (pos (parts_in_one * b)) ⊗ at f) ⊕ at (pos b) ⊗ (at (pos (parts_in_one * a)) ⊗ at g))) (omega arith))

-- x combines a point of each domain, with its own weights
pub record IsCombination (c : Case) (x : Solution) : Type 0 where
  pub points : TwoPoints c
  pub combines : Combines c points x
  pub weights-are : (pos points.a1 ≡ x.alpha1) × (pos points.a2 ≡ x.alpha2)

pub only-combinations : (c : Case) (x : Solution) → Network c x → pos 0 <ℤ x.alpha1 → pos 0 <ℤ x.alpha2 → IsCombination c x
unfolding points
only-combinations c x nw h l = record {
  points = points c x nw (nat_abs x.alpha1) (nat_abs x.alpha2) (size x.alpha1 nw.alpha-in.0) (size x.alpha2 nw.alpha-in.1) (above x.alpha1 h) (above x.alpha2 l);
  combines = combined c x nw (nat_abs x.alpha1) (nat_abs x.alpha2) (size x.alpha1 nw.alpha-in.0) (size x.alpha2 nw.alpha-in.1) (above x.alpha1 h) (above x.alpha2 l);
  weights-are = (size x.alpha1 nw.alpha-in.0, size x.alpha2 nw.alpha-in.1);
}
  where
    size : (z : ℤ) → pos 0 ≤ℤ z → pos (nat_abs z) ≡ z
    size z h = pos-nat_abs z (yes_non_neg h)

    above : (z : ℤ) → pos 0 <ℤ z → 0 < nat_abs z
    above (pos n) h = ltb→lt 0 n h.lt
    above (negsuc n) h = absurd h.lt

-- WITHOUT LTA WEIGHT the network is the flow-based domain; so it is without links (S-6)
pub flow-based-alone : (c : Case) (x : Solution) → Network c x → x.alpha2 ≡ pos 0 → FBDomain c x.den x.netpos x.flow
flow-based-alone c x nw e = record {
  branch = λ m h. rw (sum-ext c.zones (λ l. c.ptdf m l *ℤ x.netpos l) (λ l. c.ptdf m l *ℤ x.netpos_fb l) (λ l g. ap (λ (z : ℤ). c.ptdf m l *ℤ z) (netpos-FB l g)), ← whole x.alpha1 x.alpha2 e nw.alpha-sum) (nw.branch m h);
  netpos-is = λ l h. netpos-FB l h ∙ nw.netposFB-is l h ∙ sym (net-ext c.zones x.flow x.flow_fb flow-FB l h);
  flow-in = λ l k hl hk. rw (flow-FB l k hl hk) (nw.flowFB-in l k hl hk);
}
  where
    none : (f a k : ℤ) → a ≡ pos 0 → pos 0 ≤ℤ f → (pos parts_in_one *ℤ f) ≤ℤ (a *ℤ k) → f ≡ pos 0
    none f a k e h l = eq-by (at f) (at (pos 0)) (omega (arith, le-fact (at (pos 0)) (at f) h, le-fact (at (pos parts_in_one) ⊗ at f) (at (pos 0) ⊗ at k) (rw e at l)))

    less : (a f g : ℤ) → a ≡ f +ℤ g → g ≡ pos 0 → a ≡ f
    less a f g h z = eq-by (at a) (at f) (omega (arith, eq-fact (at a) (at f ⊕ at g) h, eq-fact (at g) (at (pos 0)) z))

    whole : (a b : ℤ) → b ≡ pos 0 → a +ℤ b ≡ pos (parts_in_one * x.den) → a ≡ pos (parts_in_one * x.den)
    whole a b z h = eq-by (at a) (at (pos (parts_in_one * x.den))) (omega (arith, eq-fact (at a ⊕ at b) (at (pos (parts_in_one * x.den))) h, eq-fact (at b) (at (pos 0)) z))

    no-LTA : (l k : ℕ) → l < c.zones → k < c.zones → x.flow_lta l k ≡ pos 0
    no-LTA l k hl hk = none (x.flow_lta l k) x.alpha2 (capacity_lta c l k) e (nw.flowLTA-in l k hl hk) (nw.link l k hl hk)

    flow-FB : (l k : ℕ) → l < c.zones → k < c.zones → x.flow l k ≡ x.flow_fb l k
    flow-FB l k hl hk = less (x.flow l k) (x.flow_fb l k) (x.flow_lta l k) (nw.flow-is l k hl hk) (no-LTA l k hl hk)

    netpos-FB : (l : ℕ) → l < c.zones → x.netpos l ≡ x.netpos_fb l
    netpos-FB l h = less (x.netpos l) (x.netpos_fb l) (x.netpos_lta l) (nw.netpos-is l h)
        (nw.netposLTA-is l h ∙ net-ext c.zones x.flow_lta (λ l k. pos 0) no-LTA l h ∙ net-zero c.zones l)

pub no-links-flow-based : (c : Case) (x : Solution) → Network c x → c.links ≡ 0 → FBDomain c x.den x.netpos x.flow
no-links-flow-based c x nw e = flow-based-alone c x nw (nw.no-LTA e)
