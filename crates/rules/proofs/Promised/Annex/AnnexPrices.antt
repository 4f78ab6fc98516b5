-- The Annex's prices and rule 6's: (79) and (80), both sides of (81), and complementary slackness (77) at a gap of
-- zero. Also (82): no exchange that the network allows earns more at the prices than rule 10's bound of the
-- network. Assumes nothing.
use Rattle.std.specs.Prelude.{◌≡◌, refl, Bool, not, T, eqb, negsuc, ◌+ℤ◌, ◌-ℤ◌, ◌*ℤ◌, ◌≤ℤ◌, ◌<ℤ◌}
use Rattle.std.proofs.Common.{sym, ◌∙◌, mul-pos, ltb→lt}
use Rattle.std.proofs.Math.Path.{ap}
use Rattle.std.proofs.Math.Bool.{true, false}
use Prim.Native.Nat.{ℕ, ◌+◌, ◌*◌, ◌<◌}
use native.Mathlib.Omega.{arith}
use Rattle.std.proofs.Math.IntN.{ℤ, pos}
use Rattle.std.specs.Int.Signed.{≤ℤ_refl, lt_z, lt_z_no}
use Rattle.base_integers.specs.Meaning.Difference.{up, dn}
use Rattle.base_integers.specs.Steps.Difference.{at, ◌⊕◌, ◌⊖◌, ◌⊗◌, le-by, eq-by, le-fact, eq-fact}
use Rattle.base_integers.specs.Meaning.Order.{positive}
use Rattle.base_integers.specs.Steps.Order.{cond_ind, diff-nonneg, mul-nonneg, larger-left, larger-right, le_trans, le_antisym}
use Rattle.base_integers.specs.Meaning.Sums.{sum_to, only}
use Rattle.base_integers.specs.Steps.Sums.{sum-ext, sum-le, sum-zero, sum-add, sum-sub, sum-scale, sum-scale-l, sum-swap, sum-only, only-both, only-swap, sum-weights}
use Rattle.base_limits.specs.Meaning.Limits.{parts_in_one}
use Rattle.rules.specs.Meaning.Hour.{Case, Plan, Prices, zone_price, branch_price, welfare, surplus, branch_value, branch_total, spread, link_value, link_total, network_bound, bound, gap, rent}
use Rattle.rules.specs.Meaning.Clearing.{Placed, Clearing}
use Rattle.rules.specs.Meaning.Annex.{Solution, Network, Feasible, PairsOnce, AlongLines, Route, here, onward, Connected, Multipliers, PriceConditions, Complementary, joins, by_pair, capacity_lta, net_flow, congestion_rent, margin_value, capacity_value, liabilities}
use Rattle.rules.specs.Meaning.AnnexPromise.{Same, Agree, multipliers_of}
use Rattle.rules.proofs.Steps.Duality.{branches-within, weighed-within, welfare-le}
use Rattle.rules.proofs.Promised.Gap.{link_short, link-exact}
use Rattle.rules.proofs.Promised.Annex.CommercialFlows.{net-priced}
use Rattle.rules.proofs.Promised.Annex.Extended as extended

-- PRICES
-- (79): over connected zones, multipliers that meet (73) to (76) and (78) are rule 6's zone prices, at the system
-- price price^FB_0
unfoldable pub prices_from : Multipliers → Prices
prices_from y = record { system = y.price_fb 0; shadow = y.shadow }

module _ (c : Case) {line : ℕ → ℕ → Bool} (q : Connected c.zones line) (y : Multipliers) (conditions : PriceConditions c line y) where
  falls : {a b : ℕ} → Route c.zones line a b → y.price_fb b ≤ℤ y.price_fb a
  falls (here {a}) = ≤ℤ_refl (y.price_fb a)
  falls (onward {a} {b} {e} r hb he t) = le_trans (less (y.price_fb e) (y.price_fb b) (conditions.no-spread b e hb he t)) (falls r)
    where
      less : (u v : ℤ) → (u -ℤ v) ≤ℤ pos 0 → u ≤ℤ v
      less u v h = le-by (at u) (at v) (omega (arith, le-fact (at u ⊖ at v) (at (pos 0)) h))

  pub one-system-price : (l : ℕ) → l < c.zones → y.price_fb l ≡ y.price_fb 0
  one-system-price l h = le_antisym (falls (q.from_first l h)) (falls (q.to-first l h))

  pub price-is : (l : ℕ) → l < c.zones → y.price l ≡ zone_price c (prices_from y) l
  unfolding zone_price branch_price prices_from
  price-is l h = conditions.price-FB l h ∙ ap (λ (z : ℤ). pos parts_in_one *ℤ z +ℤ sum_to c.branches (λ m. c.ptdf m l *ℤ pos (y.shadow m))) (one-system-price l h)

-- rule 6's zone prices meet (73) to (76) and (78), with the positive spreads as w
pub priced-of : (c : Case) (line : ℕ → ℕ → Bool) (d : Prices) → PriceConditions c line (multipliers_of c d)
unfolding multipliers_of zone_price branch_price
priced-of c line d = record {
  price-split = λ l h. refl;
  price-FB = λ l h. refl;
  price-LTA = λ l h. refl;
  w-spread = λ l k hl hk. larger-right (pos 0) (zone_price c d k -ℤ zone_price c d l);
  w-in = λ l k hl hk. larger-left (pos 0) (zone_price c d k -ℤ zone_price c d l);
  no-spread = λ l k hl hk t. le-by (at d.system ⊖ at d.system) (at (pos 0)) (omega arith);
}

-- (80) price_k - price_l = Σ_m ShadowPrice_m (ptdf_{m,k} - ptdf_{m,l})
pub spread-is : (c : Case) (d : Prices) (l k : ℕ) → zone_price c d k -ℤ zone_price c d l ≡ sum_to c.branches (λ m. pos (d.shadow m) *ℤ (c.ptdf m k -ℤ c.ptdf m l))
unfolding zone_price branch_price
spread-is c d l k = common (pos parts_in_one *ℤ d.system) (sum_to c.branches (λ m. c.ptdf m k *ℤ pos (d.shadow m))) (sum_to c.branches (λ m. c.ptdf m l *ℤ pos (d.shadow m)))
    ∙ sym (sum-sub c.branches (λ m. c.ptdf m k *ℤ pos (d.shadow m)) (λ m. c.ptdf m l *ℤ pos (d.shadow m)))
    ∙ sum-ext c.branches _ _ (λ m h. factor (c.ptdf m k) (c.ptdf m l) (pos (d.shadow m)))
  where
    common : (s a b : ℤ) → (s +ℤ a) -ℤ (s +ℤ b) ≡ a -ℤ b
    common s a b = eq-by ((at s ⊕ at a) ⊖ (at s ⊕ at b)) (at a ⊖ at b) (omega arith)

    factor : (a b s : ℤ) → a *ℤ s -ℤ b *ℤ s ≡ s *ℤ (a -ℤ b)
    factor a b s = eq-by (at a ⊗ at s ⊖ at b ⊗ at s) (at s ⊗ (at a ⊖ at b)) (omega arith)

pub multiplier-spread-is : (c : Case) {line : ℕ → ℕ → Bool} (q : Connected c.zones line) (y : Multipliers) (conditions : PriceConditions c line y) (l k : ℕ) → l < c.zones → k < c.zones
    → y.price k -ℤ y.price l ≡ sum_to c.branches (λ m. pos (y.shadow m) *ℤ (c.ptdf m k -ℤ c.ptdf m l))
unfolding prices_from
multiplier-spread-is c q y conditions l k hl hk = (cc (price-is c q y conditions k hk, price-is c q y conditions l hl)) ∙ spread-is c (prices_from y) l k

-- (81), left side: rule 11's rent
pub rent-is : (c : Case) (p : Plan) (x : Solution) → Agree c p x → (d : Prices) → congestion_rent c x (zone_price c d) ≡ rent c p d
unfolding congestion_rent rent
rent-is c p x same d = sum-ext c.zones _ _ (λ l h. ap (λ (z : ℤ). z *ℤ zone_price c d l) (sym (same.net-is l h)))

-- (81), right side: the link total, over the links, is the Annex's sum over ordered pairs
pairs-weighed : (c : Case) → Placed c → (f : ℕ → ℤ) (w : ℕ → ℕ → ℤ)
    → sum_to c.zones (λ l. sum_to c.zones (λ k. by_pair c f l k *ℤ w l k)) ≡ sum_to c.links (λ j. f j *ℤ w (c.from j) (c.to j))
unfolding by_pair joins
pairs-weighed c ok f w =
    sum-ext n _ _ (λ l h. sum-ext n _ _ (λ k g. sym (sum-scale c.links (λ j. only (joins c j l k) (f j)) (w l k))) ∙ sum-swap n c.links (λ k j. only (joins c j l k) (f j) *ℤ w l k))
    ∙ sum-swap n c.links (λ l j. sum_to n (λ k. only (joins c j l k) (f j) *ℤ w l k))
    ∙ sum-ext c.links _ _ (λ j h.
    sum-ext n _ _ (λ l g.
    sum-ext n _ _ (λ k i. ap (λ (z : ℤ). z *ℤ w l k) (only-both (eqb (c.from j) l) (eqb (c.to j) k) (f j) ∙ only-swap (eqb (c.from j) l) (eqb (c.to j) k) (f j)))
    ∙ sum-only n (c.to j) (only (eqb (c.from j) l) (f j)) (w l) (ok.to-in j h))
    ∙ sum-only n (c.from j) (f j) (λ l. w l (c.to j)) (ok.from-in j h))
  where
    n : ℕ
    n = c.zones

pub liabilities-are : (c : Case) → Placed c → (d : Prices) → liabilities c (zone_price c d) ≡ link_total c d
unfolding liabilities capacity_lta link_total link_value spread
liabilities-are c ok d = pairs-weighed c ok (λ j. pos (c.capacity j)) (λ l k. positive (zone_price c d k -ℤ zone_price c d l))

-- (77): at a gap of zero no link with a flow has a negative spread
pub complementary : (c : Case) (ok : Placed c) (o : PairsOnce c) (d : Prices) (p : Plan) (cl : Clearing c p) (x : Solution) → Same c p x → Feasible c x
    → pos p.den *ℤ bound c d ≡ welfare c p → Complementary c x (multipliers_of c d)
unfolding multipliers_of link_short link_value spread
complementary c ok o d p cl x same fe no_gap = record {
  w-is = λ l k hl hk. extended.by-link c (λ l k. pos 0 <ℤ x.flow_lta l k → zone_price c d k -ℤ zone_price c d l ≡ positive (zone_price c d k -ℤ zone_price c d l)) l k
      (λ j h used. not_negative (zone_price c d (c.to j) -ℤ zone_price c d (c.from j)) p.share (c.capacity j) (p.flow j) (above (p.flow j) (rw (same.flow j h) used)) (link-exact c ok d p cl no_gap j h))
      (λ g used. absurd (nothing_above (rw (extended.unlinked-zero c ok o p x same fe l k hl hk g) at used)));
}
  where
    above : (f : ℕ) → pos 0 <ℤ pos f → 0 < f
    above f h = ltb→lt 0 f h.lt

    nothing_above : pos 0 <ℤ pos 0 → ⊥
    nothing_above h = absurd h.lt

    not_negative : (s : ℤ) (a k f : ℕ) → 0 < f → pos a *ℤ (pos k *ℤ positive s) -ℤ pos parts_in_one *ℤ (pos f *ℤ s) ≡ pos 0 → s ≡ positive s
    not_negative (pos n) a k f h e = cond_ind (lt_z (pos 0) (pos n)) (pos n) (pos 0) (λ z. pos n ≡ z) (λ t. refl) (λ t. le_antisym (lt_z_no t) (le-by (at (pos 0)) (at (pos n)) (omega arith)))
    not_negative (negsuc n) a k f h e = let one : 0 < n + 1 = omega arith in absurd (omega (arith, mul-pos h one, eq-fact (at (pos a) ⊗ (at (pos k) ⊗ at (pos 0)) ⊖ at (pos parts_in_one) ⊗ (at (pos f) ⊗ at (negsuc n))) (at (pos 0)) e))

-- (82): THE NETWORK'S PROFIT, whatever the orders. Multipliers that meet (73) to (76) and (78) bound what any
-- choice that the network allows earns. Commercial flow gains nothing by (78). The flow-based part earns at most
-- the margins at their shadow prices, the LTA flows at most the capacities at w.
module _ (c : Case) {line : ℕ → ℕ → Bool} (x : Solution) (nw : Network c x) (along : AlongLines c line x) (y : Multipliers) (conditions : PriceConditions c line y) where
  n : ℕ
  n = c.zones

  commercial-le : sum_to n (λ l. x.netpos_fb l *ℤ (pos parts_in_one *ℤ y.price_fb l)) ≤ℤ pos 0
  unfolding n
  commercial-le = rw (
    sum-ext n _ _ (λ l h. ap (λ (z : ℤ). z *ℤ (pos parts_in_one *ℤ y.price_fb l)) (nw.netposFB-is l h)),
    net-priced n x.flow_fb (λ l. pos parts_in_one *ℤ y.price_fb l),
    ← sum-zero n,
  )
      (sum-le n _ _ (λ l h. rw (← sum-zero n) (sum-le n _ _ (λ k g.
      no-gain (line l k) (x.flow_fb l k) (y.price_fb k) (y.price_fb l) (nw.flowFB-in l k h g) (λ t. conditions.no-spread l k h g t) (λ t. along.elsewhere l k h g t)))))
    where
      no-gain : (b : Bool) (f u v : ℤ) → pos 0 ≤ℤ f → (T b → (u -ℤ v) ≤ℤ pos 0) → (T (not b) → f ≡ pos 0) → (f *ℤ (pos parts_in_one *ℤ u -ℤ pos parts_in_one *ℤ v)) ≤ℤ pos 0
      no-gain true f u v h g z = le-by (at f ⊗ (at (pos parts_in_one) ⊗ at u ⊖ at (pos parts_in_one) ⊗ at v)) (at (pos 0)) (omega (arith, le-fact (at (pos 0)) (at f ⊗ (at (pos 0) ⊖ (at u ⊖ at v))) (mul-nonneg f (pos 0 -ℤ (u -ℤ v)) h (diff-nonneg (g tt)))))
      no-gain false f u v h g z = rw (z tt) (le-by (at (pos 0) ⊗ (at (pos parts_in_one) ⊗ at u ⊖ at (pos parts_in_one) ⊗ at v)) (at (pos 0)) (omega arith))

  margins-le : sum_to n (λ l. x.netpos_fb l *ℤ sum_to c.branches (λ m. c.ptdf m l *ℤ pos (y.shadow m))) ≤ℤ (x.alpha1 *ℤ margin_value c y)
  unfolding n margin_value
  margins-le = rw (sum-weights n c.branches x.netpos_fb (λ m. pos (y.shadow m)) c.ptdf, ← sum-scale-l c.branches (λ m. c.ram m *ℤ pos (y.shadow m)) x.alpha1)
      (sum-le c.branches _ _ (λ m h. at-shadow (sum_to n (λ l. c.ptdf m l *ℤ x.netpos_fb l)) x.alpha1 (c.ram m) (y.shadow m) (nw.branch m h)))
    where
      at-shadow : (u a r : ℤ) (s : ℕ) → u ≤ℤ (a *ℤ r) → (u *ℤ pos s) ≤ℤ (a *ℤ (r *ℤ pos s))
      at-shadow u a r s h = le-by (at u ⊗ at (pos s)) (at a ⊗ (at r ⊗ at (pos s))) (omega (arith, le-fact (at (pos 0)) ((at a ⊗ at r ⊖ at u) ⊗ at (pos s)) (mul-nonneg (a *ℤ r -ℤ u) (pos s) (diff-nonneg h) (le-by (at (pos 0)) (at (pos s)) (omega arith)))))

  capacities-le : (pos parts_in_one *ℤ sum_to n (λ l. x.netpos_lta l *ℤ y.price l)) ≤ℤ (x.alpha2 *ℤ capacity_value c y)
  unfolding n capacity_value
  capacities-le = rw (
    sum-ext n (λ l. x.netpos_lta l *ℤ y.price l) (λ l. net_flow n x.flow_lta l *ℤ y.price_lta l) (λ l h. cc (nw.netposLTA-is l h, conditions.price-LTA l h)),
    net-priced n x.flow_lta y.price_lta,
    ← sum-scale-l n (λ l. sum_to n (λ k. x.flow_lta l k *ℤ (y.price_lta k -ℤ y.price_lta l))) (pos parts_in_one),
    ← sum-scale-l n (λ l. sum_to n (λ k. capacity_lta c l k *ℤ y.w l k)) x.alpha2,
  )
      (sum-le n _ _ (λ l h. rw (
        ← sum-scale-l n (λ k. x.flow_lta l k *ℤ (y.price_lta k -ℤ y.price_lta l)) (pos parts_in_one),
        ← sum-scale-l n (λ k. capacity_lta c l k *ℤ y.w l k) x.alpha2,
      )
      (sum-le n _ _ (λ k g. at-w (x.flow_lta l k) (y.price_lta k -ℤ y.price_lta l) (y.w l k) x.alpha2 (capacity_lta c l k) (nw.flowLTA-in l k h g) (conditions.w-spread l k h g) (conditions.w-in l k h g) (nw.link l k h g)))))
    where
      at-w : (f s w a k : ℤ) → pos 0 ≤ℤ f → s ≤ℤ w → pos 0 ≤ℤ w → (pos parts_in_one *ℤ f) ≤ℤ (a *ℤ k) → (pos parts_in_one *ℤ (f *ℤ s)) ≤ℤ (a *ℤ (k *ℤ w))
      at-w f s w a k hf hs hw h = le-by (at (pos parts_in_one) ⊗ (at f ⊗ at s)) (at a ⊗ (at k ⊗ at w)) (omega (
        arith,
        le-fact (at (pos 0)) (at f ⊗ (at w ⊖ at s)) (mul-nonneg f (w -ℤ s) hf (diff-nonneg hs)),
        le-fact (at (pos 0)) ((at a ⊗ at k ⊖ at (pos parts_in_one) ⊗ at f) ⊗ at w) (mul-nonneg (a *ℤ k -ℤ pos parts_in_one *ℤ f) w (diff-nonneg h) hw),
      ))

  pub weak-duality : (pos parts_in_one *ℤ congestion_rent c x y.price_split) ≤ℤ (pos parts_in_one *ℤ (x.alpha1 *ℤ margin_value c y) +ℤ x.alpha2 *ℤ capacity_value c y)
  unfolding n congestion_rent
  weak-duality = rw (parts_are) (together _ _ _ _ _ commercial-le margins-le capacities-le)
    where
      shadows : ℕ → ℤ
      shadows l = sum_to c.branches (λ m. c.ptdf m l *ℤ pos (y.shadow m))

      apart : (f g b s : ℤ) → (f +ℤ g) *ℤ (pos parts_in_one *ℤ b +ℤ s) ≡ (f *ℤ (pos parts_in_one *ℤ b) +ℤ f *ℤ s) +ℤ g *ℤ (pos parts_in_one *ℤ b +ℤ s)
      apart f g b s = eq-by ((at f ⊕ at g) ⊗ (at (pos parts_in_one) ⊗ at b ⊕ at s)) ((at f ⊗ (at (pos parts_in_one) ⊗ at b) ⊕ at f ⊗ at s) ⊕ at g ⊗ (at (pos parts_in_one) ⊗ at b ⊕ at s)) (omega arith)

      parts_are : sum_to n (λ l. x.netpos l *ℤ y.price_split l)
          ≡ (sum_to n (λ l. x.netpos_fb l *ℤ (pos parts_in_one *ℤ y.price_fb l)) +ℤ sum_to n (λ l. x.netpos_fb l *ℤ shadows l)) +ℤ sum_to n (λ l. x.netpos_lta l *ℤ y.price l)
      parts_are =
          sum-ext n _ _ (λ l h.
          (cc (nw.netpos-is l h, conditions.price-split l h, conditions.price-FB l h))
          ∙ apart (x.netpos_fb l) (x.netpos_lta l) (y.price_fb l) (shadows l)
          ∙ ap (λ (z : ℤ). (x.netpos_fb l *ℤ (pos parts_in_one *ℤ y.price_fb l) +ℤ x.netpos_fb l *ℤ shadows l) +ℤ x.netpos_lta l *ℤ z) (sym (conditions.price-FB l h)))
          ∙ sum-add n _ _
          ∙ ap (λ (z : ℤ). z +ℤ sum_to n (λ l. x.netpos_lta l *ℤ y.price l)) (sum-add n _ _)

      together : (a b e m v : ℤ) → a ≤ℤ pos 0 → b ≤ℤ m → (pos parts_in_one *ℤ e) ≤ℤ v → (pos parts_in_one *ℤ ((a +ℤ b) +ℤ e)) ≤ℤ (pos parts_in_one *ℤ m +ℤ v)
      together a b e m v h g i = le-by (at (pos parts_in_one) ⊗ ((at a ⊕ at b) ⊕ at e)) (at (pos parts_in_one) ⊗ at m ⊕ at v) (omega (arith, le-fact (at a) (at (pos 0)) h, le-fact (at b) (at m) g, le-fact (at (pos parts_in_one) ⊗ at e) (at v) i))

-- so at rule 6's prices no choice earns more than rule 10's bound of the network: the larger total, or without
-- links, where α₂ is 0, the branch total (S-6)
pub network-le : (c : Case) → Placed c → (x : Solution) → Network c x → (d : Prices) → congestion_rent c x (zone_price c d) ≤ℤ (pos x.den *ℤ network_bound c d)
unfolding multipliers_of margin_value capacity_value liabilities branch_total branch_value
network-le c ok x nw d =
    weighed (congestion_rent c x (zone_price c d)) (margin_value c y) (link_total c d) (network_bound c d) x.alpha1 x.alpha2 x.den
    (rw (← liabilities-are c ok d) (weak-duality c x nw (record { elsewhere = λ l k hl hk t. absurd t }) y (priced-of c (λ l k. true) d)))
    (branches-within c d) (weighed-within c d x.alpha2 nw.alpha-in.1 nw.no-LTA) nw.alpha-in.0 nw.alpha-sum
  where
    y : Multipliers
    y = multipliers_of c d

    weighed : (r m o t a b : ℤ) (e : ℕ) → (pos parts_in_one *ℤ r) ≤ℤ (pos parts_in_one *ℤ (a *ℤ m) +ℤ b *ℤ o) → (pos parts_in_one *ℤ m) ≤ℤ t → pos 0 ≤ℤ (b *ℤ (t -ℤ o)) → pos 0 ≤ℤ a → a +ℤ b ≡ pos (parts_in_one * e) → r ≤ℤ (pos e *ℤ t)
    weighed r m o t a b e h hm ho ha s = le-by (at r) (at (pos e) ⊗ at t) (omega (
      arith,
      le-fact (at (pos parts_in_one) ⊗ at r) (at (pos parts_in_one) ⊗ (at a ⊗ at m) ⊕ at b ⊗ at o) h,
      le-fact (at (pos 0)) (at a ⊗ (at t ⊖ at (pos parts_in_one) ⊗ at m)) (mul-nonneg a (t -ℤ pos parts_in_one *ℤ m) ha (diff-nonneg hm)),
      le-fact (at (pos 0)) (at b ⊗ (at t ⊖ at o)) ho,
      eq-fact ((at a ⊕ at b) ⊗ at t) (at (pos (parts_in_one * e)) ⊗ at t) (ap (λ (z : ℤ). z *ℤ t) s),
    ))

-- the rent of a clearing is that bound up to the gap
pub rent-earns : (c : Case) → Placed c → (d : Prices) (q : Plan) → Clearing c q → q.den ≡ 1 → network_bound c d ≤ℤ (rent c q d +ℤ gap c q d)
unfolding gap bound
rent-earns c ok d q cl one = earns (welfare c q) (rent c q d) (surplus c d) (network_bound c d) q.den one (welfare-le c ok d q cl)
  where
    earns : (w r s m : ℤ) (e : ℕ) → e ≡ 1 → (w -ℤ r) ≤ℤ (pos e *ℤ s) → m ≤ℤ (r +ℤ (s +ℤ m -ℤ w))
    earns w r s m e one h = le-by (at m) (at r ⊕ (at s ⊕ at m ⊖ at w)) (omega (arith, le-fact (at w ⊖ at r) (at (pos e) ⊗ at s) h, ap (λ (k : ℕ). k * up s) one, ap (λ (k : ℕ). k * dn s) one))
