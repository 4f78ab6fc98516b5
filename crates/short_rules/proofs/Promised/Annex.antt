-- S-14 IN THE ANNEX'S TERMS: at gap zero the proposal, as a solution of (60) to (72), and its prices, as
-- multipliers, meet complementary slackness, including (77). Each condition follows from a shortfall of zero or a
-- lead of zero. Assumes nothing.
use Rattle.std.specs.Prelude.{◌≡◌, Bool, List, ℕ, zero, suc, ◌+◌, ◌*◌, ◌-◌, ◌≤◌, ◌<◌, T, ℤ, negsuc, ◌+ℤ◌, ◌-ℤ◌, ◌*ℤ◌, ◌≤ℤ◌, ◌<ℤ◌}
use Rattle.std.proofs.Math.Path.{refl, sym, ap}
use Rattle.std.proofs.Common.{subst, ◌∙◌, mul-pos, mul-le-mul_right, arith, ltb→lt}
use Rattle.std.proofs.Math.Decide.{dec_lt}
use Rattle.std.proofs.Math.IntN.{pos}
use Rattle.base_integers.specs.Meaning.Difference.{up, dn}
use Rattle.base_integers.specs.Steps.Difference.{at, ◌⊕◌, ◌⊖◌, ◌⊗◌, le-by, eq-by, le-fact, eq-fact}
use Rattle.base_integers.specs.Meaning.Order.{positive}
use Rattle.base_integers.specs.Steps.Order.{positive-nat, le_antisym, add-nonneg, larger-left, larger-right}
use Rattle.base_integers.specs.Steps.Sums.{sum-ext, sum_nonneg}
use Rattle.base_limits.specs.Meaning.Limits.{parts_in_one}
use Rattle.rules.specs.Meaning.Hour.{Case, Plan, Prices, case_of, plan_of, prices_of, fb_part, branch_use, branch_room, zone_price, surplus_of, order_surplus, branch_value, branch_total, spread, link_total, welfare, bound, gap}
use Rattle.rules.specs.Meaning.Clearing.{Placed, Clearing}
use Rattle.rules.specs.Meaning.Annex.{Solution, Feasible, PairsOnce, capacity_lta, margin_value, capacity_value, liabilities}
use Rattle.rules.specs.Meaning.AnnexPromise.{Same, Agree, IsFeasible, multipliers_of}
use Rattle.rules.specs.Meaning.Verdict.{Readable}
use Rattle.rules.specs.Meaning.Report.{reports}
use Rattle.rules.proofs.Steps.Passed.{sound, case-sound, case-pairs}
use Rattle.rules.proofs.Promised.Guarantee.{Accepted, allowed}
use Rattle.rules.proofs.Promised.Annex.Extended as extended
use Rattle.rules.proofs.Promised.Annex.AnnexPrices as prices
use Rattle.short_rules.specs.Meaning.Shortfalls.{earned, order_shortfall, branch_shortfall, link_shortfall, weighed_lead, lead_left, all_shortfalls, Accounted}
use Rattle.short_rules.specs.Meaning.Slackness.{order_gain, Slackness}
use Rattle.short_rules.proofs.Steps.Parts.{left-with}
use Rattle.short_rules.proofs.Promised.Account as account

-- OVER PLAIN VARIABLES, what a shortfall of zero implies. An order: q its quantity, v its volume, g its gain
accepted-gains : (q v : ℕ) (g : ℤ) → 0 < v → pos parts_in_one *ℤ (positive (pos q *ℤ g) -ℤ pos v *ℤ g) ≡ pos 0 → pos 0 ≤ℤ g
accepted-gains q v (pos k) h e = le-by (at (pos 0)) (at (pos k)) (omega arith)
accepted-gains q v (negsuc k) h e = let one : 0 < k + 1 = omega arith in absurd (omega (
  arith,
  mul-pos h one,
  eq-fact (at (pos parts_in_one) ⊗ (at (positive (pos q *ℤ negsuc k)) ⊖ at (pos v) ⊗ at (negsuc k))) (at (pos 0)) e,
  le-fact (at (pos 0)) (at (positive (pos q *ℤ negsuc k))) (larger-left (pos 0) (pos q *ℤ negsuc k)),
))

left-gains-nothing : (q v : ℕ) (g : ℤ) → v < q → pos parts_in_one *ℤ (positive (pos q *ℤ g) -ℤ pos v *ℤ g) ≡ pos 0 → g ≤ℤ pos 0
left-gains-nothing q v (pos k) h e = let one : v + 1 ≤ q = omega arith in le-by (at (pos k)) (at (pos 0)) (omega (
  arith,
  mul-le-mul_right k one,
  eq-fact (at (pos parts_in_one) ⊗ (at (positive (pos q *ℤ pos k)) ⊖ at (pos v) ⊗ at (pos k))) (at (pos 0)) e,
  le-fact (at (pos q) ⊗ at (pos k)) (at (positive (pos q *ℤ pos k))) (larger-right (pos 0) (pos q *ℤ pos k)),
))
left-gains-nothing q v (negsuc k) h e = le-by (at (negsuc k)) (at (pos 0)) (omega arith)

-- a branch: s its shadow price, r its room, u its use
used-up : (s : ℕ) (r u : ℤ) → 0 < s → pos parts_in_one *ℤ (pos s *ℤ (r -ℤ u)) ≡ pos 0 → u ≡ r
used-up s r u h e = by (r -ℤ u) refl e
  where
    by : (x : ℤ) → r -ℤ u ≡ x → pos parts_in_one *ℤ (pos s *ℤ x) ≡ pos 0 → u ≡ r
    by (pos zero) q e = eq-by (at u) (at r) (omega (arith, eq-fact (at r ⊖ at u) (at (pos 0)) q))
    by (pos (suc n)) q e = let one : 0 < n + 1 = omega arith in absurd (omega (arith, mul-pos h one, eq-fact (at (pos parts_in_one) ⊗ (at (pos s) ⊗ at (pos (suc n)))) (at (pos 0)) e))
    by (negsuc n) q e = let one : 0 < n + 1 = omega arith in absurd (omega (arith, mul-pos h one, eq-fact (at (pos parts_in_one) ⊗ (at (pos s) ⊗ at (negsuc n))) (at (pos 0)) e))

-- a link: k its capacity, a the LTA share, f its flow, t its spread
capacity-full : (k a f : ℕ) (t : ℤ) → pos 0 <ℤ positive t → pos k *ℤ pos a *ℤ positive t -ℤ pos parts_in_one *ℤ (pos f *ℤ t) ≡ pos 0 → pos parts_in_one *ℤ pos f ≡ pos a *ℤ pos k
capacity-full k a f (negsuc n) h e = absurd h.lt
capacity-full k a f (pos n) h e =
    let above : 0 < n = ltb→lt 0 n (subst (λ (x : ℤ). pos 0 <ℤ x) (positive-nat n) h).lt in
    let flat : pos k *ℤ pos a *ℤ pos n -ℤ pos parts_in_one *ℤ (pos f *ℤ pos n) ≡ pos 0 = subst (λ (x : ℤ). pos k *ℤ pos a *ℤ x -ℤ pos parts_in_one *ℤ (pos f *ℤ pos n) ≡ pos 0) (positive-nat n) e in
    let same : k * a * n ≡ parts_in_one * (f * n) = omega (arith, eq-fact (at (pos k) ⊗ at (pos a) ⊗ at (pos n) ⊖ at (pos parts_in_one) ⊗ (at (pos f) ⊗ at (pos n))) (at (pos 0)) flat) in
    elim (dec_lt (parts_in_one * f) (a * k)) [
      | yes l ↦ let one : parts_in_one * f + 1 ≤ a * k = omega arith in absurd (omega (arith, same, above, mul-le-mul_right n one))
      | no g ↦ elim (dec_lt (a * k) (parts_in_one * f)) [
        | yes l ↦ let one : a * k + 1 ≤ parts_in_one * f = omega arith in absurd (omega (arith, same, above, mul-le-mul_right n one))
        | no i ↦ eq-by (at (pos parts_in_one) ⊗ at (pos f)) (at (pos a) ⊗ at (pos k)) (omega arith)
      ]
    ]

-- two amounts that are not negative, weighed, sum to zero: one with a weight above zero is zero
weight-zero : (r a m n : ℕ) → r * m + a * n ≡ 0 → 0 < r → m ≡ 0
weight-zero r a zero n e h = refl
weight-zero r a (suc m) n e h = let one : 0 < m + 1 = omega arith in absurd (omega (arith, mul-pos h one, e))

other-zero : (r a m n : ℕ) → r * m + a * n ≡ 0 → 0 < a → n ≡ 0
other-zero r a m n e h = weight-zero a r n m (omega (arith, e)) h

-- the lead: a the LTA share, x and y the leads of one total over the other
no_lead : (a r : ℕ) (x y : ℤ) → r + a ≡ parts_in_one → pos 0 ≤ℤ x → pos 0 ≤ℤ y → (pos parts_in_one -ℤ pos a) *ℤ x +ℤ pos a *ℤ y ≡ pos 0 → (0 < r → x ≡ pos 0) × (0 < a → y ≡ pos 0)
no_lead a r (negsuc m) y h hx hy e = absurd hx.le
no_lead a r (pos m) (negsuc n) h hx hy e = absurd hy.le
no_lead a r (pos m) (pos n) h hx hy e =
    let flat : r * m + a * n ≡ 0 = omega (arith, eq-fact ((at (pos parts_in_one) ⊖ at (pos a)) ⊗ at (pos m) ⊕ at (pos a) ⊗ at (pos n)) (at (pos 0)) e, ap (λ (k : ℕ). k * m) h) in
    (λ l. ap pos (weight-zero r a m n flat l), λ l. ap pos (other-zero r a m n flat l))

-- no lead
not-ahead : (x y : ℤ) → positive (x -ℤ y) ≡ pos 0 → x ≤ℤ y
not-ahead x y e = le-by (at x) (at y) (omega (arith, le-fact (at x ⊖ at y) (at (pos 0)) (subst (λ (z : ℤ). (x -ℤ y) ≤ℤ z) e (larger-right (pos 0) (x -ℤ y)))))

above_zero : (f : ℕ) → pos 0 <ℤ pos f → 0 < f
above_zero f h = ltb→lt 0 f h.lt

below : (v n : ℕ) → pos v <ℤ pos n → v < n
below v n h = ltb→lt v n h.lt

module _ (c : Case) (ok : Placed c) (o : PairsOnce c) (d : Prices) (p : Plan) (cl : Clearing c p) (one : p.den ≡ 1) (no_gap : gap c p d ≡ pos 0)
    (x : Solution) (same : Same c p x) (agree : Agree c p x) (fe : Feasible c x) where
  accounted : Accounted c p d (gap c p d)
  accounted = account.accounted c ok d p cl one (gap c p d) refl

  order-zero : (i : ℕ) → i < c.orders → pos parts_in_one *ℤ (positive (pos (c.quantity i) *ℤ order_gain c (multipliers_of c d) i) -ℤ pos (p.volume i) *ℤ order_gain c (multipliers_of c d) i) ≡ pos 0
  unfolding multipliers_of order_gain order_shortfall earned order_surplus surplus_of
  order-zero i h = accounted.order-zero no_gap i h

  -- the flow-based share is α₁
  weight : pos (parts_in_one * p.den) -ℤ pos p.share ≡ x.alpha1
  weight = rest p.den x.den (pos p.share) x.alpha1 x.alpha2 same.den same.share fe.network.alpha-sum
    where
      rest : (e f : ℕ) (s a b : ℤ) → e ≡ f → s ≡ b → a +ℤ b ≡ pos (parts_in_one * f) → pos (parts_in_one * e) -ℤ s ≡ a
      rest e f s a b u w h = eq-by (at (pos (parts_in_one * e)) ⊖ at s) (at a) (omega (arith, eq-fact (at s) (at b) w, eq-fact (at a ⊕ at b) (at (pos (parts_in_one * f))) h))

  some-flow-based : pos 0 <ℤ x.alpha1 → 0 < parts_in_one - p.share
  some-flow-based h = by p.den p.share x.alpha1 one weight h
    where
      by : (e a : ℕ) (z : ℤ) → e ≡ 1 → pos (parts_in_one * e) -ℤ pos a ≡ z → pos 0 <ℤ z → 0 < parts_in_one - a
      by e a (pos n) one q h = omega (arith, above_zero n h, eq-fact (at (pos (parts_in_one * e)) ⊖ at (pos a)) (at (pos n)) q)
      by e a (negsuc n) one q h = absurd h.lt

  nothing_left : lead_left c p d ≡ pos 0
  unfolding all_shortfalls
  nothing_left = le_antisym (at_most (gap c p d) (all_shortfalls c p d) (lead_left c p d) no_gap accounted.account all_in) accounted.left_in
    where
      all_in : pos 0 ≤ℤ all_shortfalls c p d
      all_in = add-nonneg (add-nonneg (sum_nonneg c.orders (λ i. order_shortfall c p d i) accounted.order-in) (sum_nonneg c.branches (λ m. branch_shortfall c p d m) accounted.branch_in)) (sum_nonneg c.links (λ l. link_shortfall c p d l) accounted.link-in)

      at_most : (g a l : ℤ) → g ≡ pos 0 → pos parts_in_one *ℤ g ≡ a +ℤ l → pos 0 ≤ℤ a → l ≤ℤ pos 0
      at_most g a l z e h = le-by (at l) (at (pos 0)) (omega (arith, eq-fact (at g) (at (pos 0)) z, eq-fact (at (pos parts_in_one) ⊗ at g) (at a ⊕ at l) e, le-fact (at (pos 0)) (at a) h))

  leads : 0 < c.links → (0 < parts_in_one - p.share → positive (link_total c d -ℤ branch_total c d) ≡ pos 0) × (0 < p.share → positive (branch_total c d -ℤ link_total c d) ≡ pos 0)
  unfolding weighed_lead
  leads h = no_lead p.share (parts_in_one - p.share) (positive (link_total c d -ℤ branch_total c d)) (positive (branch_total c d -ℤ link_total c d)) (omega (arith, cl.share-in, one))
      (larger-left (pos 0) (link_total c d -ℤ branch_total c d)) (larger-left (pos 0) (branch_total c d -ℤ link_total c d)) (sym (left-with c p d h) ∙ nothing_left)

  branch-total : pos parts_in_one *ℤ margin_value c (multipliers_of c d) ≡ branch_total c d
  unfolding multipliers_of margin_value branch_total branch_value
  branch-total = refl

  link-total : capacity_value c (multipliers_of c d) ≡ link_total c d
  unfolding multipliers_of capacity_value liabilities
  link-total = prices.liabilities-are c ok d

  pub slackness : Slackness c x (multipliers_of c d)
  unfolding multipliers_of branch_shortfall branch_use branch_room link_shortfall spread capacity_lta gap
  slackness = record {
    accepted-earns = λ i h used. accepted-gains (c.quantity i) (p.volume i) _ (above_zero (p.volume i) (subst (λ (z : ℤ). pos 0 <ℤ z) (sym (same.volume i h)) used)) (order-zero i h);
    left-earns-nothing = λ i h open-part. left-gains-nothing (c.quantity i) (p.volume i) _ (not-whole (p.volume i) (c.quantity i) p.den x.den (x.accepted i) (same.volume i h) same.den one open-part) (order-zero i h);
    margin-used = λ m h priced.
        sym (sum-ext c.zones (λ l. c.ptdf m l *ℤ fb_part c p l) (λ l. c.ptdf m l *ℤ x.netpos_fb l) (λ l g. ap (λ (z : ℤ). c.ptdf m l *ℤ z) (agree.fb-part-is l g)))
        ∙ used-up (d.shadow m) (branch_room c p m) (branch_use c p m) priced (accounted.branch-zero no_gap m h)
        ∙ ap (λ (z : ℤ). z *ℤ c.ram m) weight;
    capacity-used = λ l k hl hk. extended.by-link c (λ l k. pos 0 <ℤ positive (zone_price c d k -ℤ zone_price c d l) → pos parts_in_one *ℤ x.flow_lta l k ≡ x.alpha2 *ℤ capacity_lta c l k) l k
        (λ j h priced. ap (λ (z : ℤ). pos parts_in_one *ℤ z) (sym (same.flow j h)) ∙ capacity-full (c.capacity j) p.share (p.flow j) (spread c d j) priced (accounted.link-zero no_gap j h)
        ∙ (λ i. same.share i *ℤ sym (extended.of-link c o (λ j. pos (c.capacity j)) j h) i))
        (λ g priced. ap (λ (z : ℤ). pos parts_in_one *ℤ z) (extended.unlinked-zero c ok o p x same fe l k hl hk g) ∙ nothing x.alpha2
        ∙ ap (λ (z : ℤ). x.alpha2 *ℤ z) (sym (extended.of_none c (λ j. pos (c.capacity j)) l k g)));
    flow-priced = prices.complementary c ok o d p cl x same fe (no_more (bound c d) (welfare c p) p.den one no_gap);
    flow-based-best = λ h weighed. rw (link-total, branch-total) (not-ahead (link_total c d) (branch_total c d) ((leads h).0 (some-flow-based weighed)));
    long-term-best = λ weighed.
        let l = above_zero p.share (subst (λ (z : ℤ). pos 0 <ℤ z) (sym same.share) weighed) in
        rw (link-total, branch-total) (not-ahead (branch_total c d) (link_total c d) ((leads (some-link l)).1 l));
  }
    where
      not-whole : (v q e f : ℕ) (a : ℤ) → pos v ≡ a → e ≡ f → e ≡ 1 → a <ℤ pos (f * q) → v < q
      not-whole v q e f a u w one h = let l = below v (f * q) (subst (λ (z : ℤ). z <ℤ pos (f * q)) (sym u) h) in let g : f ≡ 1 = omega (arith, w, one) in omega (arith, l, ap (λ (k : ℕ). k * q) g)

      nothing : (a : ℤ) → pos parts_in_one *ℤ pos 0 ≡ a *ℤ pos 0
      nothing a = eq-by (at (pos parts_in_one) ⊗ at (pos 0)) (at a ⊗ at (pos 0)) (omega arith)

      no_more : (b w : ℤ) (e : ℕ) → e ≡ 1 → b -ℤ w ≡ pos 0 → pos e *ℤ b ≡ w
      no_more b w e one h = eq-by (at (pos e) ⊗ at b) (at w) (omega (arith, eq-fact (at b ⊖ at w) (at (pos 0)) h, ap (λ (k : ℕ). k * up b) one, ap (λ (k : ℕ). k * dn b) one))

      some-link : 0 < p.share → 0 < c.links
      some-link h = elim (dec_lt 0 c.links) [ yes l ↦ l | no g ↦ absurd (omega (arith, h, cl.without-links (omega arith))) ]

-- FOR AN ACCEPTED HOUR, whatever commercial flows carry its flow-based part
pub hour-slackness : (s t : List ℕ) (room : ℕ) → Accepted s t room → gap (case_of s) (plan_of s t) (prices_of s t) ≡ pos 0
    → (line : ℕ → ℕ → Bool) (r : IsFeasible (case_of s) line (plan_of s t)) → Slackness (case_of s) r.solution (multipliers_of (case_of s) (prices_of s t))
unfolding reports plan_of
hour-slackness s t room a z line r =
    slackness (case_of s) (case-sound s readable).placed (case-pairs s readable) (prices_of s t) (plan_of s t) (allowed s t room a) refl z r.solution r.same r.agree r.feasible
  where
    readable : Readable s
    readable = (sound s t room (subst (λ (n : ℕ). T (reports n)) (sym a.answer) tt)).readable
