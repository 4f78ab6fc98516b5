-- Weak duality of the clearing: no clearing's welfare exceeds the bound (accuracy), and where there is a link the
-- rent covers the link total, and so owed, up to the gap (coverage). Assumes nothing.
use Rattle.std.specs.Prelude.{◌≡◌, refl, Bool, true, false, cond, eqb, negsuc, ◌+ℤ◌, ◌-ℤ◌, ◌*ℤ◌, ◌≤ℤ◌}
use Rattle.std.proofs.Math.Path.{sym}
use Rattle.std.proofs.Common.{ap, ◌∙◌, mul-le-mul_left, arith, eq-eqb, ne_eqb}
use Prim.Native.Nat.{ℕ, ◌+◌, ◌*◌, ◌-◌, ◌≤◌, ◌<◌}
use Rattle.std.proofs.Math.Nat.{mul-le-mul_right}
use Rattle.std.proofs.Math.Decide.{dec_lt}
use Rattle.std.proofs.Math.IntN.{ℤ, pos}
use Rattle.std.specs.Int.Signed.{≤ℤ_refl}
use Rattle.base_integers.specs.Meaning.Difference.{up, dn}
use Rattle.base_integers.specs.Steps.Difference.{at, ◌⊕◌, ◌⊖◌, ◌⊗◌, ⊝◌, le-by, eq-by, le-fact, eq-fact}
use Rattle.base_integers.specs.Meaning.Order.{larger, positive}
use Rattle.base_integers.specs.Steps.Order.{cond_ind, diff-nonneg, mul-nonneg, larger-left, larger-right, scaled}
use Rattle.base_integers.specs.Meaning.Sums.{sum_to, only}
use Rattle.base_integers.specs.Steps.Sums.{sum-ext, sum-le, sum-zero, sum-add, sum-sub, sum-scale, sum-scale-l, gather, sum-weights}
use Rattle.base_limits.specs.Meaning.Limits.{parts_in_one, grains_of}
use Rattle.rules.specs.Meaning.Hour.{Case, Plan, Prices, signed, buys, above, order_net, net, inflow, outflow, lta_part, fb_part, net_sum, link_use, link_room, branch_use, branch_room, branch_price, zone_price, order_welfare, welfare, surplus_of, order_surplus, surplus, branch_value, branch_total, spread, link_value, link_total, link_owed, owed, no_link, network_bound, bound, gap, rent}
use Rattle.rules.specs.Meaning.Clearing.{Placed, Clearing}

-- RULE 10'S PART OF THE NETWORK: the branch total alone without links (S-6), the larger of both totals with one
the-first : (b : Bool) (x y : ℤ) → b ≡ true → cond b x y ≡ x
the-first b x y e = ap (λ (b : Bool). cond b x y) e

the_second : (b : Bool) (x y : ℤ) → b ≡ false → cond b x y ≡ y
the_second b x y e = ap (λ (b : Bool). cond b x y) e

pub without-links-is : (c : Case) (d : Prices) → c.links ≡ 0 → network_bound c d ≡ branch_total c d
unfolding network_bound no_link
without-links-is c d e = the-first _ _ _ (eq-eqb c.links 0 e)

pub with-links-is : (c : Case) (d : Prices) → 0 < c.links → network_bound c d ≡ larger (branch_total c d) (link_total c d)
unfolding network_bound no_link
with-links-is c d h = the_second _ _ _ (ne_eqb c.links 0 none)
  where
    none : c.links ≡ 0 → ⊥
    none e = omega (arith, h)

pub branches-within : (c : Case) (d : Prices) → branch_total c d ≤ℤ network_bound c d
unfolding network_bound
branches-within c d = cond_ind (no_link c) (branch_total c d) (larger (branch_total c d) (link_total c d)) (λ z. branch_total c d ≤ℤ z) (λ t. ≤ℤ_refl (branch_total c d)) (λ t. larger-left (branch_total c d) (link_total c d))

pub links-within : (c : Case) (d : Prices) → 0 < c.links → link_total c d ≤ℤ network_bound c d
links-within c d h = rw (with-links-is c d h) (larger-right (branch_total c d) (link_total c d))

-- weighed by an LTA share, which is 0 without links, the link total is at most this part in every hour
pub weighed-within : (c : Case) (d : Prices) (a : ℤ) → pos 0 ≤ℤ a → (c.links ≡ 0 → a ≡ pos 0) → pos 0 ≤ℤ (a *ℤ (network_bound c d -ℤ link_total c d))
weighed-within c d a h none = elim (dec_lt 0 c.links) [ yes l ↦ mul-nonneg a (network_bound c d -ℤ link_total c d) h (diff-nonneg (links-within c d l)) | no g ↦ nothing (network_bound c d -ℤ link_total c d) (none (omega arith)) ]
  where
    nothing : (x : ℤ) → a ≡ pos 0 → pos 0 ≤ℤ (a *ℤ x)
    nothing x e = rw e (le-by (at (pos 0)) (at (pos 0) ⊗ at x) (omega arith))

-- at most e q units at t each bring at most e times what q units bring, where that is positive
pub at_most : (v q e : ℕ) (t : ℤ) → v ≤ e * q → (pos v *ℤ t) ≤ℤ (pos e *ℤ positive (pos q *ℤ t))
at_most v q e (pos k) h = le-by (at (pos v) ⊗ at (pos k)) (at (pos e) ⊗ at (positive (pos q *ℤ pos k)))
    (omega (
      arith,
      mul-le-mul_right k h,
      le-fact (at (pos e) ⊗ (at (pos q) ⊗ at (pos k))) (at (pos e) ⊗ at (positive (pos q *ℤ pos k))) (scaled e (larger-right (pos 0) (pos q *ℤ pos k))),
    ))
at_most v q e (negsuc k) h = le-by (at (pos v) ⊗ at (negsuc k)) (at (pos e) ⊗ at (positive (pos q *ℤ negsuc k)))
    (omega (
      arith,
      le-fact (at (pos e) ⊗ at (pos 0)) (at (pos e) ⊗ at (positive (pos q *ℤ negsuc k))) (scaled e (larger-left (pos 0) (pos q *ℤ negsuc k))),
    ))

-- a signed volume at a price is its value, signed
pub signed-times : (b : Bool) (x y : ℤ) → signed b (x *ℤ y) ≡ signed b x *ℤ y
signed-times true x y = refl
signed-times false x y = eq-by (⊝◌ (at x ⊗ at y)) ((⊝◌ (at x)) ⊗ at y) (omega arith)

-- at a price in grains it is 100,000 times its value at the price in cents
pub times-grains : (x y : ℤ) → x *ℤ grains_of y ≡ pos parts_in_one *ℤ (x *ℤ y)
times-grains x y = eq-by (at x ⊗ (at (pos parts_in_one) ⊗ at y)) (at (pos parts_in_one) ⊗ (at x ⊗ at y)) (omega arith)

-- one order: its welfare less its volume at the zone's price is at most `e` times its surplus
pub order_le : (b : Bool) (v q e : ℕ) (a z : ℤ) → v ≤ e * q
    → (pos parts_in_one *ℤ signed b (pos v *ℤ a) -ℤ signed b (pos v) *ℤ z) ≤ℤ (pos e *ℤ positive (pos q *ℤ above b (pos parts_in_one *ℤ a) z))
order_le true v q e a z h =
    rw (eq-by (at (pos parts_in_one) ⊗ (at (pos v) ⊗ at a) ⊖ at (pos v) ⊗ at z) (at (pos v) ⊗ (at (pos parts_in_one) ⊗ at a ⊖ at z)) (omega arith))
    (at_most v q e (pos parts_in_one *ℤ a -ℤ z) h)
order_le false v q e a z h =
    rw (eq-by (at (pos parts_in_one) ⊗ (⊝◌ (at (pos v) ⊗ at a)) ⊖ (⊝◌ (at (pos v))) ⊗ at z) (at (pos v) ⊗ (at z ⊖ at (pos parts_in_one) ⊗ at a)) (omega arith))
    (at_most v q e (z -ℤ pos parts_in_one *ℤ a) h)

pub link-le : (f k a : ℕ) (t : ℤ) → f * parts_in_one ≤ a * k → (pos parts_in_one *ℤ (pos f *ℤ t)) ≤ℤ (pos a *ℤ (pos k *ℤ positive t))
link-le f k a (pos n) h = le-by (at (pos parts_in_one) ⊗ (at (pos f) ⊗ at (pos n))) (at (pos a) ⊗ (at (pos k) ⊗ at (positive (pos n))))
    (omega (arith, mul-le-mul_right n h, mul-le-mul_left (a * k) (le-fact (at (pos n)) (at (positive (pos n))) (larger-right (pos 0) (pos n)))))
link-le f k a (negsuc n) h = le-by (at (pos parts_in_one) ⊗ (at (pos f) ⊗ at (negsuc n))) (at (pos a) ⊗ (at (pos k) ⊗ at (positive (negsuc n))))
    (omega (arith, mul-le-mul_left (a * k) (le-fact (at (pos 0)) (at (positive (negsuc n))) (larger-left (pos 0) (negsuc n)))))

-- the last step: r is the rent, split into what the branches and the links bound; g is the branches' total in
-- cents, o the links', m the network's bound
weighed : (r x y g o m : ℤ) (e a k : ℕ) → k + a ≡ parts_in_one * e → r ≡ x +ℤ y
    → x ≤ℤ (pos k *ℤ g) → (pos parts_in_one *ℤ y) ≤ℤ (pos a *ℤ o) → (pos parts_in_one *ℤ g) ≤ℤ m → pos 0 ≤ℤ (pos a *ℤ (m -ℤ o)) → r ≤ℤ (pos e *ℤ m)
weighed r x y g o m e a k hk hr hx hy hg ho =
    le-by (at r) (at (pos e) ⊗ at m)
    (omega (
      arith,
      eq-fact (at r) (at x ⊕ at y) hr,
      le-fact (at x) (at (pos k) ⊗ at g) hx,
      le-fact (at (pos parts_in_one) ⊗ at y) (at (pos a) ⊗ at o) hy,
      le-fact (at (pos k) ⊗ (at (pos parts_in_one) ⊗ at g)) (at (pos k) ⊗ at m) (scaled k hg),
      le-fact (at (pos 0)) (at (pos a) ⊗ (at m ⊖ at o)) ho,
      ap (λ (j : ℕ). j * up m) hk,
      ap (λ (j : ℕ). j * dn m) hk,
    ))

pub rest : (e a : ℕ) → a ≤ parts_in_one * e → pos (parts_in_one * e) -ℤ pos a ≡ pos (parts_in_one * e - a)
rest e a h = eq-by (at (pos (parts_in_one * e)) ⊖ at (pos a)) (at (pos (parts_in_one * e - a))) (omega arith)

module _ (c : Case) (ok : Placed c) (d : Prices) (p : Plan) (cl : Clearing c p) where
  -- the rent, order by order
  unfoldable pub by-orders : ℤ
  by-orders = sum_to c.orders (λ i. order_net c p i *ℤ zone_price c d (c.zone i))

  pub rent-is : rent c p d ≡ by-orders
  unfolding rent net by-orders
  rent-is = gather c.orders c.zones c.zone (λ i. order_net c p i) (zone_price c d) ok.zone-in

  -- welfare less rent is at most the surpluses
  pub welfare-le : (welfare c p -ℤ rent c p d) ≤ℤ (pos p.den *ℤ surplus c d)
  unfolding welfare order_welfare order_net by-orders surplus surplus_of order_surplus
  welfare-le =
      rw (
        rent-is,
        ← sum-scale-l c.orders (λ i. order_welfare c p i) (pos parts_in_one),
        ← sum-sub c.orders (λ i. pos parts_in_one *ℤ order_welfare c p i) (λ i. order_net c p i *ℤ zone_price c d (c.zone i)),
        ← sum-scale-l c.orders (λ i. order_surplus c d i) (pos p.den),
      )
      (sum-le c.orders _ _ (λ i l. order_le (buys c i) (p.volume i) (c.quantity i) p.den (c.price i) (zone_price c d (c.zone i)) (cl.volume-in i l)))

  -- the LTA parts, weighed by zone, are the flows weighed by link
  lta-weighed : (w : ℕ → ℤ) → sum_to c.zones (λ z. lta_part c p z *ℤ w z) ≡ sum_to c.links (λ l. pos (p.flow l) *ℤ (w (c.to l) -ℤ w (c.from l)))
  unfolding lta_part inflow outflow
  lta-weighed w =
      sum-ext c.zones _ _ (λ z l. eq-by ((at (ins z) ⊖ at (outs z)) ⊗ at (w z)) (at (ins z) ⊗ at (w z) ⊖ at (outs z) ⊗ at (w z)) (omega arith))
      ∙ sum-sub c.zones (λ z. ins z *ℤ w z) (λ z. outs z *ℤ w z)
      ∙ (cc (gather c.links c.zones c.to (λ l. pos (p.flow l)) w ok.to-in, gather c.links c.zones c.from (λ l. pos (p.flow l)) w ok.from-in))
      ∙ sym (sum-sub c.links (λ l. pos (p.flow l) *ℤ w (c.to l)) (λ l. pos (p.flow l) *ℤ w (c.from l)))
      ∙ sum-ext c.links _ _ (λ l h. eq-by (at (pos (p.flow l)) ⊗ at (w (c.to l)) ⊖ at (pos (p.flow l)) ⊗ at (w (c.from l))) (at (pos (p.flow l)) ⊗ (at (w (c.to l)) ⊖ at (w (c.from l)))) (omega arith))
    where
      ins : ℕ → ℤ
      ins z = sum_to c.links (λ l. only (eqb (c.to l) z) (pos (p.flow l)))

      outs : ℕ → ℤ
      outs z = sum_to c.links (λ l. only (eqb (c.from l) z) (pos (p.flow l)))

  c0 : ℤ
  c0 = pos parts_in_one *ℤ d.system

  unfoldable pub over-links : ℤ
  over-links = sum_to c.links (λ l. pos (p.flow l) *ℤ (spread c d l))

  unfoldable pub over-branches : ℤ
  over-branches = sum_to c.zones (λ z. fb_part c p z *ℤ zone_price c d z)

  pub rent-split : rent c p d ≡ over-branches +ℤ over-links
  unfolding rent over-branches over-links fb_part spread
  rent-split =
      sum-ext c.zones _ _ (λ z l. eq-by (at (net c p z) ⊗ at (zone_price c d z)) ((at (net c p z) ⊖ at (lta_part c p z)) ⊗ at (zone_price c d z) ⊕ at (lta_part c p z) ⊗ at (zone_price c d z)) (omega arith))
      ∙ sum-add c.zones (λ z. fb_part c p z *ℤ zone_price c d z) (λ z. lta_part c p z *ℤ zone_price c d z)
      ∙ (cc (lta-weighed (zone_price c d)))

  pub links-le : (pos parts_in_one *ℤ over-links) ≤ℤ (pos p.share *ℤ link_total c d)
  unfolding over-links link_total link_value link_use link_room
  links-le =
      rw (
        ← sum-scale-l c.links (λ l. pos (p.flow l) *ℤ (spread c d l)) (pos parts_in_one),
        ← sum-scale-l c.links (λ l. pos (c.capacity l) *ℤ positive (spread c d l)) (pos p.share),
      )
      (sum-le c.links _ _ (λ l h. link-le (p.flow l) (c.capacity l) p.share (spread c d l) (cl.link l h)))

  -- the flow-based parts sum to zero, since the net positions do and each flow leaves one zone and enters another
  fb-balance : (k : ℤ) → sum_to c.zones (λ z. fb_part c p z *ℤ k) ≡ pos 0
  unfolding fb_part net_sum
  fb-balance k =
      sum-ext c.zones _ _ (λ z l. eq-by ((at (net c p z) ⊖ at (lta_part c p z)) ⊗ at k) (at (net c p z) ⊗ at k ⊖ at (lta_part c p z) ⊗ at k) (omega arith))
      ∙ sum-sub c.zones (λ z. net c p z *ℤ k) (λ z. lta_part c p z *ℤ k)
      ∙ (cc (sum-scale c.zones (λ z. net c p z) k, cl.balance, lta-weighed (λ z. k), no_flow, eq-by (at (pos 0) ⊗ at k) (at (pos 0)) (omega arith)))
    where
      no_flow : sum_to c.links (λ l. pos (p.flow l) *ℤ (k -ℤ k)) ≡ pos 0
      no_flow = sum-ext c.links _ _ (λ l h. eq-by (at (pos (p.flow l)) ⊗ (at k ⊖ at k)) (at (pos 0)) (omega arith)) ∙ sum-zero c.links

  -- the parts at the zones' prices are the uses of the branches at the shadow prices
  pub branches-are : over-branches ≡ sum_to c.branches (λ m. branch_use c p m *ℤ pos (d.shadow m))
  unfolding over-branches zone_price branch_price branch_use c0
  branches-are =
      sum-ext c.zones _ _ (λ z l. eq-by (at (fb z) ⊗ (at c0 ⊕ at (sh z))) (at (fb z) ⊗ at c0 ⊕ at (fb z) ⊗ at (sh z)) (omega arith))
      ∙ sum-add c.zones (λ z. fb z *ℤ c0) (λ z. fb z *ℤ sh z)
      ∙ (cc (fb-balance c0, inner, eq-by (at (pos 0) ⊕ at (sum_to c.branches (λ m. branch_use c p m *ℤ pos (d.shadow m)))) (at (sum_to c.branches (λ m. branch_use c p m *ℤ pos (d.shadow m)))) (omega arith)))
    where
      fb : ℕ → ℤ
      fb z = fb_part c p z

      sh : ℕ → ℤ
      sh z = sum_to c.branches (λ m. branch_price c d z m)

      inner : sum_to c.zones (λ z. fb z *ℤ sh z) ≡ sum_to c.branches (λ m. branch_use c p m *ℤ pos (d.shadow m))
      inner = sum-weights c.zones c.branches fb (λ m. pos (d.shadow m)) c.ptdf

  unfoldable pub in-cents : ℤ
  in-cents = sum_to c.branches (λ m. branch_value c d m)

  pub branches-le : over-branches ≤ℤ (pos (parts_in_one * p.den - p.share) *ℤ in-cents)
  unfolding in-cents branch_value branch_room
  branches-le =
      rw (branches-are, ← sum-scale-l c.branches (λ m. branch_value c d m) (pos (parts_in_one * p.den - p.share)))
      (sum-le c.branches _ _ (λ m h. one (branch_use c p m) (c.ram m) (d.shadow m) (parts_in_one * p.den - p.share) (rw (rest p.den p.share cl.share-in) at (cl.branch m h))))
    where
      one : (x r : ℤ) (s k : ℕ) → x ≤ℤ (pos k *ℤ r) → (x *ℤ pos s) ≤ℤ (pos k *ℤ (r *ℤ pos s))
      one x r s k h = le-by (at x ⊗ at (pos s)) (at (pos k) ⊗ (at r ⊗ at (pos s))) (omega (arith, mul-le-mul_right s (le-fact (at x) (at (pos k) ⊗ at r) h)))

  pub share-within : pos 0 ≤ℤ (pos p.share *ℤ (network_bound c d -ℤ link_total c d))
  share-within = weighed-within c d (pos p.share) (le-by (at (pos 0)) (at (pos p.share)) (omega arith)) (λ e. ap pos (cl.without-links e))

  pub rent-le : rent c p d ≤ℤ (pos p.den *ℤ network_bound c d)
  unfolding branch_total in-cents
  rent-le = weighed (rent c p d) over-branches over-links in-cents (link_total c d) (network_bound c d) p.den p.share (parts_in_one * p.den - p.share)
      (omega (arith, cl.share-in)) rent-split branches-le links-le (branches-within c d) share-within

  -- ACCURACY: no clearing's welfare is above the bound
  pub welfare-bound : welfare c p ≤ℤ (pos p.den *ℤ bound c d)
  unfolding bound
  welfare-bound = le-by (at (welfare c p)) (at (pos p.den) ⊗ (at ss ⊕ at mm))
      (omega (arith, le-fact (at (welfare c p) ⊖ at (rent c p d)) (at (pos p.den) ⊗ at ss) welfare-le, le-fact (at (rent c p d)) (at (pos p.den) ⊗ at mm) rent-le))
    where
      ss : ℤ
      ss = surplus c d

      mm : ℤ
      mm = network_bound c d

-- with the gap of a proposal q at the prices d
pub accuracy : (c : Case) → Placed c → (d : Prices) (q p : Plan) → Clearing c p → welfare c p ≤ℤ (pos p.den *ℤ (welfare c q +ℤ gap c q d))
unfolding gap
accuracy c ok d q p cl = rw (eq-by (at (welfare c q) ⊕ (at (bound c d) ⊖ at (welfare c q))) (at (bound c d)) (omega arith)) (welfare-bound c ok d p cl)

-- COVERAGE: where there is a link (S-6), the rent of a clearing over denominator 1 is at least the link total less
-- the gap
pub links-covered : (c : Case) → 0 < c.links → Placed c → (d : Prices) (q : Plan) → Clearing c q → q.den ≡ 1 → (link_total c d -ℤ gap c q d) ≤ℤ rent c q d
unfolding gap bound
links-covered c linked ok d q cl one = le-by (at oo ⊖ (at ss ⊕ at mm ⊖ at ww)) (at rr)
    (omega (
      arith,
      le-fact (at ww ⊖ at rr) (at (pos q.den) ⊗ at ss) (welfare-le c ok d q cl),
      ap (λ (k : ℕ). k * up ss) one,
      ap (λ (k : ℕ). k * dn ss) one,
      le-fact (at oo) (at mm) (links-within c d linked),
    ))
  where
    ss : ℤ
    ss = surplus c d

    oo : ℤ
    oo = link_total c d

    mm : ℤ
    mm = network_bound c d

    ww : ℤ
    ww = welfare c q

    rr : ℤ
    rr = rent c q d

-- a larger volume brings no less at a positive spread
pub more-le : (v k : ℕ) (t : ℤ) → v ≤ k → (pos v *ℤ positive t) ≤ℤ (pos k *ℤ positive t)
more-le v k t h = by (k - v) (positive t) (omega arith) (larger-left (pos 0) t)
  where
    by : (e : ℕ) (t : ℤ) → k ≡ v + e → pos 0 ≤ℤ t → (pos v *ℤ t) ≤ℤ (pos k *ℤ t)
    by e t h n = le-by (at (pos v) ⊗ at t) (at (pos k) ⊗ at t)
        (omega (arith, le-fact (at (pos e) ⊗ at (pos 0)) (at (pos e) ⊗ at t) (scaled e n), ap (λ (j : ℕ). j * up t) h, ap (λ (j : ℕ). j * dn t) h))

-- so it covers owed too, where no contracted volume is above its capacity (S-4)
pub owed-le : (c : Case) → ((l : ℕ) → l < c.links → c.contracted l ≤ c.capacity l) → (d : Prices) → owed c d ≤ℤ link_total c d
unfolding owed link_owed link_total link_value
owed-le c within d = sum-le c.links _ _ (λ l h. more-le (c.contracted l) (c.capacity l) (spread c d l) (within l h))

pub coverage : (c : Case) → 0 < c.links → Placed c → ((l : ℕ) → l < c.links → c.contracted l ≤ c.capacity l) → (d : Prices) (q : Plan) → Clearing c q → q.den ≡ 1 → (owed c d -ℤ gap c q d) ≤ℤ rent c q d
coverage c linked ok within d q cl one = less (owed c d) (link_total c d) (gap c q d) (rent c q d) (owed-le c within d) (links-covered c linked ok d q cl one)
  where
    less : (o k g r : ℤ) → o ≤ℤ k → (k -ℤ g) ≤ℤ r → (o -ℤ g) ≤ℤ r
    less o k g r h i = le-by (at o ⊖ at g) (at r) (omega (arith, le-fact (at o) (at k) h, le-fact (at k ⊖ at g) (at r) i))
