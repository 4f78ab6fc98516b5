-- The gap, taken apart exactly: the shortfall of each order, branch and link, and the slack in the network's bound.
-- Assumes nothing.
use Rattle.std.specs.Prelude.{◌≡◌, ℕ, ◌+◌, ◌*◌, ◌-◌, ◌<◌, ℤ, ◌+ℤ◌, ◌-ℤ◌, ◌*ℤ◌, ◌≤ℤ◌}
use Rattle.std.proofs.Common.{ap, arith}
use Rattle.std.proofs.Math.Nat.{mul-le-mul_right}
use Rattle.std.proofs.Math.IntN.{pos}
use Rattle.base_integers.specs.Meaning.Difference.{up, dn}
use Rattle.base_integers.specs.Steps.Difference.{at, ◌⊕◌, ◌⊖◌, ◌⊗◌, le-by, eq-by, le-fact, eq-fact}
use Rattle.base_integers.specs.Steps.Order.{le_trans, le_antisym, diff-nonneg, add-nonneg, times-nonneg}
use Rattle.base_integers.specs.Meaning.Sums.{sum_to}
use Rattle.base_integers.specs.Steps.Sums.{sum-sub, sum-scale-l, sum_nonneg, one-le-sum}
use Rattle.base_limits.specs.Meaning.Limits.{parts_in_one}
use Rattle.rules.specs.Meaning.Hour.{Case, Plan, Prices, buys, order_net, link_use, link_room, branch_use, branch_room, zone_price, order_welfare, welfare, surplus_of, order_surplus, surplus, branch_value, branch_total, spread, link_value, link_total, network_bound, bound, rent}
use Rattle.rules.specs.Meaning.Clearing.{Placed, Clearing}
use Rattle.rules.proofs.Steps.Duality.{branches-within, share-within, order_le, link-le, rest, by-orders, rent-is, rent-split, over-links, over-branches, branches-are, in-cents}

unfoldable pub order_short : Case → Prices → Plan → ℕ → ℤ
order_short c d p i = pos p.den *ℤ order_surplus c d i
    -ℤ (pos parts_in_one *ℤ order_welfare c p i -ℤ order_net c p i *ℤ zone_price c d (c.zone i))

unfoldable pub branch_short : Case → Prices → Plan → ℕ → ℤ
branch_short c d p m = pos (parts_in_one * p.den - p.share) *ℤ (branch_value c d m) -ℤ branch_use c p m *ℤ pos (d.shadow m)

-- in hundred-thousandths
unfoldable pub link_short : Case → Prices → Plan → ℕ → ℤ
link_short c d p l = pos p.share *ℤ (link_value c d l)
    -ℤ pos parts_in_one *ℤ (pos (p.flow l) *ℤ (spread c d l))

-- the slack: each total, weighed by its share, is at most the network's bound
unfoldable pub slack : Case → Prices → Plan → ℤ
slack c d p = pos (parts_in_one * p.den - p.share) *ℤ (network_bound c d -ℤ branch_total c d) +ℤ pos p.share *ℤ (network_bound c d -ℤ link_total c d)

-- the last step, in plain variables
sums-up : (s w r x y g o m os bs ls : ℤ) (e a k : ℕ) → k + a ≡ parts_in_one * e → r ≡ x +ℤ y
    → os ≡ pos e *ℤ s -ℤ (w -ℤ r) → bs ≡ pos k *ℤ g -ℤ x → ls ≡ pos a *ℤ o -ℤ pos parts_in_one *ℤ y
    → pos parts_in_one *ℤ (pos e *ℤ (s +ℤ m) -ℤ w) ≡ pos parts_in_one *ℤ (os +ℤ bs) +ℤ ls +ℤ (pos k *ℤ (m -ℤ pos parts_in_one *ℤ g) +ℤ pos a *ℤ (m -ℤ o))
sums-up s w r x y g o m os bs ls e a k hk hr ho hb hl =
    eq-by (at (pos parts_in_one) ⊗ (at (pos e) ⊗ (at s ⊕ at m) ⊖ at w))
    (at (pos parts_in_one) ⊗ (at os ⊕ at bs) ⊕ at ls ⊕ (at (pos k) ⊗ (at m ⊖ at (pos parts_in_one) ⊗ at g) ⊕ at (pos a) ⊗ (at m ⊖ at o)))
    (omega (
      arith,
      eq-fact (at r) (at x ⊕ at y) hr,
      eq-fact (at os) (at (pos e) ⊗ at s ⊖ (at w ⊖ at r)) ho,
      eq-fact (at bs) (at (pos k) ⊗ at g ⊖ at x) hb,
      eq-fact (at ls) (at (pos a) ⊗ at o ⊖ at (pos parts_in_one) ⊗ at y) hl,
      ap (λ (j : ℕ). j * up m) hk,
      ap (λ (j : ℕ). j * dn m) hk,
    ))

module _ (c : Case) (ok : Placed c) (d : Prices) (p : Plan) (cl : Clearing c p) where
  orders-sum : sum_to c.orders (λ i. order_short c d p i) ≡ pos p.den *ℤ surplus c d -ℤ (welfare c p -ℤ rent c p d)
  unfolding order_short welfare by-orders surplus
  orders-sum =
      rw (
        rent-is c ok d p cl,
        ← sum-scale-l c.orders (λ i. order_welfare c p i) (pos parts_in_one),
        ← sum-sub c.orders (λ i. pos parts_in_one *ℤ order_welfare c p i) (λ i. order_net c p i *ℤ zone_price c d (c.zone i)),
        ← sum-scale-l c.orders (λ i. order_surplus c d i) (pos p.den),
      )
      (sum-sub c.orders (λ i. pos p.den *ℤ order_surplus c d i) _)

  branches-sum : sum_to c.branches (λ m. branch_short c d p m) ≡ pos (parts_in_one * p.den - p.share) *ℤ in-cents c ok d p cl -ℤ over-branches c ok d p cl
  unfolding branch_short in-cents
  branches-sum =
      rw (branches-are c ok d p cl, ← sum-scale-l c.branches (λ m. branch_value c d m) (pos (parts_in_one * p.den - p.share)))
      (sum-sub c.branches _ _)

  links-sum : sum_to c.links (λ l. link_short c d p l) ≡ pos p.share *ℤ link_total c d -ℤ pos parts_in_one *ℤ over-links c ok d p cl
  unfolding link_short link_total over-links
  links-sum =
      rw (
        ← sum-scale-l c.links (λ l. pos (p.flow l) *ℤ (spread c d l)) (pos parts_in_one),
        ← sum-scale-l c.links (λ l. link_value c d l) (pos p.share),
      )
      (sum-sub c.links _ _)

  -- the exact decomposition, in hundred-thousandths of a microcent
  pub gap_is : pos parts_in_one *ℤ (pos p.den *ℤ bound c d -ℤ welfare c p)
      ≡ pos parts_in_one *ℤ (sum_to c.orders (λ i. order_short c d p i) +ℤ sum_to c.branches (λ m. branch_short c d p m)) +ℤ sum_to c.links (λ l. link_short c d p l) +ℤ slack c d p
  unfolding bound slack branch_total in-cents
  gap_is = sums-up (surplus c d) (welfare c p) (rent c p d) (over-branches c ok d p cl) (over-links c ok d p cl) (in-cents c ok d p cl) (link_total c d) (network_bound c d)
      (sum_to c.orders (λ i. order_short c d p i)) (sum_to c.branches (λ m. branch_short c d p m)) (sum_to c.links (λ l. link_short c d p l))
      p.den p.share (parts_in_one * p.den - p.share) (omega (arith, cl.share-in)) (rent-split c ok d p cl) orders-sum branches-sum links-sum

  -- no part is negative
  pub order-short : (i : ℕ) → i < c.orders → pos 0 ≤ℤ order_short c d p i
  unfolding order_short surplus_of order_surplus order_welfare order_net
  order-short i h = diff-nonneg (order_le (buys c i) (p.volume i) (c.quantity i) p.den (c.price i) (zone_price c d (c.zone i)) (cl.volume-in i h))

  pub link-short : (l : ℕ) → l < c.links → pos 0 ≤ℤ link_short c d p l
  unfolding link_short link_value link_use link_room
  link-short l h = diff-nonneg (link-le (p.flow l) (c.capacity l) p.share (spread c d l) (cl.link l h))

  pub branch-short : (m : ℕ) → m < c.branches → pos 0 ≤ℤ branch_short c d p m
  unfolding branch_short branch_value branch_room
  branch-short m h = diff-nonneg (one (branch_use c p m) (c.ram m) (d.shadow m) (parts_in_one * p.den - p.share) (rw (rest p.den p.share cl.share-in) at (cl.branch m h)))
    where
      one : (x r : ℤ) (s k : ℕ) → x ≤ℤ (pos k *ℤ r) → (x *ℤ pos s) ≤ℤ (pos k *ℤ (r *ℤ pos s))
      one x r s k h = le-by (at x ⊗ at (pos s)) (at (pos k) ⊗ (at r ⊗ at (pos s))) (omega (arith, mul-le-mul_right s (le-fact (at x) (at (pos k) ⊗ at r) h)))

  pub slack-short : pos 0 ≤ℤ slack c d p
  unfolding slack
  slack-short = add-nonneg (times-nonneg (parts_in_one * p.den - p.share) (diff-nonneg (branches-within c d))) (share-within c ok d p cl)

  -- so at a gap of zero no link falls short
  pub link-exact : pos p.den *ℤ bound c d ≡ welfare c p → (l : ℕ) → l < c.links → link_short c d p l ≡ pos 0
  link-exact e l h = le_antisym (le_trans (one-le-sum c.links (λ l. link_short c d p l) link-short l h)
      (none_left (pos p.den *ℤ bound c d) (welfare c p) (sum_to c.orders (λ i. order_short c d p i)) (sum_to c.branches (λ m. branch_short c d p m)) (sum_to c.links (λ l. link_short c d p l)) (slack c d p)
      e gap_is (sum_nonneg c.orders (λ i. order_short c d p i) order-short) (sum_nonneg c.branches (λ m. branch_short c d p m) branch-short) slack-short)) (link-short l h)
    where
      none_left : (b w os bs ls r : ℤ) → b ≡ w → pos parts_in_one *ℤ (b -ℤ w) ≡ pos parts_in_one *ℤ (os +ℤ bs) +ℤ ls +ℤ r → pos 0 ≤ℤ os → pos 0 ≤ℤ bs → pos 0 ≤ℤ r → ls ≤ℤ pos 0
      none_left b w os bs ls r e h ho hb hr = le-by (at ls) (at (pos 0)) (omega (
        arith,
        eq-fact (at b) (at w) e,
        eq-fact (at (pos parts_in_one) ⊗ (at b ⊖ at w)) (at (pos parts_in_one) ⊗ (at os ⊕ at bs) ⊕ at ls ⊕ at r) h,
        le-fact (at (pos 0)) (at os) ho,
        le-fact (at (pos 0)) (at bs) hb,
        le-fact (at (pos 0)) (at r) hr,
      ))
