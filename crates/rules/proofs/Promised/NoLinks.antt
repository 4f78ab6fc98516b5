-- S-6: HOURS WITHOUT LINKS. Their clearings are exactly the flow-based ones: LTA share 0, and the net positions
-- load each branch by at most its whole margin. Their bound is all surpluses plus the branch total alone, and
-- nothing is owed. At a gap of zero their rent is the branch total; where that is negative the rent is below owed,
-- so the coverage rule would be false for them. With a link the bound is the larger-of as before. Assumes nothing.
use Rattle.std.specs.Prelude.{◌≡◌, ℕ, ◌+◌, ◌*◌, ◌≤◌, ◌<◌, ℤ, ◌+ℤ◌, ◌-ℤ◌, ◌*ℤ◌, ◌≤ℤ◌, ◌<ℤ◌}
use Rattle.std.proofs.Common.{sym, subst, ◌∙◌, arith}
use Rattle.std.proofs.Math.Path.{ap}
use Rattle.std.proofs.Math.IntN.{pos}
use Rattle.base_integers.specs.Meaning.Difference.{up, dn}
use Rattle.base_integers.specs.Steps.Difference.{at, ◌⊕◌, ◌⊖◌, ◌⊗◌, le-by, eq-by, le-fact, eq-fact}
use Rattle.base_integers.specs.Meaning.Order.{larger}
use Rattle.base_integers.specs.Steps.Order.{le_antisym}
use Rattle.base_integers.specs.Meaning.Sums.{sum_to}
use Rattle.base_integers.specs.Steps.Sums.{sum-ext}
use Rattle.base_limits.specs.Meaning.Limits.{parts_in_one}
use Rattle.rules.specs.Meaning.Hour.{Case, Plan, Prices, net, inflow, outflow, lta_part, fb_part, net_sum, branch_use, branch_room, welfare, surplus, branch_total, link_total, owed, network_bound, bound, gap, rent}
use Rattle.rules.specs.Meaning.Clearing.{Placed, Clearing}
use Rattle.rules.proofs.Steps.Duality.{without-links-is, with-links-is, welfare-le, rent-le}

-- A FLOW-BASED CLEARING: rules 3 and 5 for the net positions, and LTA share 0
pub record FlowBased (c : Case) (p : Plan) : Type 0 where
  pub den-positive : 0 < p.den
  pub volume-in : (i : ℕ) → i < c.orders → p.volume i ≤ p.den * c.quantity i
  pub share-is : p.share ≡ 0
  pub balance : net_sum c p ≡ pos 0
  pub branch : (m : ℕ) → m < c.branches → sum_to c.zones (λ z. c.ptdf m z *ℤ net c p z) ≤ℤ (pos (parts_in_one * p.den) *ℤ c.ram m)

module _ (c : Case) (none : c.links ≡ 0) where
  over_none : (f : ℕ → ℤ) → sum_to c.links f ≡ pos 0
  unfolding sum_to
  over_none f = ap (λ (n : ℕ). sum_to n f) none

  -- without links no flow goes in or out
  all-flow-based : (p : Plan) (z : ℕ) → fb_part c p z ≡ net c p z
  unfolding fb_part lta_part inflow outflow
  all-flow-based p z = less (net c p z) _ _ (over_none _) (over_none _)
    where
      less : (x a b : ℤ) → a ≡ pos 0 → b ≡ pos 0 → x -ℤ (a -ℤ b) ≡ x
      less x a b e f = eq-by (at x ⊖ (at a ⊖ at b)) (at x) (omega (arith, eq-fact (at a) (at (pos 0)) e, eq-fact (at b) (at (pos 0)) f))

  use-is : (p : Plan) (m : ℕ) → branch_use c p m ≡ sum_to c.zones (λ z. c.ptdf m z *ℤ net c p z)
  unfolding branch_use
  use-is p m = sum-ext c.zones _ _ (λ z h. ap (λ (x : ℤ). c.ptdf m z *ℤ x) (all-flow-based p z))

  room-is : (p : Plan) (m : ℕ) → p.share ≡ 0 → branch_room c p m ≡ pos (parts_in_one * p.den) *ℤ c.ram m
  unfolding branch_room
  room-is p m e = ap (λ (z : ℤ). z *ℤ c.ram m) (eq-by (at (pos (parts_in_one * p.den)) ⊖ at (pos p.share)) (at (pos (parts_in_one * p.den))) (omega arith))

  -- THE CLEARINGS are the flow-based ones
  pub flow-based : (p : Plan) → Clearing c p → FlowBased c p
  flow-based p cl = record {
    den-positive = cl.den-positive;
    volume-in = cl.volume-in;
    share-is = cl.without-links none;
    balance = cl.balance;
    branch = λ m h. rw (← use-is p m, ← room-is p m (cl.without-links none)) (cl.branch m h);
  }

  pub flow-based-clears : (p : Plan) → FlowBased c p → Clearing c p
  flow-based-clears p f = record {
    den-positive = f.den-positive;
    volume-in = f.volume-in;
    share-in = omega (arith, f.share-is);
    without-links = λ e. f.share-is;
    balance = f.balance;
    link = λ l h. absurd (never l h);
    branch = λ m h. rw (use-is p m, room-is p m f.share-is) (f.branch m h);
  }
    where
      never : (l : ℕ) → l < c.links → ⊥
      never l h = omega (arith, none)

  -- THE BOUND: the branch total alone, even a negative one
  pub bound-is : (d : Prices) → bound c d ≡ surplus c d +ℤ branch_total c d
  unfolding bound
  bound-is d = ap (λ (x : ℤ). surplus c d +ℤ x) (without-links-is c d none)

  pub nothing-owed : (d : Prices) → owed c d ≡ pos 0
  unfolding owed
  nothing-owed d = over_none _

  -- THE RENT at a gap of zero; it does not cover owed where the branch total is negative
  module _ (ok : Placed c) (d : Prices) (q : Plan) (cl : Clearing c q) (one : q.den ≡ 1) (exact : gap c q d ≡ pos 0) where
    pub rent-is : rent c q d ≡ branch_total c d
    unfolding gap
    rent-is = le_antisym
        (at_most (rent c q d) (network_bound c d) (branch_total c d) (without-links-is c d none) (rent-le c ok d q cl))
        (at_least (bound c d) (surplus c d) (branch_total c d) (welfare c q) (rent c q d) (bound-is d) exact (welfare-le c ok d q cl))
      where
        at_most : (r m b : ℤ) → m ≡ b → r ≤ℤ (pos q.den *ℤ m) → r ≤ℤ b
        at_most r m b e h = le-by (at r) (at b) (omega (arith, le-fact (at r) (at (pos q.den) ⊗ at m) h, eq-fact (at m) (at b) e, ap (λ (k : ℕ). k * up m) one, ap (λ (k : ℕ). k * dn m) one))

        at_least : (x s b w r : ℤ) → x ≡ s +ℤ b → x -ℤ w ≡ pos 0 → (w -ℤ r) ≤ℤ (pos q.den *ℤ s) → b ≤ℤ r
        at_least x s b w r e z h = le-by (at b) (at r) (omega (
          arith,
          eq-fact (at x) (at s ⊕ at b) e,
          eq-fact (at x ⊖ at w) (at (pos 0)) z,
          le-fact (at w ⊖ at r) (at (pos q.den) ⊗ at s) h,
          ap (λ (k : ℕ). k * up s) one,
          ap (λ (k : ℕ). k * dn s) one,
        ))

    pub not_covered : branch_total c d <ℤ pos 0 → rent c q d <ℤ owed c d
    not_covered h = subst (λ (x : ℤ). rent c q d <ℤ x) (sym (nothing-owed d)) (subst (λ (x : ℤ). x <ℤ pos 0) (sym rent-is) h)

-- WITH A LINK nothing changes: the bound is the larger-of
pub linked-bound-is : (c : Case) → 0 < c.links → (d : Prices) → bound c d ≡ surplus c d +ℤ larger (branch_total c d) (link_total c d)
unfolding bound
linked-bound-is c h d = ap (λ (x : ℤ). surplus c d +ℤ x) (with-links-is c d h)
