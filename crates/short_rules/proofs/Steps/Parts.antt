-- The shortfalls and the parts of the gap in `rules` are equal up to the factor 100,000, and so is the slack. Over
-- plain variables first. Assumes nothing.
use Rattle.std.specs.Prelude.{◌≡◌, Bool, true, false, cond, ℕ, ◌*◌, ◌-◌, ◌<◌, ℤ, ◌+ℤ◌, ◌-ℤ◌, ◌*ℤ◌}
use Rattle.std.proofs.Math.Path.{sym, ap}
use Rattle.std.proofs.Common.{◌∙◌, arith, eq-eqb, ne_eqb}
use Rattle.std.proofs.Math.Decide.{dec_lt}
use Rattle.std.proofs.Math.IntN.{pos}
use Rattle.base_integers.specs.Meaning.Difference.{up, dn}
use Rattle.base_integers.specs.Steps.Difference.{at, ◌⊕◌, ◌⊖◌, ◌⊗◌, ⊝◌, eq-by}
use Rattle.base_integers.specs.Meaning.Order.{positive}
use Rattle.base_integers.specs.Steps.Order.{larger-less-left, larger-less-right}
use Rattle.base_limits.specs.Meaning.Limits.{parts_in_one}
use Rattle.rules.specs.Meaning.Hour.{Case, Plan, Prices, signed, buys, above, order_net, branch_use, branch_room, zone_price, order_welfare, order_surplus, branch_value, branch_total, spread, link_value, link_total, no_link, network_bound}
use Rattle.rules.specs.Meaning.Clearing.{Clearing}
use Rattle.rules.proofs.Steps.Duality.{rest, without-links-is, with-links-is}
use Rattle.rules.proofs.Promised.Gap.{order_short, branch_short, link_short, slack}
use Rattle.short_rules.specs.Meaning.Shortfalls.{earned, order_shortfall, branch_shortfall, link_shortfall, weighed_lead, lead_left}

-- ONE ORDER: s its surplus, v its volume, a its price, z its zone's
order-plain : (b : Bool) (e v : ℕ) (s a z : ℤ) → e ≡ 1
    → pos parts_in_one *ℤ (s -ℤ pos v *ℤ above b (pos parts_in_one *ℤ a) z) ≡ pos parts_in_one *ℤ (pos e *ℤ s -ℤ (pos parts_in_one *ℤ signed b (pos v *ℤ a) -ℤ signed b (pos v) *ℤ z))
order-plain true e v s a z one = eq-by (at (pos parts_in_one) ⊗ (at s ⊖ at (pos v) ⊗ (at (pos parts_in_one) ⊗ at a ⊖ at z)))
    (at (pos parts_in_one) ⊗ (at (pos e) ⊗ at s ⊖ (at (pos parts_in_one) ⊗ (at (pos v) ⊗ at a) ⊖ at (pos v) ⊗ at z)))
    (omega (arith, ap (λ (k : ℕ). k * up s) one, ap (λ (k : ℕ). k * dn s) one))
order-plain false e v s a z one = eq-by (at (pos parts_in_one) ⊗ (at s ⊖ at (pos v) ⊗ (at z ⊖ at (pos parts_in_one) ⊗ at a)))
    (at (pos parts_in_one) ⊗ (at (pos e) ⊗ at s ⊖ (at (pos parts_in_one) ⊗ (⊝◌ (at (pos v) ⊗ at a)) ⊖ (⊝◌ (at (pos v))) ⊗ at z)))
    (omega (arith, ap (λ (k : ℕ). k * up s) one, ap (λ (k : ℕ). k * dn s) one))

-- ONE BRANCH: m its margin, u its use, s its shadow price, k the flow-based share
branch-plain : (k s : ℕ) (m u : ℤ) → pos parts_in_one *ℤ (pos s *ℤ (pos k *ℤ m -ℤ u)) ≡ pos parts_in_one *ℤ (pos k *ℤ (m *ℤ pos s) -ℤ u *ℤ pos s)
branch-plain k s m u = eq-by (at (pos parts_in_one) ⊗ (at (pos s) ⊗ (at (pos k) ⊗ at m ⊖ at u))) (at (pos parts_in_one) ⊗ (at (pos k) ⊗ (at m ⊗ at (pos s)) ⊖ at u ⊗ at (pos s))) (omega arith)

-- ONE LINK: k its capacity, a the LTA share, t its positive spread, x its flow at the spread
link-plain : (k a : ℕ) (t x : ℤ) → pos k *ℤ pos a *ℤ t -ℤ x ≡ pos a *ℤ (pos k *ℤ t) -ℤ x
link-plain k a t x = eq-by (at (pos k) ⊗ at (pos a) ⊗ at t ⊖ at x) (at (pos a) ⊗ (at (pos k) ⊗ at t) ⊖ at x) (omega arith)

-- WHAT IS LEFT, with a link and without
pub left-without : (c : Case) (p : Plan) (d : Prices) → c.links ≡ 0 → lead_left c p d ≡ pos 0
unfolding lead_left no_link
left-without c p d e = ap (λ (b : Bool). cond b (pos 0) (weighed_lead c p d)) (eq-eqb c.links 0 e)

pub left-with : (c : Case) (p : Plan) (d : Prices) → 0 < c.links → lead_left c p d ≡ weighed_lead c p d
unfolding lead_left no_link
left-with c p d h = ap (λ (b : Bool). cond b (pos 0) (weighed_lead c p d)) (ne_eqb c.links 0 some)
  where
    some : c.links ≡ 0 → ⊥
    some e = omega (arith, h)

-- FOR A CLEARING over denominator 1
module _ (c : Case) (d : Prices) (p : Plan) (cl : Clearing c p) (one : p.den ≡ 1) where
  pub order_is : (i : ℕ) → order_shortfall c p d i ≡ pos parts_in_one *ℤ order_short c d p i
  unfolding order_shortfall earned order_short order_welfare order_net
  order_is i = order-plain (buys c i) p.den (p.volume i) (order_surplus c d i) (c.price i) (zone_price c d (c.zone i)) one

  pub branch-is : (m : ℕ) → branch_shortfall c p d m ≡ pos parts_in_one *ℤ branch_short c d p m
  unfolding branch_shortfall branch_short branch_room branch_value
  branch-is m =
      ap (λ (k : ℤ). pos parts_in_one *ℤ (pos (d.shadow m) *ℤ (k *ℤ c.ram m -ℤ branch_use c p m))) (rest p.den p.share cl.share-in)
      ∙ branch-plain (parts_in_one * p.den - p.share) (d.shadow m) (c.ram m) (branch_use c p m)

  pub link-is : (l : ℕ) → link_shortfall c p d l ≡ link_short c d p l
  unfolding link_shortfall link_short link_value
  link-is l = link-plain (c.capacity l) p.share (positive (spread c d l)) (pos parts_in_one *ℤ (pos (p.flow l) *ℤ spread c d l))

  pub slack-is : slack c d p ≡ lead_left c p d
  unfolding slack weighed_lead
  slack-is = elim (dec_lt 0 c.links) [ yes l ↦ with-links l ∙ sym (left-with c p d l) | no g ↦ without (omega arith) ∙ sym (left-without c p d (omega arith)) ]
    where
      flow-based : pos (parts_in_one * p.den - p.share) ≡ pos parts_in_one -ℤ pos p.share
      flow-based = sym (rest p.den p.share cl.share-in) ∙ whole p.den one
        where
          whole : (e : ℕ) → e ≡ 1 → pos (parts_in_one * e) -ℤ pos p.share ≡ pos parts_in_one -ℤ pos p.share
          whole e q = ap (λ (k : ℕ). pos (parts_in_one * k) -ℤ pos p.share) q

      with-links : 0 < c.links → slack c d p ≡ weighed_lead c p d
      with-links h =
          (λ i. flow-based i *ℤ (with-links-is c d h i -ℤ branch_total c d) +ℤ pos p.share *ℤ (with-links-is c d h i -ℤ link_total c d))
          ∙ (λ i. (pos parts_in_one -ℤ pos p.share) *ℤ larger-less-left (branch_total c d) (link_total c d) i +ℤ pos p.share *ℤ larger-less-right (branch_total c d) (link_total c d) i)

      without : c.links ≡ 0 → slack c d p ≡ pos 0
      without e =
          (λ i. pos (parts_in_one * p.den - p.share) *ℤ (without-links-is c d e i -ℤ branch_total c d) +ℤ pos (cl.without-links e i) *ℤ (network_bound c d -ℤ link_total c d))
          ∙ nothing (pos (parts_in_one * p.den - p.share)) (branch_total c d) (network_bound c d -ℤ link_total c d)
        where
          nothing : (k b x : ℤ) → k *ℤ (b -ℤ b) +ℤ pos 0 *ℤ x ≡ pos 0
          nothing k b x = eq-by (at k ⊗ (at b ⊖ at b) ⊕ at (pos 0) ⊗ at x) (at (pos 0)) (omega arith)
