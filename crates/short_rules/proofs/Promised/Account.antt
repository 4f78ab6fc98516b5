-- S-14 FOR EVERY ACCEPTED HOUR, for every case s and proposal t as bytes, with and without links. No shortfall is
-- negative, and all together are at most the gap. At gap zero each is zero. What is left of the gap is the larger
-- total's lead, weighed by the shares. Assumes nothing.
use Rattle.std.specs.Prelude.{◌≡◌, List, ℕ, ◌*◌, ◌<◌, length, ℤ, ◌+ℤ◌, ◌-ℤ◌, ◌*ℤ◌, ◌≤ℤ◌}
use Rattle.std.proofs.Math.Path.{refl, sym, ap, subst}
use Rattle.std.proofs.Common.{◌∙◌}
use native.Mathlib.Omega.{arith}
use Rattle.std.proofs.Math.Dec.{T}
use Rattle.std.proofs.Math.IntN.{pos, +ℤ_idr}
use Rattle.base_integers.specs.Meaning.Difference.{up, dn}
use Rattle.base_integers.specs.Steps.Difference.{at, ◌⊕◌, ◌⊖◌, ◌⊗◌, le-by, eq-by, le-fact, eq-fact}
use Rattle.base_integers.specs.Steps.Order.{le_antisym, times-nonneg}
use Rattle.base_integers.specs.Meaning.Sums.{sum_to}
use Rattle.base_integers.specs.Steps.Sums.{sum-ext, sum-scale-l, sum_nonneg, one-le-sum}
use Rattle.base_limits.specs.Meaning.Limits.{parts_in_one}
use Rattle.rules.specs.Meaning.Hour.{Case, Plan, Prices, case_of, plan_of, prices_of, welfare, bound, gap}
use Rattle.rules.specs.Meaning.Clearing.{Placed, Clearing}
use Rattle.rules.specs.Meaning.Verdict.{outcome}
use Rattle.rules.specs.Meaning.Report.{reports, buffer_after, reported_gap}
use Rattle.rules.proofs.Steps.Passed.{sound, case-sound}
use Rattle.rules.proofs.Promised.Gap.{order_short, branch_short, link_short, slack, gap_is, order-short, branch-short, link-short, slack-short}
use Rattle.rules.proofs.Promised.Guarantee.{Accepted, allowed}
use Rattle.rules.proofs.Promised.Reported.{reported}
use Rattle.short_rules.specs.Meaning.Shortfalls.{order_shortfall, branch_shortfall, link_shortfall, all_shortfalls, weighed_lead, lead_left, Accounted}
use Rattle.short_rules.proofs.Steps.Parts.{left-without, left-with, order_is, branch-is, link-is, slack-is}

-- FOR A CLEARING over denominator 1
module _ (c : Case) (ok : Placed c) (d : Prices) (p : Plan) (cl : Clearing c p) (one : p.den ≡ 1) where
  orders : ℤ
  orders = sum_to c.orders (λ i. order_shortfall c p d i)

  branches : ℤ
  branches = sum_to c.branches (λ m. branch_shortfall c p d m)

  links : ℤ
  links = sum_to c.links (λ l. link_shortfall c p d l)

  orders-are : orders ≡ pos parts_in_one *ℤ sum_to c.orders (λ i. order_short c d p i)
  unfolding orders
  orders-are = sum-ext c.orders _ _ (λ i h. order_is c d p cl one i) ∙ sum-scale-l c.orders (λ i. order_short c d p i) (pos parts_in_one)

  branches-are : branches ≡ pos parts_in_one *ℤ sum_to c.branches (λ m. branch_short c d p m)
  unfolding branches
  branches-are = sum-ext c.branches _ _ (λ m h. branch-is c d p cl one m) ∙ sum-scale-l c.branches (λ m. branch_short c d p m) (pos parts_in_one)

  links-are : links ≡ sum_to c.links (λ l. link_short c d p l)
  unfolding links
  links-are = sum-ext c.links _ _ (λ l h. link-is c d p cl one l)

  pub account : pos parts_in_one *ℤ gap c p d ≡ all_shortfalls c p d +ℤ lead_left c p d
  unfolding gap all_shortfalls orders branches links
  account = by (bound c d) (welfare c p) (sum_to c.orders (λ i. order_short c d p i)) (sum_to c.branches (λ m. branch_short c d p m)) (sum_to c.links (λ l. link_short c d p l)) (slack c d p) p.den one (gap_is c ok d p cl)
      ∙ (λ j. sym orders-are j +ℤ sym branches-are j +ℤ sym links-are j +ℤ slack-is c d p cl one j)
    where
      by : (b w os bs ls r : ℤ) (e : ℕ) → e ≡ 1 → pos parts_in_one *ℤ (pos e *ℤ b -ℤ w) ≡ pos parts_in_one *ℤ (os +ℤ bs) +ℤ ls +ℤ r
          → pos parts_in_one *ℤ (b -ℤ w) ≡ pos parts_in_one *ℤ os +ℤ pos parts_in_one *ℤ bs +ℤ ls +ℤ r
      by b w os bs ls r e one h = eq-by (at (pos parts_in_one) ⊗ (at b ⊖ at w)) (at (pos parts_in_one) ⊗ at os ⊕ at (pos parts_in_one) ⊗ at bs ⊕ at ls ⊕ at r)
          (omega (
            arith,
            eq-fact (at (pos parts_in_one) ⊗ (at (pos e) ⊗ at b ⊖ at w)) (at (pos parts_in_one) ⊗ (at os ⊕ at bs) ⊕ at ls ⊕ at r) h,
            ap (λ (k : ℕ). k * up b) one,
            ap (λ (k : ℕ). k * dn b) one,
          ))

  -- NONE IS NEGATIVE
  pub order-in : (i : ℕ) → i < c.orders → pos 0 ≤ℤ order_shortfall c p d i
  order-in i h = rw (order_is c d p cl one i) (times-nonneg parts_in_one (order-short c ok d p cl i h))

  pub branch_in : (m : ℕ) → m < c.branches → pos 0 ≤ℤ branch_shortfall c p d m
  branch_in m h = rw (branch-is c d p cl one m) (times-nonneg parts_in_one (branch-short c ok d p cl m h))

  pub link-in : (l : ℕ) → l < c.links → pos 0 ≤ℤ link_shortfall c p d l
  link-in l h = rw (link-is c d p cl one l) (link-short c ok d p cl l h)

  pub left_in : pos 0 ≤ℤ lead_left c p d
  left_in = subst (λ (x : ℤ). pos 0 ≤ℤ x) (slack-is c d p cl one) (slack-short c ok d p cl)

  orders-in : pos 0 ≤ℤ orders
  unfolding orders
  orders-in = sum_nonneg c.orders (λ i. order_shortfall c p d i) order-in

  branches-in : pos 0 ≤ℤ branches
  unfolding branches
  branches-in = sum_nonneg c.branches (λ m. branch_shortfall c p d m) branch_in

  links-in : pos 0 ≤ℤ links
  unfolding links
  links-in = sum_nonneg c.links (λ l. link_shortfall c p d l) link-in

  -- ALL TOGETHER, and each, at most the gap g
  module _ (g : ℤ) (is : g ≡ gap c p d) where
    accounts : pos parts_in_one *ℤ g ≡ orders +ℤ branches +ℤ links +ℤ lead_left c p d
    unfolding all_shortfalls orders branches links
    accounts = ap (λ (x : ℤ). pos parts_in_one *ℤ x) is ∙ account

    sum-within : (g o b l r x : ℤ) → pos parts_in_one *ℤ g ≡ o +ℤ b +ℤ l +ℤ r → pos 0 ≤ℤ o → pos 0 ≤ℤ b → pos 0 ≤ℤ l → pos 0 ≤ℤ r → x ≤ℤ (o +ℤ b +ℤ l) → x ≤ℤ (pos parts_in_one *ℤ g)
    sum-within g o b l r x e ho hb hl hr hx = le-by (at x) (at (pos parts_in_one) ⊗ at g) (omega (
      arith,
      eq-fact (at (pos parts_in_one) ⊗ at g) (at o ⊕ at b ⊕ at l ⊕ at r) e,
      le-fact (at (pos 0)) (at r) hr,
      le-fact (at x) (at o ⊕ at b ⊕ at l) hx,
    ))

    first : (o b l x : ℤ) → pos 0 ≤ℤ b → pos 0 ≤ℤ l → x ≤ℤ o → x ≤ℤ (o +ℤ b +ℤ l)
    first o b l x hb hl h = le-by (at x) (at o ⊕ at b ⊕ at l) (omega (arith, le-fact (at (pos 0)) (at b) hb, le-fact (at (pos 0)) (at l) hl, le-fact (at x) (at o) h))

    second : (o b l x : ℤ) → pos 0 ≤ℤ o → pos 0 ≤ℤ l → x ≤ℤ b → x ≤ℤ (o +ℤ b +ℤ l)
    second o b l x ho hl h = le-by (at x) (at o ⊕ at b ⊕ at l) (omega (arith, le-fact (at (pos 0)) (at o) ho, le-fact (at (pos 0)) (at l) hl, le-fact (at x) (at b) h))

    third : (o b l x : ℤ) → pos 0 ≤ℤ o → pos 0 ≤ℤ b → x ≤ℤ l → x ≤ℤ (o +ℤ b +ℤ l)
    third o b l x ho hb h = le-by (at x) (at o ⊕ at b ⊕ at l) (omega (arith, le-fact (at (pos 0)) (at o) ho, le-fact (at (pos 0)) (at b) hb, le-fact (at x) (at l) h))

    within : (x : ℤ) → x ≤ℤ (orders +ℤ branches +ℤ links) → x ≤ℤ (pos parts_in_one *ℤ g)
    within x h = sum-within g orders branches links (lead_left c p d) x accounts orders-in branches-in links-in left_in h

    order-within : (i : ℕ) → i < c.orders → order_shortfall c p d i ≤ℤ (pos parts_in_one *ℤ g)
    unfolding orders
    order-within i h = within _ (first orders branches links _ branches-in links-in (one-le-sum c.orders (λ i. order_shortfall c p d i) order-in i h))

    branch-within : (m : ℕ) → m < c.branches → branch_shortfall c p d m ≤ℤ (pos parts_in_one *ℤ g)
    unfolding branches
    branch-within m h = within _ (second orders branches links _ orders-in links-in (one-le-sum c.branches (λ m. branch_shortfall c p d m) branch_in m h))

    link-within : (l : ℕ) → l < c.links → link_shortfall c p d l ≤ℤ (pos parts_in_one *ℤ g)
    unfolding links
    link-within l h = within _ (third orders branches links _ orders-in branches-in (one-le-sum c.links (λ l. link_shortfall c p d l) link-in l h))

    -- from zero to a gap of zero
    none_left : {x : ℤ} → g ≡ pos 0 → pos 0 ≤ℤ x → x ≤ℤ (pos parts_in_one *ℤ g) → x ≡ pos 0
    none_left {x} z h k = le_antisym (subst (λ (y : ℤ). x ≤ℤ (pos parts_in_one *ℤ y)) z k) h

    pub accounted : Accounted c p d g
    unfolding all_shortfalls orders branches links
    accounted = record {
      order-in = order-in;
      branch_in = branch_in;
      link-in = link-in;
      together = within _ (le-by (at orders ⊕ at branches ⊕ at links) (at orders ⊕ at branches ⊕ at links) (omega arith));
      order-within = order-within;
      branch-within = branch-within;
      link-within = link-within;
      order-zero = λ z i h. none_left z (order-in i h) (order-within i h);
      branch-zero = λ z m h. none_left z (branch_in m h) (branch-within m h);
      link-zero = λ z l h. none_left z (link-in l h) (link-within l h);
      account = accounts;
      left_in = left_in;
    }

-- FOR AN ACCEPTED HOUR
module _ (s t : List ℕ) (room : ℕ) (a : Accepted s t room) where
  wrote : T (reports (outcome s t room).number)
  unfolding reports
  wrote = subst (λ (n : ℕ). T (reports n)) (sym a.answer) tt

  placed : Placed (case_of s)
  placed = (case-sound s (sound s t room wrote).readable).placed

  hour-by : (g : ℤ) → g ≡ gap (case_of s) (plan_of s t) (prices_of s t) → Accounted (case_of s) (plan_of s t) (prices_of s t) g
  unfolding plan_of
  hour-by = accounted (case_of s) placed (prices_of s t) (plan_of s t) (allowed s t room a) refl

  pub hour-accounted : Accounted (case_of s) (plan_of s t) (prices_of s t) (gap (case_of s) (plan_of s t) (prices_of s t))
  hour-accounted = hour-by (gap (case_of s) (plan_of s t) (prices_of s t)) refl

-- and for the gap in its report
pub reported-accounted : (s t buffer : List ℕ) → Accepted s t (length buffer) → Accounted (case_of s) (plan_of s t) (prices_of s t) (reported_gap (buffer_after s t buffer))
reported-accounted s t buffer a = hour-by s t (length buffer) a (reported_gap (buffer_after s t buffer)) (reported s t buffer (wrote s t (length buffer) a)).gap-at

-- S-6: without links nothing is left, so the shortfalls are the gap
pub whole-without-links : (s t : List ℕ) (room : ℕ) → Accepted s t room → (case_of s).links ≡ 0
    → pos parts_in_one *ℤ gap (case_of s) (plan_of s t) (prices_of s t) ≡ all_shortfalls (case_of s) (plan_of s t) (prices_of s t)
whole-without-links s t room a e = (hour-accounted s t room a).account ∙ ap (λ (x : ℤ). all_shortfalls (case_of s) (plan_of s t) (prices_of s t) +ℤ x) (left-without (case_of s) (plan_of s t) (prices_of s t) e)
    ∙ +ℤ_idr (all_shortfalls (case_of s) (plan_of s t) (prices_of s t))

-- with a link what is left is the lead of the larger total, weighed by the two shares
pub left-with-links : (s t : List ℕ) (room : ℕ) → Accepted s t room → 0 < (case_of s).links
    → pos parts_in_one *ℤ gap (case_of s) (plan_of s t) (prices_of s t) ≡ all_shortfalls (case_of s) (plan_of s t) (prices_of s t) +ℤ weighed_lead (case_of s) (plan_of s t) (prices_of s t)
left-with-links s t room a h = (hour-accounted s t room a).account ∙ ap (λ (x : ℤ). all_shortfalls (case_of s) (plan_of s t) (prices_of s t) +ℤ x) (left-with (case_of s) (plan_of s t) (prices_of s t) h)
