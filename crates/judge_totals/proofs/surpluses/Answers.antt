-- Each order is one of the case's, at the price of its zone; the sums so far fit.
use Rattle.std.proofs.Common.{◌≡◌, List, ℕ, ◌<◌, refl, ap, sym, subst, ◌∙◌, arith, ℤ}
use Rattle.base_integers.specs.Meaning.Sums.{sum_to}
use Rattle.base_integers.specs.Meaning.Machine.{SumsFit}
use Rattle.base_integers.specs.Meaning.Ranges.{Within}
use Rattle.base_integers.specs.Steps.Machine.{step, step_fits}
use Rattle.base_limits.specs.Meaning.Limits as limits
use Rattle.base_measures.specs.declared.Grains.{Grains}
use Rattle.rules.specs.Meaning.Hour.{case_of, prices_of, buys, zone_price, surplus_of, order_surplus, surplus}
use Rattle.rules.proofs.Promised.Fits.{system-near, surplus-sums}
use Rattle.book_order.specs.declared.Order.{Order}
use Rattle.book_order.specs.Meaning.Admitted.{surplus_at}
use Rattle.case_orders.specs.Meaning.Order.{order_of}
use Rattle.case_header.specs.declared.Counts.{Counts}
use Rattle.proposal_file.specs.declared.ProposalOpening.{ProposalOpening}
use Rattle.proposal_file.specs.Meaning.Read.{HourReadFrom}
use Rattle.proposal_file.specs.Steps.Read.{sound, orders-is, shadow-in}
use Rattle.report_file.specs.Meaning.Prices.{grains_at, PricesHold, PricesInRange}
use Rattle.judge_totals.proofs.surpluses.Goals as goal

module _ {s t : List ℕ} {counts : Counts} {opening : ProposalOpening} (h : HourReadFrom s t counts opening) where
  fit : PricesInRange (case_of s) (prices_of s t) → SumsFit (λ j. order_surplus (case_of s) (prices_of s t) j) (case_of s).orders
  fit r = surplus-sums _ (sound h) _ (system-near s t) (shadow-in h) r.within

  -- ORDER i OF THE HOUR, as it was read
  module _ (i : ℕ) (l : i < counts.orders) where
    inside : i < (case_of s).orders
    inside = omega (arith, orders-is h)

    zone-known : (case_of s).zone i < (case_of s).zones
    zone-known = (sound h).placed.zone-in i inside

    module _ {o : Order} (e : o ≡ order_of s i) where
      -- its zone, and its price
      zone-is : o.zone ≡ (case_of s).zone i
      unfolding case_of
      zone-is = ap (λ (x : Order). x.zone) e

      zone-in : o.zone < 16
      zone-in = omega (arith, zone-is, zone-known, (sound h).zones-in.1)

      quantity-in : Within limits.quantity o.quantity.0
      unfolding case_of
      quantity-in = subst (λ (x : Order). Within limits.quantity x.quantity.0) (sym e) ((sound h).quantity-within i inside)

      price-in : Within limits.order_price o.price.0
      unfolding case_of
      price-in = subst (λ (x : Order). Within limits.order_price x.price.0) (sym e) ((sound h).price-in i inside)

      module _ {prices : List Grains} (p : PricesHold (case_of s) (prices_of s t) prices) where
        price-is : grains_at prices o.zone ≡ zone_price (case_of s) (prices_of s t) ((case_of s).zone i)
        price-is = ap (grains_at prices) zone-is ∙ p.each _ zone-known

        zone-price-in : PricesInRange (case_of s) (prices_of s t) → Within limits.zone_price (grains_at prices o.zone)
        zone-price-in r = subst (λ (x : ℤ). Within limits.zone_price x) (sym price-is) (r.within _ zone-known)

        -- its surplus
        term-is : {x : ℤ} → x ≡ surplus_at o (grains_at prices o.zone) → x ≡ order_surplus (case_of s) (prices_of s t) i
        unfolding order_surplus surplus_of buys case_of
        term-is q = q ∙ (λ j. surplus_at (e j) (price-is j))

pub loop-i-init : goal.loop-i-init
unfolding sum_to
loop-i-init c = refl

pub offset_bounds-priced-zone : goal.offset_bounds-priced-zone
offset_bounds-priced-zone c = omega (arith, zone-in c.args.priced.hour.read c.loop-i.i c.loop-i-test.true c.order_at-order.ensures)

pub bounds-priced-zone : goal.bounds-priced-zone
bounds-priced-zone c = zone-in c.args.priced.hour.read c.loop-i.i c.loop-i-test.true c.order_at-order.ensures

pub surplus-requires-clause-within : goal.surplus-requires-clause-within
surplus-requires-clause-within c = quantity-in c.args.priced.hour.read c.loop-i.i c.loop-i-test.true c.order_at-order.ensures

pub surplus-requires-clause-within_2 : goal.surplus-requires-clause-within_2
surplus-requires-clause-within_2 c = price-in c.args.priced.hour.read c.loop-i.i c.loop-i-test.true c.order_at-order.ensures

pub surplus-requires-clause-within_3 : goal.surplus-requires-clause-within_3
surplus-requires-clause-within_3 c = zone-price-in c.args.priced.hour.read c.loop-i.i c.loop-i-test.true c.order_at-order.ensures c.args.priced.hold c.args.priced.in_range

pub plus-sum-requires : goal.plus-sum-requires
plus-sum-requires c =
    let h = c.args.priced.hour.read in
    let i = c.loop-i.i in
    let l = c.loop-i-test.true in
    step_fits (fit h c.args.priced.in_range) i (inside h i l) c.loop-i.invariant (term-is h i l c.order_at-order.ensures c.args.priced.hold c.surplus.ensures)

pub loop-i-preserved : goal.loop-i-preserved
loop-i-preserved c =
    let h = c.args.priced.hour.read in
    let i = c.loop-i.i in
    let l = c.loop-i-test.true in
    step (fit h c.args.priced.in_range) i c.loop-i.invariant (term-is h i l c.order_at-order.ensures c.args.priced.hold c.surplus.ensures) c.plus-sum.ensures

pub returns : goal.returns
unfolding surplus
returns c =
    let cs = case_of c.args.priced.hour.case.bytes.now in
    let d = prices_of c.args.priced.hour.case.bytes.now c.args.priced.hour.proposal.now in
    let e : c.loop-i.i ≡ cs.orders = omega (arith, orders-is c.args.priced.hour.read) in
    c.loop-i.invariant ∙ ap (λ (n : ℕ). sum_to n (λ j. order_surplus cs d j)) e
