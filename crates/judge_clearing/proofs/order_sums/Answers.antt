-- Each order is one of the case's, with its zone below 16 and its price within its limits; as long as no volume is
-- above its quantity, the sums so far fit.
use Rattle.std.proofs.Common.{◌≡◌, List, ℕ, ◌+◌, ◌≤◌, ◌<◌, Bool, false, eqb, refl, ap, sym, subst, ◌∙◌, arith, nltb→le, SFits}
use Rattle.std.proofs.Math.Option.{none}
use Rattle.std.proofs.Math.IntN.{ℤ, pos, ◌+ℤ◌, ◌*ℤ◌}
use Rattle.std.specs.Int.{w64}
use Rattle.std.specs.Int.Signed.{lt_z}
use Rattle.std.specs.Ordering.{int_cmp, is_lt}
use Rattle.base_measures.specs.Steps.Derived.{less-is}
use Rattle.base_integers.specs.Meaning.Sums.{sum_to, only}
use Rattle.base_integers.specs.Meaning.Machine.{SumsFit}
use Rattle.base_integers.specs.Steps.Sums.{sum-scale-l}
use Rattle.base_integers.specs.Steps.Size.{near_fits, near_mul, near-pos}
use Rattle.base_integers.specs.Steps.Machine.{step, step_fits, sfits-by}
use Rattle.base_limits.specs.Meaning.Limits.{parts_in_one, grains_of}
use Rattle.rules.specs.Meaning.Layout.{volume_in}
use Rattle.rules.specs.Meaning.Hour.{case_of, plan_of, signed, buys, order_net, net, order_welfare, welfare}
use Rattle.base_causes.specs.Meaning.Causes.{first_below}
use Rattle.base_causes.proofs.Promised.CauseLaws.{first-here, first-later, first-nowhere, not-below}
use Rattle.rules.specs.Meaning.Verdict.{◌over◌}
use Rattle.rules.proofs.Steps.Duality.{signed-times, times-grains}
use Rattle.rules.proofs.Promised.Fits.{near-order-price, orderNet-near, net-sums, welfare-sums}
use Rattle.book_order.specs.declared.Order.{Order}
use Rattle.base_measures.specs.declared.Tenths.{Tenths}
use Rattle.base_measures.specs.declared.Grains.{Grains}
use Rattle.case_orders.specs.Meaning.Order.{order_of}
use Rattle.case_header.specs.declared.Counts.{Counts}
use Rattle.proposal_file.specs.declared.ProposalOpening.{ProposalOpening}
use Rattle.proposal_file.specs.Meaning.Read.{HourReadFrom}
use Rattle.proposal_file.specs.Steps.Read.{sound, orders-is}
use Rattle.base_measures.specs.Meaning.TenthsHold.{tenths_at, TenthsHold}
use Rattle.judge_clearing.specs.Steps.TenthsHold.{zeros-hold, keyed, keyed-next, keyed-set}
use Rattle.judge_clearing.proofs.order_sums.Goals as goal

-- ORDER i OF THE HOUR, as it was read
module _ {s t : List ℕ} {counts : Counts} {opening : ProposalOpening} (h : HourReadFrom s t counts opening) (i : ℕ) (l : i < counts.orders) where
  inside : i < (case_of s).orders
  inside = omega (arith, orders-is h)

  zone-small : (case_of s).zone i < 16
  zone-small = omega (arith, (sound h).placed.zone-in i inside, (sound h).zones-in.1)

  module _ {o : Order} (e : o ≡ order_of s i) where
    zone-is : o.zone ≡ (case_of s).zone i
    unfolding case_of
    zone-is = ap (λ (x : Order). x.zone) e

    zone-in : o.zone < 16
    zone-in = omega (arith, zone-is, zone-small)

    price-is : o.price.0 ≡ (case_of s).price i
    unfolding case_of
    price-is = ap (λ (x : Order). x.price.0) e

    grains-fit : SFits w64 (grains_of o.price.0)
    grains-fit = sfits-by w64 (ap grains_of price-is) (near_fits w64 (omega arith) (near_mul (near-pos parts_in_one) (near-order-price _ ((sound h).price-in i inside))))

    module _ {v : Tenths} (q : v.0 ≡ pos (volume_in s t i)) where
      -- the test of its volume
      answered : {b : Bool} → b ≡ is_lt (int_cmp o.quantity.0 v.0) → b ≡ (plan_of s t).volume i over (case_of s).quantity i
      unfolding case_of plan_of
      answered a = a ∙ less-is o.quantity.0 v.0 ∙ (λ j. lt_z (e j).quantity.0 (q j))

      no-excess : {b : Bool} → b ≡ is_lt (int_cmp o.quantity.0 v.0) → b ≡ false → first_below i (λ j. (plan_of s t).volume j over (case_of s).quantity j) ≡ none
          → first_below (i + 1) (λ j. (plan_of s t).volume j over (case_of s).quantity j) ≡ none
      no-excess a n w = first-later _ i w (sym (answered a) ∙ n)

      signed-is : signed o.buys v.0 ≡ order_net (case_of s) (plan_of s t) i
      unfolding order_net buys case_of plan_of
      signed-is = λ j. signed (e j).buys (q j)

      -- its part of the welfare
      product-is : {x : Tenths} {g : Grains} → x.0 ≡ signed o.buys v.0 → g.0 ≡ grains_of o.price.0 → x.0 *ℤ g.0 ≡ pos parts_in_one *ℤ order_welfare (case_of s) (plan_of s t) i
      unfolding order_welfare order_net
      product-is a b =
          let volume = pos ((plan_of s t).volume i) in
          (λ j. (a ∙ signed-is) j *ℤ (b ∙ ap grains_of price-is) j) ∙ times-grains (signed (buys (case_of s) i) volume) ((case_of s).price i)
          ∙ ap (λ (y : ℤ). pos parts_in_one *ℤ y) (sym (signed-times (buys (case_of s) i) volume ((case_of s).price i)))

  -- where no volume so far is above its quantity, the sums with it fit
  module _ (passed : first_below (i + 1) (λ j. (plan_of s t).volume j over (case_of s).quantity j) ≡ none) where
    held : (j : ℕ) → j < i + 1 → (plan_of s t).volume j ≤ (case_of s).quantity j
    held j k = nltb→le _ _ (not-below _ _ passed j k)

    net-fit : (z : ℕ) → SumsFit (λ j. only (eqb ((case_of s).zone j) z) (order_net (case_of s) (plan_of s t) j)) (i + 1)
    net-fit z = net-sums _ (sound h) _ _ (omega (arith, inside)) held z

    welfare-fit : SumsFit (λ j. pos parts_in_one *ℤ order_welfare (case_of s) (plan_of s t) j) (i + 1)
    welfare-fit = welfare-sums _ (sound h) _ _ (omega (arith, inside)) held

    net-fits : SFits w64 (order_net (case_of s) (plan_of s t) i)
    net-fits = near_fits w64 (omega arith) (orderNet-near _ (sound h) _ _ (omega (arith, inside)) held i (omega arith))

pub loop-i-init : goal.loop-i-init
unfolding sum_to first_below
loop-i-init c = record { within = refl; nets = zeros-hold _ (λ z. refl); welfare = refl }

pub returns-then-lt-clause-excess : goal.returns-then-lt-clause-excess
returns-then-lt-clause-excess c =
    let h = c.args.hour.read in
    let i = c.loop-i.i in
    first-here _ i (inside h i c.loop-i-test.true) c.loop-i.invariant.within (sym (answered h i c.loop-i-test.true c.order_at-order.ensures c.volume_at-volume.ensures c.lt.ensures) ∙ c.if-lt.true)

pub signed_volume-signed-requires : goal.signed_volume-signed-requires
signed_volume-signed-requires c =
    let h = c.args.hour.read in
    let i = c.loop-i.i in
    let o = c.order_at-order.ensures in
    let v = c.volume_at-volume.ensures in
    sfits-by w64 (signed-is h i c.loop-i-test.true o v) (net-fits h i c.loop-i-test.true (no-excess h i c.loop-i-test.true o v c.lt.ensures c.if-lt.false c.loop-i.invariant.within))

pub offset_bounds-nets-zone : goal.offset_bounds-nets-zone
offset_bounds-nets-zone c = omega (arith, zone-in c.args.hour.read c.loop-i.i c.loop-i-test.true c.order_at-order.ensures)

pub bounds-nets-zone : goal.bounds-nets-zone
bounds-nets-zone c = zone-in c.args.hour.read c.loop-i.i c.loop-i-test.true c.order_at-order.ensures

pub plus-requires : goal.plus-requires
plus-requires c =
    let h = c.args.hour.read in
    let i = c.loop-i.i in
    let l = c.loop-i-test.true in
    let o = c.order_at-order.ensures in
    let v = c.volume_at-volume.ensures in
    let z = c.order_at-order.result.zone in
    sfits-by w64
    (ap (λ (x : ℤ). tenths_at c.loop-i.nets z +ℤ x) (c.signed_volume-signed.ensures ∙ signed-is h i l o v) ∙ keyed-next _ _ i c.loop-i.nets z (zone-is h i l o) (zone-small h i l) c.loop-i.invariant.nets)
    ((net-fit h i l (no-excess h i l o v c.lt.ensures c.if-lt.false c.loop-i.invariant.within) z).fits (i + 1) (omega arith))

pub offset_bounds-nets-zone-in-loop-i : goal.offset_bounds-nets-zone-in-loop-i
offset_bounds-nets-zone-in-loop-i c = omega (arith, zone-in c.args.hour.read c.loop-i.i c.loop-i-test.true c.order_at-order.ensures)

pub bounds-nets-zone-in-loop-i : goal.bounds-nets-zone-in-loop-i
bounds-nets-zone-in-loop-i c = zone-in c.args.hour.read c.loop-i.i c.loop-i-test.true c.order_at-order.ensures

pub in_grains-requires : goal.in_grains-requires
in_grains-requires c = grains-fit c.args.hour.read c.loop-i.i c.loop-i-test.true c.order_at-order.ensures

pub cost-requires : goal.cost-requires
cost-requires c =
    let h = c.args.hour.read in
    let i = c.loop-i.i in
    let l = c.loop-i-test.true in
    let o = c.order_at-order.ensures in
    let v = c.volume_at-volume.ensures in
    sfits-by w64 (product-is h i l o v c.signed_volume-signed.ensures c.in_grains.ensures)
    ((welfare-fit h i l (no-excess h i l o v c.lt.ensures c.if-lt.false c.loop-i.invariant.within)).term i (omega arith))

pub plus-welfare-requires : goal.plus-welfare-requires
plus-welfare-requires c =
    let h = c.args.hour.read in
    let i = c.loop-i.i in
    let l = c.loop-i-test.true in
    let o = c.order_at-order.ensures in
    let v = c.volume_at-volume.ensures in
    step_fits (welfare-fit h i l (no-excess h i l o v c.lt.ensures c.if-lt.false c.loop-i.invariant.within)) i (omega arith)
    c.loop-i.invariant.welfare (c.cost.ensures ∙ product-is h i l o v c.signed_volume-signed.ensures c.in_grains.ensures)

pub loop-i-preserved : goal.loop-i-preserved
loop-i-preserved c =
    let h = c.args.hour.read in
    let i = c.loop-i.i in
    let l = c.loop-i-test.true in
    let o = c.order_at-order.ensures in
    let v = c.volume_at-volume.ensures in
    let z = c.order_at-order.result.zone in
    let passed = no-excess h i l o v c.lt.ensures c.if-lt.false c.loop-i.invariant.within in
    record {
      within = passed;
      nets = keyed-set _ _ i c.loop-i.nets z c.plus.result (zone-is h i l o) (zone-small h i l) c.loop-i.invariant.nets
          (c.plus.ensures ∙ ap (λ (x : ℤ). tenths_at c.loop-i.nets z +ℤ x) (c.signed_volume-signed.ensures ∙ signed-is h i l o v));
      welfare = step (welfare-fit h i l passed) i c.loop-i.invariant.welfare (c.cost.ensures ∙ product-is h i l o v c.signed_volume-signed.ensures c.in_grains.ensures) c.plus-welfare.ensures;
    }

pub returns-clause-within : goal.returns-clause-within
returns-clause-within c = first-nowhere _ c.loop-i.i (omega (arith, orders-is c.args.hour.read)) (omega (arith, orders-is c.args.hour.read)) c.loop-i.invariant.within

pub returns-clause-nets : goal.returns-clause-nets
unfolding net
returns-clause-nets c =
    subst (λ (k : ℕ). TenthsHold (keyed (case_of c.args.hour.case.bytes.now).zone (order_net (case_of c.args.hour.case.bytes.now) (plan_of c.args.hour.case.bytes.now c.args.hour.proposal.now)) k) c.loop-i.nets) (omega (arith, orders-is c.args.hour.read)) c.loop-i.invariant.nets

pub returns-clause-welfare : goal.returns-clause-welfare
unfolding welfare
returns-clause-welfare c =
    let cs = case_of c.args.hour.case.bytes.now in
    let p = plan_of c.args.hour.case.bytes.now c.args.hour.proposal.now in
    let e : c.loop-i.i ≡ cs.orders = omega (arith, orders-is c.args.hour.read) in
    c.loop-i.invariant.welfare ∙ ap (λ (k : ℕ). sum_to k (λ j. pos parts_in_one *ℤ order_welfare cs p j)) e ∙ sum-scale-l cs.orders (λ j. order_welfare cs p j) (pos parts_in_one)
