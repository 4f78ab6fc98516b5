-- `short_single::AcceptedHour::order_shortfall` meets its contract: the order's quantity, its volume and the gain of a
-- unit, in the common form. Assumes nothing.
use Rattle.std.proofs.Common.{◌≡◌, ◌<◌, ℤ, ap, sym, subst, ◌∙◌, arith}
use Rattle.std.specs.Prelude.{pos, ◌*ℤ◌}
use Rattle.std.specs.Int.{w64}
use Rattle.base_integers.specs.Meaning.Ranges.{Within}
use Rattle.base_integers.specs.Steps.Size.{near_fits}
use Rattle.base_integers.specs.Steps.Machine.{sfits-by}
use Rattle.base_limits.specs.Meaning.Limits as limits
use Rattle.base_limits.specs.Meaning.Limits.{parts_in_one, grains_of}
use Rattle.rules.specs.Meaning.Hour.{Case, Plan, Prices, case_of, plan_of, prices_of, buys, above, zone_price}
use Rattle.rules.proofs.Promised.Fits.{in-grains, near-zone-price}
use Rattle.book_order.specs.declared.Order.{Order}
use Rattle.proposal_file.specs.Steps.Read.{sound, orders-is}
use Rattle.report_file.specs.Meaning.Prices.{grains_at}
use Rattle.short_single.specs.Steps.Short.{short_of, shortable-by, exact-by}
use Rattle.short_single.specs.Steps.HourAccepted.{gain_of, order_is, order-shortable}
use Rattle.short_single.proofs.hour.AcceptedHour.order_shortfall.Goals as goal
use Rattle.short_single.proofs.hour.AcceptedHour.order_shortfall.Goals.{After-order_at-order, After-volume_at-volume, After-unit_gain-gain}

-- the hour, and this order of it
abbrev hour : After-order_at-order → Case
hour c = case_of c.args.self.now.hour.«case».bytes.now

abbrev plan : After-order_at-order → Plan
plan c = plan_of c.args.self.now.hour.«case».bytes.now c.args.self.now.hour.proposal.now

abbrev rates : After-order_at-order → Prices
rates c = prices_of c.args.self.now.hour.«case».bytes.now c.args.self.now.hour.proposal.now

inside : (c : After-order_at-order) → c.args.i < (hour c).orders
inside c = omega (arith, orders-is c.args.self.now.accepted.read, c.requires)

-- its zone, quantity, side and price
zone-is : (c : After-order_at-order) → c.order_at-order.result.zone ≡ (hour c).zone c.args.i
unfolding case_of
zone-is c = ap (λ (x : Order). x.zone) c.order_at-order.ensures

zone-known : (c : After-order_at-order) → (hour c).zone c.args.i < (hour c).zones
zone-known c = (sound c.args.self.now.accepted.read).placed.zone-in c.args.i (inside c)

zone-in : (c : After-order_at-order) → c.order_at-order.result.zone < 16
zone-in c = omega (arith, zone-is c, zone-known c, (sound c.args.self.now.accepted.read).zones-in.1)

zone-price : (c : After-order_at-order) → grains_at c.args.self.now.prices c.order_at-order.result.zone ≡ zone_price (hour c) (rates c) ((hour c).zone c.args.i)
zone-price c = ap (grains_at c.args.self.now.prices) (zone-is c) ∙ c.args.self.now.prices_hold.each _ (zone-known c)

quantity-is : (c : After-order_at-order) → c.order_at-order.result.quantity.0 ≡ pos ((hour c).quantity c.args.i)
unfolding case_of
quantity-is c = ap (λ (x : Order). x.quantity.0) c.order_at-order.ensures

price-is : (c : After-order_at-order) → c.order_at-order.result.price.0 ≡ (hour c).price c.args.i
unfolding case_of
price-is c = ap (λ (x : Order). x.price.0) c.order_at-order.ensures

price-within : (c : After-order_at-order) → Within limits.order_price c.order_at-order.result.price.0
price-within c = subst (λ (x : ℤ). Within limits.order_price x) (sym (price-is c)) ((sound c.args.self.now.accepted.read).price-in c.args.i (inside c))

pub in_grains-requires : goal.in_grains-requires
in_grains-requires c = near_fits w64 (omega arith) (near-zone-price _ (in-grains _ (price-within (goal.at.in_grains-requires c).After-order_at-order)))

pub offset_bounds-self-zone : goal.offset_bounds-self-zone
offset_bounds-self-zone c = omega (arith, zone-in (goal.at.offset_bounds-self-zone c).After-order_at-order)

pub bounds-self-zone : goal.bounds-self-zone
bounds-self-zone c = zone-in (goal.at.bounds-self-zone c).After-order_at-order

pub unit_gain-gain-requires-clause-within : goal.unit_gain-gain-requires-clause-within
unit_gain-gain-requires-clause-within c =
    subst (λ (x : ℤ). Within limits.zone_price x) (sym c.in_grains.ensures) (in-grains _ (price-within (goal.at.unit_gain-gain-requires-clause-within c).After-order_at-order))

pub unit_gain-gain-requires-clause-within_2 : goal.unit_gain-gain-requires-clause-within_2
unit_gain-gain-requires-clause-within_2 c =
    let o = (goal.at.unit_gain-gain-requires-clause-within_2 c).After-order_at-order in
    subst (λ (x : ℤ). Within limits.zone_price x) (sym (zone-price o)) (c.args.self.now.accepted.prices-in.within _ (zone-known o))

-- THE THREE NUMBERS of the common form: its gain, its quantity and its volume
gain-is : (c : After-unit_gain-gain) → c.order_at-order.result.price.0 ≡ (case_of c.args.self.now.hour.«case».bytes.now).price c.args.i
    → grains_at c.args.self.now.prices c.order_at-order.result.zone ≡ zone_price (case_of c.args.self.now.hour.«case».bytes.now) (prices_of c.args.self.now.hour.«case».bytes.now c.args.self.now.hour.proposal.now) ((case_of c.args.self.now.hour.«case».bytes.now).zone c.args.i)
    → c.unit_gain-gain.result.0 ≡ gain_of c.args.self.now.accepted c.args.i
unfolding buys case_of
gain-is c p z = c.unit_gain-gain.ensures ∙ (λ j. above (c.order_at-order.ensures j).buys ((c.in_grains.ensures ∙ ap grains_of p) j) (z j))

volume-is : (c : After-volume_at-volume) → c.volume_at-volume.result.0 ≡ pos ((plan_of c.args.self.now.hour.«case».bytes.now c.args.self.now.hour.proposal.now).volume c.args.i)
unfolding plan_of
volume-is c = c.volume_at-volume.ensures

pub scaled_by_one-requires : goal.scaled_by_one-requires
scaled_by_one-requires c =
    let o = (goal.at.scaled_by_one-requires c).After-order_at-order in
    sfits-by w64 (ap (λ (x : ℤ). x *ℤ pos parts_in_one) (quantity-is o)) (near_fits w64 (omega arith) (order-shortable c.args.self.now.accepted c.args.i (inside o)).room-near)

pub scaled_by_one-requires-2 : goal.scaled_by_one-requires-2
scaled_by_one-requires-2 c =
    let at = goal.at.scaled_by_one-requires-2 c in
    sfits-by w64 (ap (λ (x : ℤ). x *ℤ pos parts_in_one) (volume-is at.After-volume_at-volume)) (near_fits w64 (omega arith) (order-shortable c.args.self.now.accepted c.args.i (inside at.After-order_at-order)).used-near)

pub short-requires : goal.short-requires
short-requires c =
    let at = goal.at.short-requires c in
    let o = at.After-order_at-order in
    shortable-by (c.scaled_by_one.ensures ∙ ap (λ (x : ℤ). x *ℤ pos parts_in_one) (quantity-is o)) (c.scaled_by_one-2.ensures ∙ ap (λ (x : ℤ). x *ℤ pos parts_in_one) (volume-is at.After-volume_at-volume))
    (gain-is at.After-unit_gain-gain (price-is o) (zone-price o)) (order-shortable c.args.self.now.accepted c.args.i (inside o))

pub returns : goal.returns
returns c =
    let at = goal.at.returns c in
    let o = at.After-order_at-order in
    exact-by (
    (λ j. short_of ((c.scaled_by_one.ensures ∙ ap (λ (x : ℤ). x *ℤ pos parts_in_one) (quantity-is o)) j) ((c.scaled_by_one-2.ensures ∙ ap (λ (x : ℤ). x *ℤ pos parts_in_one) (volume-is at.After-volume_at-volume)) j) (gain-is at.After-unit_gain-gain (price-is o) (zone-price o) j))
    ∙ order_is c.args.self.now.accepted c.args.i
    ) c.short.ensures
