-- `short_single::AcceptedHour::link_shortfall` meets its contract: the link's capacity times the LTA share, its flow
-- and its spread, in the common form. Assumes nothing.
use Rattle.std.proofs.Common.{◌≡◌, ◌<◌, ℤ, ap, ◌∙◌, arith}
use Rattle.std.specs.Prelude.{pos, ◌-ℤ◌, ◌*ℤ◌}
use Rattle.std.specs.Int.{w64}
use Rattle.base_integers.specs.Steps.Size.{near_fits}
use Rattle.base_integers.specs.Steps.Machine.{sfits-by}
use Rattle.base_limits.specs.Meaning.Limits.{parts_in_one}
use Rattle.rules.specs.Meaning.Hour.{Case, Plan, Prices, case_of, plan_of, prices_of, zone_price, spread}
use Rattle.case_links.specs.declared.Link.{Link}
use Rattle.proposal_file.specs.Steps.Read.{sound, links-is, share-is}
use Rattle.report_file.specs.Meaning.Prices.{grains_at}
use Rattle.short_single.specs.Steps.Short.{short_of, shortable-by, exact-by}
use Rattle.short_single.specs.Steps.HourAccepted.{link-is, spread-near, link-shortable}
use Rattle.short_single.proofs.hour.AcceptedHour.link_shortfall.Goals as goal
use Rattle.short_single.proofs.hour.AcceptedHour.link_shortfall.Goals.{After-link_at-link, After-flow_at-flow}

-- the hour, and this link of it
abbrev hour : After-link_at-link → Case
hour c = case_of c.args.self.now.hour.«case».bytes.now

abbrev plan : After-link_at-link → Plan
plan c = plan_of c.args.self.now.hour.«case».bytes.now c.args.self.now.hour.proposal.now

abbrev rates : After-link_at-link → Prices
rates c = prices_of c.args.self.now.hour.«case».bytes.now c.args.self.now.hour.proposal.now

inside : (c : After-link_at-link) → c.args.l < (hour c).links
inside c = omega (arith, links-is c.args.self.now.accepted.read, c.requires)

-- the zone that it enters, and the zone that it leaves
to_is : (c : After-link_at-link) → c.link_at-link.result.to ≡ (hour c).to c.args.l
unfolding case_of
to_is c = ap (λ (x : Link). x.to) c.link_at-link.ensures

to-known : (c : After-link_at-link) → (hour c).to c.args.l < (hour c).zones
to-known c = (sound c.args.self.now.accepted.read).placed.to-in c.args.l (inside c)

to_in : (c : After-link_at-link) → c.link_at-link.result.to < 16
to_in c = omega (arith, to_is c, to-known c, (sound c.args.self.now.accepted.read).zones-in.1)

to-price : (c : After-link_at-link) → grains_at c.args.self.now.prices c.link_at-link.result.to ≡ zone_price (hour c) (rates c) ((hour c).to c.args.l)
to-price c = ap (grains_at c.args.self.now.prices) (to_is c) ∙ c.args.self.now.prices_hold.each _ (to-known c)

from_is : (c : After-link_at-link) → c.link_at-link.result.from ≡ (hour c).from c.args.l
unfolding case_of
from_is c = ap (λ (x : Link). x.from) c.link_at-link.ensures

from-known : (c : After-link_at-link) → (hour c).from c.args.l < (hour c).zones
from-known c = (sound c.args.self.now.accepted.read).placed.from-in c.args.l (inside c)

from_in : (c : After-link_at-link) → c.link_at-link.result.from < 16
from_in c = omega (arith, from_is c, from-known c, (sound c.args.self.now.accepted.read).zones-in.1)

from-price : (c : After-link_at-link) → grains_at c.args.self.now.prices c.link_at-link.result.from ≡ zone_price (hour c) (rates c) ((hour c).from c.args.l)
from-price c = ap (grains_at c.args.self.now.prices) (from_is c) ∙ c.args.self.now.prices_hold.each _ (from-known c)

pub offset_bounds-self-to : goal.offset_bounds-self-to
offset_bounds-self-to c = omega (arith, to_in (goal.at.offset_bounds-self-to c).After-link_at-link)

pub bounds-self-to : goal.bounds-self-to
bounds-self-to c = to_in (goal.at.bounds-self-to c).After-link_at-link

pub offset_bounds-self-from : goal.offset_bounds-self-from
offset_bounds-self-from c = omega (arith, from_in (goal.at.offset_bounds-self-from c).After-link_at-link)

pub bounds-self-from : goal.bounds-self-from
bounds-self-from c = from_in (goal.at.bounds-self-from c).After-link_at-link

-- THE THREE NUMBERS of the common form: its spread, its capacity times the LTA share, and its flow
spread-is : (c : After-link_at-link) → grains_at c.args.self.now.prices c.link_at-link.result.to -ℤ grains_at c.args.self.now.prices c.link_at-link.result.from ≡ spread (hour c) (rates c) c.args.l
unfolding spread
spread-is c = λ j. to-price c j -ℤ from-price c j

capacity-is : (c : After-link_at-link) → c.link_at-link.result.capacity.0 ≡ pos ((hour c).capacity c.args.l)
unfolding case_of
capacity-is c = ap (λ (x : Link). x.capacity.0) c.link_at-link.ensures

part-is : (c : After-link_at-link) → c.args.self.now.hour.opening.share.0 *ℤ c.link_at-link.result.capacity.0 ≡ pos (plan c).share *ℤ pos ((hour c).capacity c.args.l)
part-is c = λ j. share-is c.args.self.now.accepted.read j *ℤ capacity-is c j

flow-is : (c : After-flow_at-flow) → c.flow_at-flow.result.0 ≡ pos ((plan_of c.args.self.now.hour.«case».bytes.now c.args.self.now.hour.proposal.now).flow c.args.l)
unfolding plan_of
flow-is c = c.flow_at-flow.ensures.value

pub minus-spread-requires : goal.minus-spread-requires
minus-spread-requires c =
    let o = (goal.at.minus-spread-requires c).After-link_at-link in
    sfits-by w64 (spread-is o) (near_fits w64 (omega arith) (spread-near c.args.self.now.accepted c.args.l (inside o)))

pub of_volume-requires : goal.of_volume-requires
of_volume-requires c =
    let o = (goal.at.of_volume-requires c).After-link_at-link in
    sfits-by w64 (part-is o) (near_fits w64 (omega arith) (link-shortable c.args.self.now.accepted c.args.l (inside o)).room-near)

pub scaled_by_one-requires : goal.scaled_by_one-requires
scaled_by_one-requires c =
    let at = goal.at.scaled_by_one-requires c in
    sfits-by w64 (ap (λ (x : ℤ). x *ℤ pos parts_in_one) (flow-is at.After-flow_at-flow)) (near_fits w64 (omega arith) (link-shortable c.args.self.now.accepted c.args.l (inside at.After-link_at-link)).used-near)

pub short-requires : goal.short-requires
short-requires c =
    let at = goal.at.short-requires c in
    let o = at.After-link_at-link in
    shortable-by (c.of_volume.ensures ∙ part-is o) (c.scaled_by_one.ensures ∙ ap (λ (x : ℤ). x *ℤ pos parts_in_one) (flow-is at.After-flow_at-flow))
    (c.minus-spread.ensures ∙ spread-is o) (link-shortable c.args.self.now.accepted c.args.l (inside o))

pub returns : goal.returns
returns c =
    let at = goal.at.returns c in
    let o = at.After-link_at-link in
    exact-by (
    (λ j. short_of ((c.of_volume.ensures ∙ part-is o) j) ((c.scaled_by_one.ensures ∙ ap (λ (x : ℤ). x *ℤ pos parts_in_one) (flow-is at.After-flow_at-flow)) j) ((c.minus-spread.ensures ∙ spread-is o) j))
    ∙ link-is c.args.self.now.accepted c.args.l
    ) c.short.ensures
