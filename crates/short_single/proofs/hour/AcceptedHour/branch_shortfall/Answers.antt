-- `short_single::AcceptedHour::branch_shortfall` meets its contract: the branch's margin times the flow-based share,
-- its load and its shadow price, in the common form. Assumes nothing.
use Rattle.std.proofs.Common.{◌≡◌, ◌<◌, List, ℕ, ℤ, get_or, ap, sym, subst, ◌∙◌, arith}
use Rattle.std.specs.Prelude.{pos, ◌*ℤ◌}
use Rattle.std.specs.Int.{w64}
use Rattle.base_integers.specs.Meaning.Ranges.{Within}
use Rattle.base_integers.specs.Meaning.Machine.{SumsFit}
use Rattle.base_integers.specs.Meaning.Sums.{sum_to}
use Rattle.base_integers.specs.Steps.Sums.{sum-ext}
use Rattle.base_integers.specs.Steps.Size.{near_fits}
use Rattle.base_integers.specs.Steps.Machine.{sfits-by, fit-ext}
use Rattle.base_limits.specs.Meaning.Limits as limits
use Rattle.base_limits.specs.Meaning.Limits.{parts_in_one, grains_of}
use Rattle.rules.specs.Meaning.Hour.{Case, Plan, case_of, plan_of, prices_of, fb_part, branch_use, branch_room}
use Rattle.case_branches.specs.Steps.Table.{table-entry, entry-within}
use Rattle.proposal_file.specs.Steps.Read.{case-opened, zones-is, branches-is, few-zones}
use Rattle.short_single.specs.Steps.Short.{short_of, shortable-by, exact-by}
use Rattle.short_single.specs.Steps.HourAccepted.{load_on, rest-is, rest-near, branch-is, loads-fit, branch-shortable}
use Rattle.short_single.proofs.hour.AcceptedHour.branch_shortfall.Goals as goal
use Rattle.short_single.proofs.hour.AcceptedHour.branch_shortfall.Goals.{After-shadow_at-shadow, After-flow_based}

-- the hour, and this branch of it
abbrev hour : After-shadow_at-shadow → Case
hour c = case_of c.args.self.now.hour.«case».bytes.now

abbrev plan : After-shadow_at-shadow → Plan
plan c = plan_of c.args.self.now.hour.«case».bytes.now c.args.self.now.hour.proposal.now

inside : (c : After-shadow_at-shadow) → c.args.m < (hour c).branches
inside c = omega (arith, branches-is c.args.self.now.accepted.read, c.requires.m_lt_branches)

-- the load of a zone's part on it
term_is : (c : After-shadow_at-shadow) (z : ℕ) → z < c.args.self.now.hour.«case».counts.zones → load_on c.args.row c.args.self.now.parts z ≡ (hour c).ptdf c.args.m z *ℤ fb_part (hour c) (plan c) z
unfolding case_of
term_is c z h = λ j.
    (ap (λ (r : List ℤ). get_or r z (pos 0)) c.requires.row_value ∙ table-entry (case-opened c.args.self.now.accepted.read) c.args.m z c.requires.m_lt_branches h) j
    *ℤ c.args.self.now.parts_hold.each z (omega (arith, few-zones c.args.self.now.accepted.read)) j

pub load_of-load-requires-clause-zones_bound : goal.load_of-load-requires-clause-zones_bound
load_of-load-requires-clause-zones_bound c = few-zones c.args.self.now.accepted.read

pub load_of-load-requires-clause-sums_fit : goal.load_of-load-requires-clause-sums_fit
load_of-load-requires-clause-sums_fit c =
    let o = (goal.at.load_of-load-requires-clause-sums_fit c).After-shadow_at-shadow in
    fit-ext _ _ c.args.self.now.hour.«case».counts.zones (term_is o)
    (subst (λ (n : ℕ). SumsFit (λ z. (hour o).ptdf c.args.m z *ℤ fb_part (hour o) (plan o) z) n) (sym (zones-is c.args.self.now.accepted.read)) (loads-fit c.args.self.now.accepted c.args.m (inside o)))

pub load_of-load-requires-clause-by_index : goal.load_of-load-requires-clause-by_index
load_of-load-requires-clause-by_index c =
    λ z h. subst (λ (r : List ℤ). Within limits.ptdf (get_or r z (pos 0))) (sym c.requires.row_value) (entry-within (case-opened c.args.self.now.accepted.read) c.args.m z c.requires.m_lt_branches h)

-- THE THREE NUMBERS of the common form: its load, its room and its shadow price
used-is : (o : After-shadow_at-shadow) {x : ℤ} → x ≡ sum_to o.args.self.now.hour.«case».counts.zones (load_on o.args.row o.args.self.now.parts) → x ≡ branch_use (hour o) (plan o) o.args.m
unfolding branch_use
used-is o e =
    e ∙ sum-ext o.args.self.now.hour.«case».counts.zones _ _ (term_is o) ∙ ap (λ (n : ℕ). sum_to n (λ z. (hour o).ptdf o.args.m z *ℤ fb_part (hour o) (plan o) z)) (zones-is o.args.self.now.accepted.read)

part-is : (c : After-flow_based) → c.flow_based.result.0 *ℤ c.margin_at-margin.result.0 ≡ branch_room (case_of c.args.self.now.hour.«case».bytes.now) (plan_of c.args.self.now.hour.«case».bytes.now c.args.self.now.hour.proposal.now) c.args.m
unfolding branch_room plan_of case_of
part-is c = λ j. (c.flow_based.ensures ∙ rest-is c.args.self.now.accepted) j *ℤ c.margin_at-margin.ensures j

shadow-is : (c : After-shadow_at-shadow) → grains_of c.shadow_at-shadow.result.0 ≡ pos parts_in_one *ℤ pos ((prices_of c.args.self.now.hour.«case».bytes.now c.args.self.now.hour.proposal.now).shadow c.args.m)
unfolding prices_of
shadow-is c = ap grains_of c.shadow_at-shadow.ensures

pub flow_based-requires : goal.flow_based-requires
flow_based-requires c = sfits-by w64 (rest-is c.args.self.now.accepted) (near_fits w64 (omega arith) (rest-near c.args.self.now.accepted))

pub of_volume-requires : goal.of_volume-requires
of_volume-requires c =
    let at = goal.at.of_volume-requires c in
    sfits-by w64 (part-is at.After-flow_based) (near_fits w64 (omega arith) (branch-shortable c.args.self.now.accepted c.args.m (inside at.After-shadow_at-shadow)).room-near)

pub in_grains-requires : goal.in_grains-requires
in_grains-requires c =
    let o = (goal.at.in_grains-requires c).After-shadow_at-shadow in
    sfits-by w64 (shadow-is o) (near_fits w64 (omega arith) (branch-shortable c.args.self.now.accepted c.args.m (inside o)).price-near)

pub short-requires : goal.short-requires
short-requires c =
    let at = goal.at.short-requires c in
    let o = at.After-shadow_at-shadow in
    shortable-by (c.of_volume.ensures ∙ part-is at.After-flow_based) (used-is o c.load_of-load.ensures) (c.in_grains.ensures ∙ shadow-is o)
    (branch-shortable c.args.self.now.accepted c.args.m (inside o))

pub returns : goal.returns
returns c =
    let at = goal.at.returns c in
    let o = at.After-shadow_at-shadow in
    exact-by (
    (λ j. short_of ((c.of_volume.ensures ∙ part-is at.After-flow_based) j) (used-is o c.load_of-load.ensures j) ((c.in_grains.ensures ∙ shadow-is o) j))
    ∙ branch-is c.args.self.now.accepted c.args.m
    ) c.short.ensures
