-- A zone passes where its price is within the limits; as long as every zone passed, the sum with it fits.
use Rattle.std.proofs.Common.{refl, sym, ◌+◌, arith}
use Rattle.base_integers.specs.Meaning.Sums.{sum_to}
use Rattle.base_integers.specs.Steps.Machine.{step, step_fits}
use Rattle.base_measures.specs.Steps.Held.{grains-outside, grains-held}
use Rattle.base_causes.specs.Meaning.Causes.{first_below}
use Rattle.base_causes.proofs.Promised.CauseLaws.{first-here, first-later}
use Rattle.judge_totals.proofs.zone_sums.Goals as goal

pub loop-z-init : goal.loop-z-init
unfolding first_below sum_to
loop-z-init c = record { within = refl; rent = refl }

pub returns-in_default-clause-outside : goal.returns-in_default-clause-outside
returns-in_default-clause-outside c = first-here _ c.loop-z.z c.loop-z-test.true c.loop-z.invariant.within (grains-outside _ _ (sym c.in_default.ensures))

pub cost-requires : goal.cost-requires
cost-requires c =
    let passed = first-later _ c.loop-z.z c.loop-z.invariant.within (grains-held _ _ _ (sym c.in-Some.ensures)).0 in
    (c.requires.rent_fits.sums (c.loop-z.z + 1) (omega arith) passed).term c.loop-z.z (omega arith)

pub plus-sum-requires : goal.plus-sum-requires
plus-sum-requires c =
    let passed = first-later _ c.loop-z.z c.loop-z.invariant.within (grains-held _ _ _ (sym c.in-Some.ensures)).0 in
    step_fits (c.requires.rent_fits.sums (c.loop-z.z + 1) (omega arith) passed) c.loop-z.z (omega arith) c.loop-z.invariant.rent c.cost.ensures

pub loop-z-preserved : goal.loop-z-preserved
loop-z-preserved c =
    let passed = first-later _ c.loop-z.z c.loop-z.invariant.within (grains-held _ _ _ (sym c.in-Some.ensures)).0 in
    record {
      within = passed;
      rent = step (c.requires.rent_fits.sums (c.loop-z.z + 1) (omega arith) passed) c.loop-z.z c.loop-z.invariant.rent c.cost.ensures c.plus-sum.ensures;
    }
