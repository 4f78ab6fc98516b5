-- The sum begins at zero, and each turn adds one entry; the sums so far fit by the caller's promise.
use Rattle.std.proofs.Common.{refl}
use Rattle.base_integers.specs.Meaning.Sums.{sum_to}
use Rattle.base_integers.specs.Steps.Machine.{step, step_fits}
use Rattle.judge_clearing.proofs.net_sum.Goals as goal

pub loop-z-init : goal.loop-z-init
unfolding sum_to
loop-z-init c = refl

pub plus-sum-requires : goal.plus-sum-requires
plus-sum-requires c = step_fits c.requires.sums_fit c.loop-z.z c.loop-z-test.true c.loop-z.invariant refl

pub loop-z-preserved : goal.loop-z-preserved
loop-z-preserved c = step c.requires.sums_fit c.loop-z.z c.loop-z.invariant refl c.plus-sum.ensures
