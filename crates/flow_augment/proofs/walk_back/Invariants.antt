-- The loop's invariant: the path that led to the zone where the walk began also leads to the zone where it is now.
-- The measure is the depth.
use Rattle.std.proofs.Common.{List, ℕ}
use Rattle.std.specs.Prelude.{ℤ}
use Rattle.flow_scratch.specs.Steps.Scratch.{Rest}
use Rattle.flow_augment.specs.Meaning.Path.{trail_of}
use Rattle.flow_augment.specs.Steps.Path.{PathBack}
use Rattle.flow_augment.proofs.walk_back.Given as goal

abbrev pub invariant-loop-z : goal.invariant-loop-z
invariant-loop-z l =
    ((net_exports prices : List ℤ) (total : ℕ) → PathBack net_exports prices total l.pairs l.fn.s (trail_of l.labels) l.d l.t → PathBack net_exports prices total l.pairs l.s (trail_of l.labels) l.d l.z)
    × Rest l.fn.s l.s

abbrev pub decreases-loop-z : goal.decreases-loop-z
decreases-loop-z l = (trail_of l.labels).dep l.z
