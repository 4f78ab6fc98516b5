-- The walk has come to tip. The measure is the number of orders that no walk has visited.
use Rattle.std.proofs.Common.{◌≡◌, ℕ, ◌<◌, length}
use Rattle.std.proofs.Math.Option.{Option}
use Rattle.family_list.specs.Steps.Walk.{held, Walked, Walking}
use Rattle.family_list.proofs.Steps.Walk.{unwalked}
use Rattle.family_list.proofs.walk_up.Given as goal

abbrev pub invariant-loop-up : goal.invariant-loop-up
invariant-loop-up l = record {
  tip-in : l.tip < l.orders;
  long : length l.up ≡ 512;
  walking : (parent : ℕ → Option ℕ) → Walked parent l.orders l.i (held l.initial.up) → Walking parent l.orders l.i (held l.initial.up) l.tip (held l.up);
}

abbrev pub decreases-loop-up : goal.decreases-loop-up
decreases-loop-up l = unwalked l.orders l.orders (held l.up)
