-- Each turn stores the walk's number at an order that no walk has visited.
use Rattle.std.proofs.Common.{◌+◌, ◌∙◌, arith, length-set}
use Rattle.std.proofs.Math.ListN.{set}
use Rattle.family_list.specs.Steps.Walk.{held}
use Rattle.family_list.proofs.Steps.Walk.{fewer, walk_steps}
use Rattle.family_list.proofs.Steps.Walk.{put-set}
use Rattle.family_list.proofs.walk_up.Goals as goal

pub loop-up-smaller : goal.loop-up-smaller
loop-up-smaller c =
    let stored = put-set c.loop-up.up c.loop-up.tip (512 + c.args.i) (omega arith) in
    fewer c.args.orders stored c.args.orders c.loop-up.invariant.tip-in c.loop-up-test.true (omega arith)

pub loop-up-preserved : goal.loop-up-preserved
loop-up-preserved c =
    let stored = put-set c.loop-up.up c.loop-up.tip (512 + c.args.i) (omega arith) in
    rw c.from-next.ensures record {
      tip-in = c.loop-up-test.true;
      long = length-set c.loop-up.up c.loop-up.tip (512 + c.args.i) ∙ c.loop-up.invariant.long;
      walking = λ parent w. walk_steps parent c.args.orders c.requires.orders_bound c.args.i (held c.args.up.now) c.loop-up.tip c.loop-up.invariant.tip-in (held c.loop-up.up)
          (held (set c.loop-up.up c.loop-up.tip (512 + c.args.i))) c.loop-up-test.true stored (c.loop-up.invariant.walking parent w);
    }
