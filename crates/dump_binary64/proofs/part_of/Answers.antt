-- `dump_binary64::part_of` meets its contract: the product of a share and a small whole number is small, and its whole
-- part is the cut.
use Rattle.std.proofs.Common.{◌^◌, ◌<◌, le_of_lt, arith}
use Rattle.dump_binary64.specs.Meaning.Value.{cut}
use Rattle.dump_binary64.specs.Meaning.Machine.{times}
use Rattle.dump_binary64.proofs.Steps.Cutting.{Share, Part, share-of, share-finite, share-in-range, share_part, times-not-negative}
use Rattle.dump_binary64.proofs.part_of.Goals as goal
use Rattle.dump_binary64.proofs.part_of.Goals.{Start}

small : (c : Start) → c.args.whole < 2 ^ 53
small c = omega arith

is_share : (c : Start) → Share c.args.share
is_share c = share-of c.args.share c.requires.t c.requires.t_2

part : (c : Start) → Part c.args.share c.args.whole (cut (times c.args.share c.args.whole))
part c = share_part c.args.share c.args.whole c.requires.t c.requires.t_2 (small c)

pub whole_part-requires-clause-t : goal.whole_part-requires-clause-t
whole_part-requires-clause-t c =
    let s = (goal.at.whole_part-requires-clause-t c).Start in
    times-not-negative c.args.share c.args.whole (share-finite c.args.share (is_share s)) (le_of_lt (small s)) c.requires.t

pub whole_part-requires-clause-ranged : goal.whole_part-requires-clause-ranged
whole_part-requires-clause-ranged c =
    let s = (goal.at.whole_part-requires-clause-ranged c).Start in
    share-in-range c.args.share c.args.whole (is_share s) (le_of_lt (small s))

pub whole_part-requires-clause-p_bound : goal.whole_part-requires-clause-p_bound
whole_part-requires-clause-p_bound c =
    let s = (goal.at.whole_part-requires-clause-p_bound c).Start in
    omega (arith, (part s).most)

pub returns : goal.returns
returns c =
    let w = c.whole_part.ensures in
    (w, omega (arith, w, (part (goal.at.returns c).Start).most))
