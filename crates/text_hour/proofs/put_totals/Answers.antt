-- `text_hour::put_totals` meets its contract: the five lines, each where the one before ends. Assumes nothing.
use Rattle.std.proofs.Common.{arith, length-append}
use Rattle.text_rules.proofs.Steps.Put.{put-length, put_then}
use Rattle.rules.specs.Meaning.Lines.{total_lines}
use Rattle.text_hour.proofs.put_totals.Goals as goal

pub put_total-bound-requires : goal.put_total-bound-requires
unfolding total_lines
put_total-bound-requires c = omega (arith, simp length-append at c.requires)

pub put_total-gap-requires : goal.put_total-gap-requires
unfolding total_lines
put_total-gap-requires c =
    let p = c.put_total-bound.ensures in
    omega (arith, simp length-append at c.requires, p.position, put-length p)

pub put_total-rent-requires : goal.put_total-rent-requires
unfolding total_lines
put_total-rent-requires c =
    let p = put_then c.put_total-bound.ensures c.put_total-gap.ensures in
    omega (arith, simp length-append at c.requires, simp length-append at p.position, put-length p)

pub put_total-owed-requires : goal.put_total-owed-requires
unfolding total_lines
put_total-owed-requires c =
    let p = put_then (put_then c.put_total-bound.ensures c.put_total-gap.ensures) c.put_total-rent.ensures in
    omega (arith, simp length-append at c.requires, simp length-append at p.position, put-length p)

pub put_total-requires : goal.put_total-requires
unfolding total_lines
put_total-requires c =
    let p = put_then (put_then (put_then c.put_total-bound.ensures c.put_total-gap.ensures) c.put_total-rent.ensures) c.put_total-owed.ensures in
    omega (arith, simp length-append at c.requires, simp length-append at p.position, put-length p)

pub returns : goal.returns
unfolding total_lines
returns c =
    put_then (put_then (put_then (put_then c.put_total-bound.ensures c.put_total-gap.ensures) c.put_total-rent.ensures) c.put_total-owed.ensures) c.put_total.ensures
