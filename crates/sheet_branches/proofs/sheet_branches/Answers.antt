-- `sheet_branches::sheet_branches` meets its contract: the table's rows in their order, until one fails. Rows 54 and
-- 55 are found by their lemmas. Assumes nothing.
use Rattle.std.proofs.Common.{◌≤◌, List, ℕ, ◌++◌, length, take, drop, ap, sym, ◌∙◌, arith}
use Rattle.std.proofs.Math.Seq.{length-take-le}
use Rattle.sheet_lines.proofs.Steps.Lines.{part-bound}
use Rattle.sheet_branches.specs.Steps.Answers.{zones-within, answer-50, answer-51, answer-52, answer-53, answer-0, copied}
use Rattle.sheet_branches.proofs.sheet_branches.Goals as goal
use Rattle.sheet_branches.proofs.sheet_branches.Goals.{After-branch_part-length}

pub returns-then-count_outside : goal.returns-then-count_outside
returns-then-count_outside c = answer-50 _ _ _ (sym c.if-count_outside.ensures) c.refused.ensures

pub read_lines-found-requires-clause-zones_bound : goal.read_lines-found-requires-clause-zones_bound
read_lines-found-requires-clause-zones_bound c = (zones-within c.args.zones (sym c.if-count_outside.ensures)).1

pub returns-in-Some : goal.returns-in-Some
returns-in-Some c = answer-51 _ _ _ (sym c.if-count_outside.ensures) c.read_lines-found.ensures c.in-Some.is c.refused-in-Some.ensures

pub returns-in-Some-finer : goal.returns-in-Some-finer
returns-in-Some-finer c = answer-52 _ _ _ (sym c.if-count_outside.ensures) c.read_lines-found.ensures c.in_default.is c.in-Some-finer.is c.refused-in-Some-finer.ensures

pub returns-in-Some-outside : goal.returns-in-Some-outside
returns-in-Some-outside c =
    answer-53 _ _ _ (sym c.if-count_outside.ensures) c.read_lines-found.ensures c.in_default.is c.in_default-finer.is c.in-Some-outside.is c.refused-in-Some-outside.ensures

pub branch_part-length-requires-clause-zones_bound : goal.branch_part-length-requires-clause-zones_bound
branch_part-length-requires-clause-zones_bound c = (zones-within c.args.zones (sym c.if-count_outside.ensures)).1

-- the branches are inside a table of this size
part_in : (c : After-branch_part-length) → c.read_lines-found.result.lines ≤ 64 → c.branch_part-length.result ≤ 4420
part_in c h =
    let few : c.args.zones ≤ 16 = (zones-within c.args.zones (sym c.if-count_outside.ensures)).1 in
    omega (arith, c.branch_part-length.ensures, part-bound c.args.zones c.read_lines-found.result.lines few (omega arith))

pub slice_bounds-table-end : goal.slice_bounds-table-end
slice_bounds-table-end c = omega (arith, c.read_lines-found.auto.table, part_in (goal.at.slice_bounds-table-end c).After-branch_part-length (omega arith))

-- and so many bytes are copied
pub slice_bounds-copy_from_slice-end-3 : goal.slice_bounds-copy_from_slice-end-3
slice_bounds-copy_from_slice-end-3 c =
    sym (length-take-le _ _ (omega (arith, c.read_lines-found.auto.table, part_in (goal.at.slice_bounds-copy_from_slice-end-3 c).After-branch_part-length (omega arith))))

pub copy_from_slice-requires : goal.copy_from_slice-requires
copy_from_slice-requires c =
    let room : c.branch_part-length.result ≤ length c.args.out.now = omega arith in
    let inside = part_in (goal.at.copy_from_slice-requires c).After-branch_part-length (omega arith) in
    length-take-le _ _ room ∙ sym (length-take-le _ _ (omega (arith, c.read_lines-found.auto.table, inside)))

pub returns : goal.returns
returns c =
    let part = c.branch_part-length.result in
    let h : c.read_lines-found.result.lines ≤ 64 = omega arith in
    let room : part ≤ length c.args.out.now = omega arith in
    let inside : part ≤ length c.read_lines-found.new.table = omega (arith, c.read_lines-found.auto.table, part_in (goal.at.returns c).After-branch_part-length h) in
    rw c.from.ensures (answer-0 _ _ _ (sym c.if-count_outside.ensures) c.read_lines-found.ensures c.in_default.is c.in_default-finer.is c.in_default-outside.is
    h c.branch_part-length.ensures room inside
    (ap (λ (l : List ℕ). l ++ drop part c.args.out.now) c.copy_from_slice.ensures.after ∙ copied (take part c.read_lines-found.new.table) c.args.out.now part (length-take-le _ _ inside) room))
