-- `case_branches::ptdf_table` meets its contract: each branch stands within the file, and its row within the table.
-- Assumes nothing.
use Rattle.std.proofs.Common.{◌≡◌, ℕ, ◌+◌, ◌*◌, ◌≤◌, ◌<◌, [], set, length, refl, sym, ap, ◌∙◌, arith, to_z-of_z}
use Rattle.std.specs.Prelude.{pos}
use Rattle.std.specs.Int.{w32}
use Rattle.rules.specs.Meaning.Layout.{i32_at, ptdf_in}
use Rattle.case_header.specs.declared.Counts.{Counts}
use Rattle.case_header.specs.Steps.CaseReadable.{headed, whole, limited, branch-start-is, branch-inside}
use Rattle.case_branches.specs.Meaning.Table.{filled, empty_row, row_of, table_of}
use Rattle.case_branches.specs.Steps.Table.{filled_more, filled-length, filled_next, entry_set}
use Rattle.case_branches.proofs.ptdf_table.Goals as goal
use Rattle.case_branches.proofs.ptdf_table.Goals.{After-branch_start-start}

pub loop-m-init : goal.loop-m-init
unfolding filled
loop-m-init c = refl

pub branch_start-start-requires-clause-counts_in_range : goal.branch_start-start-requires-clause-counts_in_range
branch_start-start-requires-clause-counts_in_range c = limited (headed c.args.«case».readable)

-- the branch stands within the file, and its row within the table
inside : (c : After-branch_start-start) → c.branch_start-start.result + (4 + 4 * c.args.«case».counts.zones) ≤ length c.args.«case».bytes.now
inside c = omega (arith, c.branch_start-start.ensures, branch-inside (whole c.args.«case».readable) c.loop-m.m c.loop-m-test.true)

pub overflow_add-start : goal.overflow_add-start
overflow_add-start c = omega (arith, inside (goal.at.overflow_add-start c).After-branch_start-start)

pub loop-z-init : goal.loop-z-init
unfolding filled
loop-z-init c =
    let row : c.loop-m.m < 64 = omega (arith, limited (headed c.args.«case».readable)) in
    c.loop-m.invariant ∙ sym (filled_next 64 empty_row (row_of c.args.«case».bytes.now) c.loop-m.m [] row)

pub overflow_mul-z : goal.overflow_mul-z
overflow_mul-z c = omega (arith, inside (goal.at.overflow_mul-z c).After-branch_start-start)

pub overflow_add-start-in-loop-z : goal.overflow_add-start-in-loop-z
overflow_add-start-in-loop-z c = omega (arith, inside (goal.at.overflow_add-start-in-loop-z c).After-branch_start-start)

pub read-requires : goal.read-requires
read-requires c = omega (arith, inside (goal.at.read-requires c).After-branch_start-start)

pub offset_bounds-table-m : goal.offset_bounds-table-m
offset_bounds-table-m c = omega (arith, limited (headed c.args.«case».readable))

pub offset_bounds-table-z : goal.offset_bounds-table-z
offset_bounds-table-z c = omega (arith, limited (headed c.args.«case».readable))

pub bounds-table-m : goal.bounds-table-m
bounds-table-m c = omega (arith, limited (headed c.args.«case».readable))

pub bounds-table-z : goal.bounds-table-z
bounds-table-z c = omega (arith, limited (headed c.args.«case».readable))

pub loop-z-preserved : goal.loop-z-preserved
unfolding ptdf_in
loop-z-preserved c =
    let s = c.args.«case».bytes.now in
    let m = c.loop-m.m in
    let row : m < 64 = omega (arith, limited (headed c.args.«case».readable)) in
    let start = c.branch_start-start.ensures ∙ branch-start-is (headed c.args.«case».readable) m in
    let v = to_z-of_z {w = w32} (record { sfits = c.read.type_inv }) ∙ c.read.ensures ∙ ap (λ (n : ℕ). i32_at s (n + 4 + 4 * c.loop-z.z)) start in
    entry_set c.loop-z.table (filled 64 empty_row (row_of s) m) m c.loop-z.z _ _ _ c.loop-z.invariant v (omega (arith, row, filled-length 64 empty_row (row_of s) m))
    ∙ ap (set (filled 64 empty_row (row_of s) m) m) (sym (filled_more 16 (pos 0) (ptdf_in s m) c.loop-z.z))

pub loop-m-preserved : goal.loop-m-preserved
unfolding row_of
loop-m-preserved c =
    let s = c.args.«case».bytes.now in
    let m = c.loop-m.m in
    let all : c.loop-z.z ≡ c.args.«case».counts.zones = omega arith in
    c.loop-z.invariant ∙ ap (λ (n : ℕ). set (filled 64 empty_row (row_of s) m) m (filled 16 (pos 0) (ptdf_in s m) n)) (all ∙ ap (λ (k : Counts). k.zones) c.args.«case».readable.counts)
    ∙ sym (filled_more 64 empty_row (row_of s) m)

pub returns : goal.returns
unfolding table_of
returns c =
    let all : c.loop-m.m ≡ c.args.«case».counts.branches = omega arith in
    c.loop-m.invariant ∙ ap (filled 64 empty_row (row_of c.args.«case».bytes.now)) (all ∙ ap (λ (k : Counts). k.branches) c.args.«case».readable.counts)
