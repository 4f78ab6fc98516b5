-- Outer loop: the first m rows are those of the branches, the others zero. Inner loop: row m also has its first z
-- entries.
use Rattle.std.proofs.Common.{◌≡◌, set}
use Rattle.std.specs.Prelude.{pos}
use Rattle.rules.specs.Meaning.Layout.{ptdf_in}
use Rattle.case_branches.specs.Meaning.Table.{filled, empty_row, row_of}
use Rattle.case_branches.proofs.ptdf_table.Given as goal

abbrev pub invariant-loop-z : goal.invariant-loop-z
invariant-loop-z l = l.table ≡ set (filled 64 empty_row (row_of l.case.bytes.now) l.m) l.m (filled 16 (pos 0) (ptdf_in l.case.bytes.now l.m) l.z)

abbrev pub invariant-loop-m : goal.invariant-loop-m
invariant-loop-m l = l.table ≡ filled 64 empty_row (row_of l.case.bytes.now) l.m
