-- `case_branches::margin_at` meets its contract: branch m stands within the file. Assumes nothing.
use Rattle.std.proofs.Common.{◌≡◌, sym, ap, subst, ◌∙◌, arith}
use Rattle.std.specs.Prelude.{ℤ}
use Rattle.base_integers.specs.Meaning.Ranges.{Within}
use Rattle.base_limits.specs.Meaning.Limits as limits
use Rattle.base_measures.specs.declared.Raw.{Raw}
use Rattle.base_measures.specs.declared.Tenths.{Tenths}
use Rattle.rules.specs.Meaning.Layout.{i32_at, ram_in}
use Rattle.rules.specs.Meaning.Hour.{case_of}
use Rattle.rules.proofs.Steps.Passed.{case-sound}
use Rattle.case_header.specs.declared.Counts.{Counts}
use Rattle.case_header.specs.Steps.CaseReadable.{headed, whole, limited, branch-start-is, branch-inside}
use Rattle.case_branches.proofs.margin_at.Goals as goal
use Rattle.case_branches.proofs.margin_at.Goals.{After-read}

pub branch_start-requires-clause-counts_in_range : goal.branch_start-requires-clause-counts_in_range
branch_start-requires-clause-counts_in_range c = limited (headed c.args.«case».readable)

pub read-requires : goal.read-requires
read-requires c = omega (arith, c.branch_start.ensures, branch-inside (whole c.args.«case».readable) c.args.m c.requires)

margin-is : (c : After-read) → c.read.result.0 ≡ ram_in c.args.«case».bytes.now c.args.m
unfolding ram_in
margin-is c = ap (λ (x : Raw). x.0) c.read.ensures ∙ ap (i32_at c.args.«case».bytes.now) (c.branch_start.ensures ∙ branch-start-is (headed c.args.«case».readable) c.args.m)

-- row 6 passed
pub of_margin-requires : goal.of_margin-requires
unfolding case_of
of_margin-requires c =
    subst (λ (x : ℤ). Within limits.margin x) (sym (margin-is (goal.at.of_margin-requires c).After-read))
    ((case-sound _ c.args.«case».readable.readable).ram-in c.args.m (omega (arith, c.requires, ap (λ (k : Counts). k.branches) c.args.«case».readable.counts)))

pub returns : goal.returns
returns c = ap (λ (t : Tenths). t.0) c.of_margin.ensures ∙ margin-is (goal.at.returns c).After-read
