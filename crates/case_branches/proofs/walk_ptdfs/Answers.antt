-- `case_branches::walk_ptdfs` meets its contract: one PTDF within the file for each turn. Assumes nothing.
use Rattle.std.proofs.Common.{◌+◌, ◌*◌, refl, sym, ap, ◌∙◌, arith, Err}
use Rattle.base_causes.specs.Meaning.Causes.{first_below}
use Rattle.base_causes.proofs.Promised.CauseLaws.{first-later}
use Rattle.bytes_read.specs.declared.Cursor.{Cursor}
use Rattle.case_branches.specs.Steps.Branch.{ptdf_fault, ptdf_walked, one-refused, one-past, ptdfs-stop}
use Rattle.case_branches.proofs.walk_ptdfs.Goals as goal

pub loop-init : goal.loop-init
unfolding first_below
loop-init c = (omega arith, refl)

pub returns-in_default : goal.returns-in_default
returns-in_default c =
    let s = c.args.«case».now in
    let at = c.args.start.at in
    let one = c.walk_ptdf-walked.ensures ∙ ap (ptdf_walked s) c.loop.invariant.0 in
    let r = one-refused s (at + 4 * c.loop.counter) (sym one ∙ c.in_default.is) in
    c.in_default.is ∙ r.1 ∙ ptdfs-stop s at c.args.zones c.loop.counter c.loop.invariant.1 c.loop-test.true r.0

pub loop-preserved : goal.loop-preserved
loop-preserved c =
    let s = c.args.«case».now in
    let at = c.args.start.at in
    let one = c.walk_ptdf-walked.ensures ∙ ap (ptdf_walked s) c.loop.invariant.0 in
    let p = one-past s (at + 4 * c.loop.counter) (sym one ∙ c.in-Ok.is) in
    (ap (λ (d : Cursor). d.at) p.1 ∙ omega arith, first-later (ptdf_fault s at) c.loop.counter c.loop.invariant.1 p.0)
