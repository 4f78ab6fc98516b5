-- `case_branches::walk_ptdf` meets its contract: the PTDF is within the file, so it is not missing.
-- Assumes nothing.
use Rattle.std.proofs.Common.{◌≡◌, ℕ, ◌+◌, sym, ap, ◌∙◌, arith, Ok}
use Rattle.base_integers.specs.Meaning.Ranges.{outside}
use Rattle.base_limits.specs.Meaning.Limits as limits
use Rattle.base_measures.specs.Steps.Held.{ptdf-outside, ptdf-held}
use Rattle.base_measures.specs.declared.Raw.{Raw}
use Rattle.rules.specs.Meaning.Layout.{i32_at}
use Rattle.bytes_read.specs.declared.Cursor.{Cursor}
use Rattle.bytes_read.specs.Meaning.Field.{cursor, raw}
use Rattle.bytes_read.specs.Meaning.Walk.{refused_at}
use Rattle.bytes_read.specs.Steps.Record.{RecordWithin, FieldRead, signed-read}
use Rattle.case_branches.specs.Steps.Branch.{ptdf_by}
use Rattle.case_branches.proofs.walk_ptdf.Goals as goal
use Rattle.case_branches.proofs.walk_ptdf.Goals.{After-new}

-- THE PTDF: its four bytes, within the file
first-at : (c : After-new) → c.new-first.result.at ≡ 0
first-at c = ap (λ (d : Cursor). d.at) c.new-first.ensures

ptdf-read : (c : After-new) → FieldRead c.in-Some.ptdf (raw (i32_at c.args.«case».now (c.args.here.at + 0))) c.in-Some.past 4
ptdf-read c =
    let w : RecordWithin c.args.«case».now c.args.here.at 4 = record { inside = c.requires.at_in_bounds; small = c.requires.case_len_bound } in
    signed-read w 0 (first-at c) (omega arith) c.take.ensures c.in-Some.is

ptdf-test : (c : After-new) → outside limits.ptdf (i32_at c.args.«case».now c.args.here.at) ≡ outside limits.ptdf c.in-Some.ptdf.0
ptdf-test c =
    let z : c.args.here.at + 0 ≡ c.args.here.at = omega arith in
    ap (λ (n : ℕ). outside limits.ptdf (i32_at c.args.«case».now n)) (sym z) ∙ ap (λ (x : Raw). outside limits.ptdf x.0) (sym (ptdf-read c).is)

pub returns-in_default-new : goal.returns-in_default-new
returns-in_default-new c =
    let n = (goal.at.returns-in_default-new c).After-new in
    c.refuse_in-in_default-new.ensures ∙ ap (refused_at 6) (omega (arith, first-at n))
    ∙ ap (ptdf_by c.args.here.at) (sym (ptdf-test n ∙ ptdf-outside _ _ (sym c.new.ensures ∙ c.in_default-new.is)))

pub returns : goal.returns
returns c =
    let n = (goal.at.returns c).After-new in
    ap Ok (c.in_file.ensures ∙ ap (λ (k : ℕ). cursor (c.args.here.at + k)) (ptdf-read n).past)
    ∙ ap (ptdf_by c.args.here.at) (sym (ptdf-test n ∙ (ptdf-held _ _ c.in-Some-new.field-0 (sym c.new.ensures ∙ c.in-Some-new.is)).0))
