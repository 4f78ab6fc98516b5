-- `case_branches::walk_branches` meets its contract: the branch of a turn is within the file, so no field of it is
-- missing. Assumes nothing.
use Rattle.std.proofs.Common.{◌≡◌, ℕ, ◌<◌, List, refl, sym, ap, ◌∙◌, arith}
use Rattle.std.specs.Prelude.{ℤ, Result, Err}
use Rattle.std.proofs.lemmas.Result.{err_from_is_err_and}
use Rattle.base_causes.specs.declared.Outcome.{Outcome}
use Rattle.base_integers.specs.Meaning.Ranges.{outside}
use Rattle.base_limits.specs.Meaning.Limits as limits
use Rattle.base_measures.specs.Steps.Held.{tenths-outside, tenths-held}
use Rattle.base_measures.specs.declared.Raw.{Raw}
use Rattle.rules.specs.Meaning.Layout.{zones_in, branches_in, branch_at}
use Rattle.base_causes.specs.Meaning.Causes.{first_below}
use Rattle.bytes_read.specs.declared.Cursor.{Cursor}
use Rattle.bytes_read.specs.Meaning.Field.{cursor, raw}
use Rattle.bytes_read.specs.Steps.Taking.{FieldsTaken, NextTaken, signed-next, signed-lacks}
use Rattle.bytes_read.specs.Meaning.Walk.{refused_at}
use Rattle.bytes_read.specs.Steps.Walked.{walk-done}
use Rattle.case_header.specs.declared.Counts.{Counts}
use Rattle.case_header.specs.Meaning.CaseReadable.{LengthValid, branch_cause}
use Rattle.case_header.specs.Steps.CaseReadable.{limited}
use Rattle.case_branches.specs.Steps.Branch.{ptdfs_walked, links-begin, branch-within, margin-stops, ptdf-stops, ptdfs-pass}
use Rattle.case_branches.proofs.walk_branches.Goals as goal

pub loop-init : goal.loop-init
unfolding first_below
loop-init c = (c.requires, refl)

-- THE BRANCH OF A TURN, m, where a cursor stands: its fields are within the file
module _ {s : List ℕ} {k : Counts} (w : LengthValid s k) where
  zones-is : k.zones ≡ zones_in s
  zones-is = ap (λ (k : Counts). k.zones) w.headed.counts

  one_of : {m : ℕ} → m < k.branches → m < branches_in s
  one_of h = omega (arith, ap (λ (k : Counts). k.branches) w.headed.counts)

  here : {m : ℕ} → m < k.branches → {d : Cursor} → d.at ≡ branch_at s m → FieldsTaken s (branch_at s m) d
  here {m} h e = record { inside = omega (arith, branch-within w m h); past = ap cursor e }

pub refuse-requires : goal.refuse-requires
refuse-requires c = omega (arith, c.loop.invariant.0, branch-within c.args.«case».whole c.loop.counter c.loop-test.true)

pub returns-in_default : goal.returns-in_default
returns-in_default c =
    let w = c.args.«case».whole in
    absurd (omega (arith, signed-lacks (here w c.loop-test.true c.loop.invariant.0) c.take.ensures c.in_default.is, branch-within w c.loop.counter c.loop-test.true))

-- THE MARGIN, tested as it was taken
tested : {s : List ℕ} {n : ℕ} {x : Raw} {y : ℤ} {c : Cursor} → NextTaken s n x (raw y) c → outside limits.margin y ≡ outside limits.margin x.0
tested t = ap (λ (x : Raw). outside limits.margin x.0) (sym t.is)

pub refuse-requires-in_default-margin : goal.refuse-requires-in_default-margin
refuse-requires-in_default-margin c = omega (arith, c.loop.invariant.0, branch-within c.args.«case».whole c.loop.counter c.loop-test.true)

pub returns-in_default-margin : goal.returns-in_default-margin
returns-in_default-margin c =
    let w = c.args.«case».whole in
    let t = signed-next (here w c.loop-test.true c.loop.invariant.0) c.take.ensures c.in-Some.is in
    c.refuse-in_default-margin.ensures ∙ ap (refused_at 6) c.loop.invariant.0
    ∙ margin-stops c.args.«case».bytes.now c.loop.counter (one_of w c.loop-test.true) c.loop.invariant.1 (tested t ∙ tenths-outside _ _ (sym c.margin.ensures ∙ c.in_default-margin.is))

-- THE PTDFS
pub walk_ptdfs-requires-clause-zones_bound : goal.walk_ptdfs-requires-clause-zones_bound
walk_ptdfs-requires-clause-zones_bound c = (limited c.args.«case».whole.headed).zones-in

pub walk_ptdfs-requires-clause-zones_in_bounds : goal.walk_ptdfs-requires-clause-zones_in_bounds
walk_ptdfs-requires-clause-zones_in_bounds c =
    let w = c.args.«case».whole in
    let t = signed-next (here w c.loop-test.true c.loop.invariant.0) c.take.ensures c.in-Some.is in
    omega (arith, ap (λ (d : Cursor). d.at) t.taken.past, branch-within w c.loop.counter c.loop-test.true)

pub walk_ptdfs-requires-clause-case_len_bound : goal.walk_ptdfs-requires-clause-case_len_bound
walk_ptdfs-requires-clause-case_len_bound c = (branch-within c.args.«case».whole c.loop.counter c.loop-test.true).small

-- where the walk over them ends
ends : {s : List ℕ} {n zones zones' : ℕ} {x : Raw} {y : ℤ} {c : Cursor} {r : Result Cursor Outcome} → NextTaken s n x (raw y) c → zones ≡ zones' → r ≡ ptdfs_walked s c.at zones → ptdfs_walked s n zones' ≡ r
ends {s} t z e = sym (e ∙ (λ j. ptdfs_walked s (t.taken.past j).at (z j)))

pub returns-in_err-cursor : goal.returns-in_err-cursor
returns-in_err-cursor c =
    let w = c.args.«case».whole in
    let t = signed-next (here w c.loop-test.true c.loop.invariant.0) c.take.ensures c.in-Some.is in
    let m = tested t ∙ (tenths-held _ _ c.in-Some-margin.field-0 (sym c.margin.ensures ∙ c.in-Some-margin.is)).0 in
    let p = err_from_is_err_and c.from_residual.result c.from_residual.ensures.1 in
    p.1 ∙ ap Err p.2 ∙ ptdf-stops c.args.«case».bytes.now c.loop.counter (one_of w c.loop-test.true) c.loop.invariant.1 m (ends t (zones-is w) c.walk_ptdfs.ensures ∙ c.in_err-cursor.was)

pub loop-preserved : goal.loop-preserved
loop-preserved c =
    let w = c.args.«case».whole in
    let t = signed-next (here w c.loop-test.true c.loop.invariant.0) c.take.ensures c.in-Some.is in
    let m = tested t ∙ (tenths-held _ _ c.in-Some-margin.field-0 (sym c.margin.ensures ∙ c.in-Some-margin.is)).0 in
    ptdfs-pass c.args.«case».bytes.now c.loop.counter (one_of w c.loop-test.true) c.loop.invariant.1 m (ends t (zones-is w) c.walk_ptdfs.ensures ∙ c.in_ok-cursor.was)

pub returns : goal.returns
returns c =
    let s = c.args.«case».bytes.now in
    let branches = ap (λ (k : Counts). k.branches) c.args.«case».whole.headed.counts in
    walk-done (branch_cause s) (branch_at s) c.loop.invariant.0 c.loop.invariant.1 (omega (arith, branches)) (links-begin s)
