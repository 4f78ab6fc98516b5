-- Row 28, where there is a family list.
use Rattle.std.proofs.Common.{sym, ap, ◌∙◌}
use Rattle.rules.specs.Meaning.Hour.{case_of, plan_of}
use Rattle.rules.specs.Meaning.Verdict.{fraction_causes}
use Rattle.base_causes.specs.Meaning.Causes.{refusal}
use Rattle.proposal_file.specs.Steps.Read.{sound}
use Rattle.judge_stages.specs.Steps.Listed.{list_read, no-fraction, fraction-over, fractions-within, place-few}
use Rattle.judge_stages.proofs.hold_families.Goals as goal

pub returns-in_default-clause-passed : goal.returns-in_default-clause-passed
returns-in_default-clause-passed c =
    let h = case_of c.args.filled.hour.case.bytes.now in
    let p = plan_of c.args.filled.hour.case.bytes.now c.args.filled.hour.proposal.now in
    ap (λ fs. refusal (fraction_causes (list_read fs) h p)) c.in_default.is ∙ no-fraction h p

pub refused_at-requires : goal.refused_at-requires
refused_at-requires c =
    place-few c.in-Some.families.list.now (case_of c.args.filled.hour.case.bytes.now) (plan_of c.args.filled.hour.case.bytes.now c.args.filled.hour.proposal.now)
    (sound c.args.filled.hour.read).orders-in (sym c.in-Some-first_over_parent.ensures)

pub returns-in-Some-first_over_parent-clause-refused : goal.returns-in-Some-first_over_parent-clause-refused
returns-in-Some-first_over_parent-clause-refused c =
    let h = case_of c.args.filled.hour.case.bytes.now in
    let p = plan_of c.args.filled.hour.case.bytes.now c.args.filled.hour.proposal.now in
    rw c.refused_at.ensures (ap (λ fs. refusal (fraction_causes (list_read fs) h p)) c.in-Some.is ∙ fraction-over c.in-Some.families.list.now h p (sym c.in-Some-first_over_parent.ensures))

pub returns-clause-passed : goal.returns-clause-passed
returns-clause-passed c =
    let h = case_of c.args.filled.hour.case.bytes.now in
    let p = plan_of c.args.filled.hour.case.bytes.now c.args.filled.hour.proposal.now in
    ap (λ fs. refusal (fraction_causes (list_read fs) h p)) c.in-Some.is ∙ fractions-within c.in-Some.families.list.now h p (sym c.in_default-first_over_parent.ensures)
