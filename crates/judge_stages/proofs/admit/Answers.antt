-- Row 15, and rows 16 to 18 where there is a family list.
use Rattle.std.proofs.Common.{◌≡◌, List, ℕ, pos, sym, ap, ◌∙◌}
use Rattle.std.proofs.lemmas.Result.{err_from_is_err_and}
use Rattle.base_integers.specs.Meaning.Ranges.{outside}
use Rattle.base_limits.specs.Meaning.Limits as limits
use Rattle.base_measures.specs.Steps.Held.{microcents-outside, microcents-held, money-tests}
use Rattle.rules.specs.Meaning.Hour.{case_of}
use Rattle.rules.specs.Meaning.Verdict.{wide_tolerance, family_causes}
use Rattle.base_causes.specs.Meaning.Causes.{refusal}
use Rattle.base_causes.proofs.Promised.CauseLaws.{row-found, row-clear, once-fails, once-passes}
use Rattle.case_header.specs.declared.Counts.{Counts}
use Rattle.case_header.specs.Meaning.CaseReadable.{CaseReadable}
use Rattle.family_list.proofs.Steps.Answer.{refused-of, passed-of}
use Rattle.judge_stages.specs.Meaning.Found.{list_of}
use Rattle.judge_stages.specs.Steps.Facts.{tolerance-is, orders-is, few-orders}
use Rattle.judge_stages.specs.Steps.Listed.{no-list}
use Rattle.judge_stages.proofs.admit.Goals as goal

module _ {s : List ℕ} {k : Counts} (r : CaseReadable s k) where
  -- the test in microcents is the paper's in cents
  in-cents : outside limits.accepted_tolerance_money k.tolerance.0 ≡ outside limits.accepted_tolerance (pos (case_of s).tolerance)
  in-cents = ap (outside limits.accepted_tolerance_money) (tolerance-is r) ∙ money-tests 10000 (case_of s).tolerance

-- 15
pub returns-in_default-clause-refused : goal.returns-in_default-clause-refused
returns-in_default-clause-refused c =
    let h = case_of c.args.case.bytes.now in
    rw c.refused.ensures (row-found (wide_tolerance h) (family_causes (list_of c.args.families) h) 0 (once-fails (sym (in-cents c.args.case.readable) ∙ microcents-outside _ _ (sym c.in_default.ensures))))

-- NO LIST
pub returns-in_default-families-clause-passed : goal.returns-in_default-families-clause-passed
returns-in_default-families-clause-passed c =
    let h = case_of c.args.case.bytes.now in
    row-clear (wide_tolerance h) (family_causes (list_of c.args.families) h) (once-passes (sym (in-cents c.args.case.readable) ∙ (microcents-held _ _ _ (sym c.in-Some.ensures)).0))
    ∙ ap (λ fs. refusal (family_causes (list_of fs) h)) c.in_default-families.is ∙ no-list h

-- 16 TO 18
pub read_families-requires : goal.read_families-requires
read_families-requires c = few-orders c.args.case.readable

pub returns-in_err-read_families-clause-refused : goal.returns-in_err-read_families-clause-refused
returns-in_err-read_families-clause-refused c =
    let h = case_of c.args.case.bytes.now in
    let p = err_from_is_err_and c.from_residual.result c.from_residual.ensures.1 in
    rw (p.1, p.2)
    (row-clear (wide_tolerance h) (family_causes (list_of c.args.families) h) (once-passes (sym (in-cents c.args.case.readable) ∙ (microcents-held _ _ _ (sym c.in-Some.ensures)).0))
    ∙ ap (λ fs. refusal (family_causes (list_of fs) h)) c.in-Some-families.is
    ∙ refused-of c.in-Some-families.list.now h (orders-is c.args.case.readable) c.in_err-read_families.ensures.refused)

pub returns-clause-passed : goal.returns-clause-passed
returns-clause-passed c =
    let h = case_of c.args.case.bytes.now in
    row-clear (wide_tolerance h) (family_causes (list_of c.args.families) h) (once-passes (sym (in-cents c.args.case.readable) ∙ (microcents-held _ _ _ (sym c.in-Some.ensures)).0))
    ∙ ap (λ fs. refusal (family_causes (list_of fs) h)) c.in-Some-families.is
    ∙ passed-of c.in-Some-families.list.now h (orders-is c.args.case.readable) c.in_ok-read_families.ensures.sound.1.1
