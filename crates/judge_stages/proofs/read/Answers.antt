-- The case passes rows 1 to 8; rows 9 to 14, and 15 to 18.
use Rattle.std.proofs.Common.{◌≡◌, List, ◌++◌, ℕ, sym, ◌∙◌}
use Rattle.std.specs.Prelude.{Err}
use Rattle.std.proofs.Math.Option.{Option, some}
use Rattle.std.proofs.lemmas.Result.{err_from_is_err_and}
use Rattle.rules.specs.Meaning.Hour.{case_of, plan_of, prices_of}
use Rattle.rules.specs.Meaning.Verdict.{case_causes, case_refusal, proposal_causes, proposal_refusal}
use Rattle.base_causes.specs.declared.Outcome.{Outcome}
use Rattle.base_causes.specs.Meaning.Causes.{Cause, refusal}
use Rattle.case_header.specs.declared.Counts.{Counts}
use Rattle.case_header.specs.Meaning.CaseReadable.{CaseReadable}
use Rattle.proposal_file.specs.Meaning.ProposalValid.{ProposalValid}
use Rattle.proposal_file.specs.Meaning.Answer.{proposal_answer}
use Rattle.proposal_file.specs.Steps.ProposalValid.{proposed-of, refused-of}
use Rattle.judge_stages.specs.Meaning.Found.{list_of}
use Rattle.judge_stages.specs.Steps.Found.{admitted_causes, read_causes, first-refuses, first_passes}
use Rattle.judge_stages.proofs.read.Goals as goal

-- the rows of the files
abbrev of-case : List ℕ → List Cause
of-case s = case_causes s (case_of s)

abbrev of-proposal : List ℕ → List ℕ → List Cause
of-proposal s t = proposal_causes s t (case_of s) (plan_of s t) (prices_of s t)

module _ (fs : Option (List ℕ)) (s t : List ℕ) {k : Counts} (r : CaseReadable s k) where
  past-case : refusal (read_causes fs s t) ≡ refusal (of-proposal s t ++ admitted_causes fs (case_of s))
  unfolding case_refusal
  past-case = first_passes (of-case s) (of-proposal s t ++ admitted_causes fs (case_of s)) r.readable.none-holds

  -- a refusal by 9 to 14
  refused : {o : Outcome} → proposal_answer s t ≡ Err o → refusal (read_causes fs s t) ≡ some o
  unfolding proposal_refusal
  refused e = past-case ∙ first-refuses (of-proposal s t) (admitted_causes fs (case_of s)) _ (refused-of s t e)

  -- where they pass
  past-proposal : ProposalValid s k t → refusal (read_causes fs s t) ≡ refusal (admitted_causes fs (case_of s))
  unfolding proposal_refusal
  past-proposal w = past-case ∙ first_passes (of-proposal s t) (admitted_causes fs (case_of s)) w.passed

-- 9 TO 14
pub returns-in_err-opening-clause-refused : goal.returns-in_err-opening-clause-refused
returns-in_err-opening-clause-refused c =
    let p = err_from_is_err_and c.from_residual.result c.from_residual.ensures.1 in
    rw (p.1, p.2) (refused (list_of c.args.families) c.args.case.bytes.now c.args.proposal.now c.args.case.readable (sym c.read_proposal.ensures ∙ c.in_err-opening.was))

-- 15 TO 18
pub returns-in_err-families-clause-refused : goal.returns-in_err-families-clause-refused
returns-in_err-families-clause-refused c =
    let r = c.args.case.readable in
    let w = proposed-of c.args.proposal.now r (sym c.read_proposal.ensures ∙ c.in_ok-opening.was) in
    let p = err_from_is_err_and c.from_residual-in_err-families.result c.from_residual-in_err-families.ensures.1 in
    rw (p.1, p.2) (past-proposal (list_of c.args.families) c.args.case.bytes.now c.args.proposal.now r w ∙ c.in_err-families.ensures.refused)

pub returns-clause-passed : goal.returns-clause-passed
returns-clause-passed c =
    let r = c.args.case.readable in
    let w = proposed-of c.args.proposal.now r (sym c.read_proposal.ensures ∙ c.in_ok-opening.was) in
    past-proposal (list_of c.args.families) c.args.case.bytes.now c.args.proposal.now r w ∙ c.in_ok-families.ensures.passed
