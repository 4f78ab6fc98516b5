-- The stages are asked in the table's order until one refuses.
use Rattle.std.proofs.Common.{◌≡◌, List, ◌++◌, ℕ, ap, sym, subst, ◌∙◌}
use Rattle.std.specs.Prelude.{Result, Err}
use Rattle.std.proofs.Math.Option.{Option}
use Rattle.std.proofs.lemmas.Result.{err_from_is_err_and}
use Rattle.rules.specs.Meaning.Hour.{case_of, plan_of, prices_of}
use Rattle.base_causes.specs.declared.Outcome.{Outcome}
use Rattle.base_causes.specs.Meaning.Causes.{Cause, refusal}
use Rattle.judge_stages.specs.declared.ValuedHour.{ValuedHour}
use Rattle.judge_stages.specs.Meaning.Found.{Finds, list_of, hour_causes}
use Rattle.judge_stages.specs.Steps.Found.{read_causes, clear_causes, value_causes, stages, same_rows, read-silent, clear-silent, stage-refuses, stage-passes}
use Rattle.judge_stages.specs.Steps.Listed.{list_read}
use Rattle.judge_stages.proofs.find_after.Goals as goal

-- the rows from each stage on
module _ (fs : Option (List ℕ)) (s t : List ℕ) where
  abbrev from-24 : List Cause
  from-24 = value_causes (case_of s) (plan_of s t) (prices_of s t)

  abbrev from-21 : List Cause
  from-21 = clear_causes fs (case_of s) (plan_of s t) ++ from-24

  whole : (r : Result ValuedHour Outcome) → Finds (read_causes fs s t ++ from-21) s t r → Finds (hour_causes fs s t) s t r
  whole r f = same_rows (hour_causes fs s t) (read_causes fs s t ++ from-21) s t r (ap refusal (stages fs s t)) f

-- the refusal of `clear`, for the files that were read
abbrev clear-refusal : Option (List ℕ) → List ℕ → List ℕ → Option Outcome
clear-refusal fs s t = refusal (clear_causes fs (case_of s) (plan_of s t))

-- 9 TO 18
pub returns-in_err-reading : goal.returns-in_err-reading
returns-in_err-reading c =
    let s = c.args.case.bytes.now in
    let t = c.args.proposal.now in
    let l = list_of c.args.families in
    let p = err_from_is_err_and c.from_residual.result c.from_residual.ensures.1 in
    whole l s t c.from_residual.result (stage-refuses (from-21 l s t) (read-silent l s t) s t (p.1 ∙ ap Err p.2) c.in_err-reading.ensures.refused)

-- 21, 28, 22, 27 AND 23
pub returns-in_err-cleared : goal.returns-in_err-cleared
returns-in_err-cleared c =
    let s = c.args.case.bytes.now in
    let t = c.args.proposal.now in
    let l = list_of c.args.families in
    let read = c.in_ok-reading.ensures in
    let p = err_from_is_err_and c.from_residual-in_err-cleared.result c.from_residual-in_err-cleared.ensures.1 in
    let same : clear-refusal (list_read c.in_ok-reading.reading.families) c.in_ok-reading.reading.hour.case.bytes.now c.in_ok-reading.reading.hour.proposal.now ≡ clear-refusal l s t =
    λ j. clear-refusal (read.list j) (read.case_is j) (read.proposal_is j) in
    whole l s t c.from_residual-in_err-cleared.result (stage-passes (from-21 l s t) (read-silent l s t) s t c.from_residual-in_err-cleared.result read.passed
    (stage-refuses (from-24 l s t) (clear-silent l (case_of s) (plan_of s t)) s t (p.1 ∙ ap Err p.2) (sym same ∙ c.in_err-cleared.ensures.refused)))

-- 24 TO 26
pub returns : goal.returns
returns c =
    let s = c.args.case.bytes.now in
    let t = c.args.proposal.now in
    let l = list_of c.args.families in
    let r = c.value.result in
    let read = c.in_ok-reading.ensures in
    let behind = c.in_ok-reading.reading.hour.proposal.now in
    let same : clear-refusal (list_read c.in_ok-reading.reading.families) c.in_ok-reading.reading.hour.case.bytes.now behind ≡ clear-refusal l s t =
    λ j. clear-refusal (read.list j) (read.case_is j) (read.proposal_is j) in
    whole l s t r (stage-passes (from-21 l s t) (read-silent l s t) s t r read.passed
    (stage-passes (from-24 l s t) (clear-silent l (case_of s) (plan_of s t)) s t r (sym same ∙ c.in_ok-cleared.ensures.passed)
    (subst (λ (t : List ℕ). Finds (from-24 l s t) s t r) read.proposal_is (subst (λ (s : List ℕ). Finds (from-24 l s behind) s behind r) read.case_is c.value.ensures))))
