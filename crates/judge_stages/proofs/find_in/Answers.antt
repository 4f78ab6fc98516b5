-- The case is refused, or it is cut from its proposal and the hour is judged.
use Rattle.std.proofs.Common.{◌≡◌, List, ◌++◌, ℕ, ◌-◌, ◌≤◌, length, take, drop, length-drop, sym, ap, subst, ◌∙◌, arith}
use Rattle.std.proofs.Math.Seq.{length-take-le, take_all}
use Rattle.std.specs.Prelude.{Err}
use Rattle.std.proofs.lemmas.Result.{err_from_is_err_and}
use Rattle.rules.specs.Meaning.Hour.{case_of, plan_of, prices_of}
use Rattle.rules.specs.Meaning.Verdict.{case_causes, case_refusal, proposal_causes, judgement_causes}
use Rattle.case_header.specs.declared.Counts.{Counts}
use Rattle.case_header.specs.Meaning.CaseReadable.{CaseReadable, length_of}
use Rattle.case_header.specs.Steps.CaseReadable.{headed, limited}
use Rattle.case_file.specs.declared.Files.{Files}
use Rattle.case_file.specs.declared.Files.TheVariants.{Joined}
use Rattle.case_file.specs.Meaning.Files.{case_in, proposal_in}
use Rattle.case_file.specs.Steps.Answer.{opened_of, refused-of}
use Rattle.case_file.specs.Steps.Files.{proposal_start, case-within, case-front, proposal-within, proposal-rest}
use Rattle.judge_stages.specs.Meaning.Found.{Finds, list_of, hour_causes}
use Rattle.judge_stages.specs.Steps.Found.{admitted_causes, read_causes, read-silent, first-refuses, finds-refused, writes-no-report}
use Rattle.judge_stages.proofs.find_in.Goals as goal

-- THE CUT: what is lent, and where the case and the proposal are in it
module _ (files : Files) (lent behind : List ℕ) {k : Counts} (readable : CaseReadable (case_in files lent) k) {end begin : ℕ} (e : end ≡ length_of k) (b : begin ≡ proposal_start files end) (same : files ≡ Joined → behind ≡ lent) where
  begin-is : begin ≡ proposal_start files (length_of k)
  begin-is = b ∙ ap (λ (n : ℕ). proposal_start files n) e

  case-inside : end ≤ length lent
  case-inside = omega (arith, e, case-within files lent readable)

  proposal-inside : begin ≤ length behind
  proposal-inside = omega (arith, begin-is, proposal-within files lent behind readable same)

  file-is : take end lent ≡ case_in files lent
  file-is = ap (λ (n : ℕ). take n lent) e ∙ case-front files lent readable

  text-is : take (length behind - begin) (drop begin behind) ≡ proposal_in files behind
  text-is =
      take_all (length behind - begin) (drop begin behind) (omega (arith, length-drop begin behind))
      ∙ ap (λ (n : ℕ). drop n behind) begin-is
      ∙ proposal-rest files lent behind readable same

pub returns-in_err-counts : goal.returns-in_err-counts
unfolding case_refusal
returns-in_err-counts c =
    let s = case_in c.args.files c.args.case.now in
    let t = proposal_in c.args.files c.args.proposal.now in
    let l = list_of c.args.families in
    let of-case = case_causes s (case_of s) in
    let of-proposal = proposal_causes s t (case_of s) (plan_of s t) (prices_of s t) in
    let q = refused-of s (sym c.read_case.ensures ∙ c.in_err-counts.was) in
    let silent = read-silent l s t in
    let p = err_from_is_err_and c.from_residual.result c.from_residual.ensures.1 in
    finds-refused (hour_causes l s t) s t _ (p.1 ∙ ap Err p.2)
    (writes-no-report (read_causes l s t) _ silent.not-0 silent.not-26 (first-refuses of-case (of-proposal ++ admitted_causes l (case_of s)) _ q))
    (first-refuses of-case (of-proposal ++ judgement_causes l (case_of s) (plan_of s t) (prices_of s t)) _ q)

pub demanded-end-requires : goal.demanded-end-requires
demanded-end-requires c = limited (headed (opened_of (case_in c.args.files c.args.case.now) (sym c.read_case.ensures ∙ c.in_ok-counts.was)))

pub slice_bounds-readable-end : goal.slice_bounds-readable-end
slice_bounds-readable-end c =
    let readable = opened_of (case_in c.args.files c.args.case.now) (sym c.read_case.ensures ∙ c.in_ok-counts.was) in
    sym (length-take-le _ _ (case-inside c.args.files c.args.case.now c.args.proposal.now readable c.demanded-end.ensures c.proposal_start-start.ensures c.requires))

pub slice_bounds-find_after-count : goal.slice_bounds-find_after-count
slice_bounds-find_after-count c =
    let readable = opened_of (case_in c.args.files c.args.case.now) (sym c.read_case.ensures ∙ c.in_ok-counts.was) in
    proposal-inside c.args.files c.args.case.now c.args.proposal.now readable c.demanded-end.ensures c.proposal_start-start.ensures c.requires

pub slice_bounds-find_after-start : goal.slice_bounds-find_after-start
slice_bounds-find_after-start c =
    let readable = opened_of (case_in c.args.files c.args.case.now) (sym c.read_case.ensures ∙ c.in_ok-counts.was) in
    proposal-inside c.args.files c.args.case.now c.args.proposal.now readable c.demanded-end.ensures c.proposal_start-start.ensures c.requires

pub invariant_of-readable : goal.invariant_of-readable
invariant_of-readable c =
    let readable = opened_of (case_in c.args.files c.args.case.now) (sym c.read_case.ensures ∙ c.in_ok-counts.was) in
    record { readable = subst (λ (s : List ℕ). CaseReadable s c.in_ok-counts.counts) (sym (file-is c.args.files c.args.case.now c.args.proposal.now readable c.demanded-end.ensures c.proposal_start-start.ensures c.requires)) readable }

pub returns : goal.returns
returns c =
    let files = c.args.files in
    let lent = c.args.case.now in
    let behind = c.args.proposal.now in
    let readable = opened_of (case_in c.args.files c.args.case.now) (sym c.read_case.ensures ∙ c.in_ok-counts.was) in
    let l = list_of c.args.families in
    let r = c.find_after.result in
    let text = take (length behind - c.proposal_start-start.result) (drop c.proposal_start-start.result behind) in
    subst (λ (t : List ℕ). Finds (hour_causes l (case_in files lent) t) (case_in files lent) t r) (text-is c.args.files c.args.case.now c.args.proposal.now readable c.demanded-end.ensures c.proposal_start-start.ensures c.requires)
    (subst (λ (s : List ℕ). Finds (hour_causes l s text) s text r) (file-is c.args.files c.args.case.now c.args.proposal.now readable c.demanded-end.ensures c.proposal_start-start.ensures c.requires) c.find_after.ensures)
