-- The rows of the orders and, where they pass, those of the links.
use Rattle.std.proofs.Common.{◌≡◌, List, ℕ, not, ◌&&◌, eqb, pos, sym, ap, subst, ◌∙◌, arith}
use Rattle.std.specs.Int.Signed.{lt_z}
use Rattle.std.proofs.lemmas.Result.{err_from_is_err_and}
use Rattle.base_integers.specs.Meaning.Ranges.{is_zero}
use Rattle.base_integers.specs.Meaning.Sums.{sum_to}
use Rattle.base_integers.specs.Meaning.Machine.{SumsFit}
use Rattle.base_integers.specs.Steps.Machine.{fit-ext}
use Rattle.base_integers.specs.Steps.Sums.{sum-ext}
use Rattle.rules.specs.Meaning.Hour.{case_of, plan_of, net, net_sum, no_link}
use Rattle.rules.specs.Meaning.Verdict.{◌over◌}
use Rattle.rules.proofs.Promised.Fits.{balance-sums}
use Rattle.base_causes.proofs.Promised.CauseLaws.{place-below}
use Rattle.base_measures.specs.declared.Tenths.{Tenths}
use Rattle.base_measures.specs.Meaning.TenthsHold.{tenths_at, TenthsHold}
use Rattle.case_header.specs.declared.Counts.{Counts}
use Rattle.proposal_file.specs.declared.ProposalOpening.{ProposalOpening}
use Rattle.proposal_file.specs.Meaning.Read.{HourReadFrom}
use Rattle.proposal_file.specs.Meaning.InRange.{VolumesInRange}
use Rattle.proposal_file.specs.Steps.Read.{sound, zones-is, few-zones, links-is, share-is, share-in}
use Rattle.judge_clearing.specs.Steps.InRange.{volumes-in, flows-in}
use Rattle.judge_stages.specs.Steps.Found.{balance_answer, balance-refuses, balance-passes, refused-21, refused-28, refused-balance, refused-23, all-cleared}
use Rattle.judge_stages.specs.Steps.Listed.{list_read}
use Rattle.judge_stages.proofs.clear.Goals as goal

-- THE NET POSITIONS of the hour: their sum, and the two tests that the machine computes
module _ {s t : List ℕ} {counts : Counts} {opening : ProposalOpening} (h : HourReadFrom s t counts opening) {nets : List Tenths} (n : TenthsHold (net (case_of s) (plan_of s t)) nets) where
  sums-fit : VolumesInRange (case_of s) (plan_of s t) → SumsFit (λ z. tenths_at nets z) counts.zones
  sums-fit v =
      fit-ext _ _ _ (λ z l. n.each z (omega (arith, few-zones h)))
      (subst (λ (k : ℕ). SumsFit (λ z. net (case_of s) (plan_of s t) z) k) (sym (zones-is h)) (balance-sums _ (sound h) _ v.within))

  balance-is : balance_answer (not (is_zero (sum_to counts.zones (λ z. tenths_at nets z)))) (eqb counts.links 0 && lt_z (pos 0) opening.share.0)
      ≡ balance_answer (not (is_zero (net_sum (case_of s) (plan_of s t)))) (no_link (case_of s) && (plan_of s t).share over 0)
  unfolding net_sum no_link
  balance-is =
      let sum = sum-ext _ _ _ (λ z l. n.each z (omega (arith, few-zones h))) ∙ ap (λ (k : ℕ). sum_to k (λ z. net (case_of s) (plan_of s t) z)) (zones-is h) in
      λ j. balance_answer (not (is_zero (sum j))) (eqb (links-is h j) 0 && lt_z (pos 0) (share-is h j))

-- 21
pub refused_at-requires : goal.refused_at-requires
refused_at-requires c = place-below _ _ _ 4294967296 c.in-Err.ensures.excess (omega (arith, (sound c.args.reading.hour.read).orders-in))

pub returns-in-Err-clause-refused : goal.returns-in-Err-clause-refused
returns-in-Err-clause-refused c =
    let h = case_of c.args.reading.hour.case.bytes.now in
    let p = plan_of c.args.reading.hour.case.bytes.now c.args.reading.hour.proposal.now in
    rw c.refused_at.ensures (refused-21 (list_read c.args.reading.families) h p c.in-Err.ensures.excess)

-- 28
pub invariant_of-filled : goal.invariant_of-filled
invariant_of-filled c = record { within = volumes-in c.in-Ok.ensures.within }

pub returns-in_err-hold_families-clause-refused : goal.returns-in_err-hold_families-clause-refused
returns-in_err-hold_families-clause-refused c =
    let h = case_of c.args.reading.hour.case.bytes.now in
    let p = plan_of c.args.reading.hour.case.bytes.now c.args.reading.hour.proposal.now in
    let q = err_from_is_err_and c.from_residual.result c.from_residual.ensures.1 in
    rw (q.1, q.2) (refused-28 (list_read c.args.reading.families) h p c.in-Ok.ensures.within c.in_err-hold_families.ensures.refused)

-- 22 AND 27
pub hold_balance-requires-clause-zones_bound : goal.hold_balance-requires-clause-zones_bound
hold_balance-requires-clause-zones_bound c = few-zones c.args.reading.hour.read

pub hold_balance-requires-clause-sums_fit : goal.hold_balance-requires-clause-sums_fit
hold_balance-requires-clause-sums_fit c = sums-fit c.args.reading.hour.read c.in-Ok.ensures.nets (volumes-in c.in-Ok.ensures.within)

pub returns-in_err-hold_balance-clause-refused : goal.returns-in_err-hold_balance-clause-refused
returns-in_err-hold_balance-clause-refused c =
    let h = case_of c.args.reading.hour.case.bytes.now in
    let p = plan_of c.args.reading.hour.case.bytes.now c.args.reading.hour.proposal.now in
    let q = err_from_is_err_and c.from_residual-in_err-hold_balance.result c.from_residual-in_err-hold_balance.ensures.1 in
    let answer = sym (balance-is c.args.reading.hour.read c.in-Ok.ensures.nets) ∙ sym c.hold_balance.ensures ∙ c.in_err-hold_balance.was in
    rw (q.1, q.2) (refused-balance (list_read c.args.reading.families) h p c.in-Ok.ensures.within c.in_ok-hold_families.ensures.passed (balance-refuses h p answer))

-- 23
pub refused_at-requires-in-Err-link_sums : goal.refused_at-requires-in-Err-link_sums
refused_at-requires-in-Err-link_sums c = place-below _ _ _ 4294967296 c.in-Err-link_sums.ensures.overused (omega (arith, (sound c.args.reading.hour.read).links-in))

pub returns-in-Err-link_sums-clause-refused : goal.returns-in-Err-link_sums-clause-refused
returns-in-Err-link_sums-clause-refused c =
    let h = case_of c.args.reading.hour.case.bytes.now in
    let p = plan_of c.args.reading.hour.case.bytes.now c.args.reading.hour.proposal.now in
    let balance = balance-passes h p (sym (balance-is c.args.reading.hour.read c.in-Ok.ensures.nets) ∙ sym c.hold_balance.ensures ∙ c.in_ok-hold_balance.was) in
    rw c.refused_at-in-Err-link_sums.ensures
    (refused-23 (list_read c.args.reading.families) h p c.in-Ok.ensures.within c.in_ok-hold_families.ensures.passed balance c.in-Err-link_sums.ensures.overused)

-- ALL PASS
pub returns-clause-passed : goal.returns-clause-passed
returns-clause-passed c =
    let h = case_of c.args.reading.hour.case.bytes.now in
    let p = plan_of c.args.reading.hour.case.bytes.now c.args.reading.hour.proposal.now in
    let balance = balance-passes h p (sym (balance-is c.args.reading.hour.read c.in-Ok.ensures.nets) ∙ sym c.hold_balance.ensures ∙ c.in_ok-hold_balance.was) in
    all-cleared (list_read c.args.reading.families) h p c.in-Ok.ensures.within c.in_ok-hold_families.ensures.passed balance c.in-Ok-link_sums.ensures.within

pub returns-clause-cleared : goal.returns-clause-cleared
returns-clause-cleared c =
    let h = c.args.reading.hour.read in
    record {
      volumes-in = volumes-in c.in-Ok.ensures.within;
      flows-in = flows-in (sound h) (share-in h) c.in-Ok-link_sums.ensures.within;
      nets-are = c.in-Ok.ensures.nets;
      parts_are = c.in-Ok-link_sums.ensures.parts;
      welfare-is = c.in-Ok.ensures.welfare;
    }
