-- `short_hour::shortfalls` meets its contract: the judgement's refusal, 86, or the accepted hour's numbers.
-- Assumes nothing.
use Rattle.std.proofs.Common.{◌≡◌, List, ℕ, ℤ, ◌*◌, ◌≤◌, ◌<◌, length, ap, sym, subst, ◌∙◌, arith, rules}
use Rattle.std.specs.Prelude.{Err}
use Rattle.std.proofs.lemmas.List.Edits.{sets}
use Rattle.base_output.specs.Meaning.Output.{written_of}
use Rattle.rules.specs.Meaning.Hour.{case_of, plan_of, prices_of}
use Rattle.case_header.specs.Meaning.CaseReadable.{CountsInRange}
use Rattle.short_rules.specs.Meaning.Answer.{shortfall_count}
use Rattle.short_rules.proofs.Promised.Answer.{numbers-long}
use Rattle.short_rules.proofs.Promised.Causes.{short-output, enough-room}
use Rattle.short_hour.specs.Meaning.HourShortfalls.{HourShortfalls}
use Rattle.short_hour.specs.Steps.Kept.{kept-refused, kept-answer, found-refused, not-zero, accepted, count-is, judged_of, prices_of_files, parts_of_files, numbers_of_files, judged, few}
use Rattle.short_hour.specs.Steps.Pairs.{count_of}
use Rattle.short_hour.proofs.shortfalls.Goals as goal
use Rattle.short_hour.proofs.shortfalls.Goals.{In_ok-found, After-refused}

-- REFUSED by the judgement
pub returns-in_err-found : goal.returns-in_err-found
returns-in_err-found c =
    let s = c.args.«case».now in
    let t = c.args.proposal.now in
    let out = c.args.out.now in
    let o = c.in_err-found.field-0.0 in
    let h = not-zero s t out c.in_err-found.ensures in
    let same : c.from_residual.result ≡ Err o = search rules in
    kept-refused s t out o.number o.index h (found-refused s t out o c.in_err-found.ensures.verdict-is h) (ap written_of same)

-- NOT ACCEPTED. Its goal is written out, since its name holds the number that is asked.
pub returns-then-found-ne0 : (c : After-refused) → HourShortfalls c.args.«case».now c.args.proposal.now c.args.out.now (written_of c.refused.result) c.args.out.now
returns-then-found-ne0 c =
    let s = c.args.«case».now in
    let t = c.args.proposal.now in
    let out = c.args.out.now in
    let o = c.in_ok-found.found.verdict in
    let h : 0 < o.number = omega arith in
    kept-refused s t out o.number o.index h (found-refused s t out o c.in_ok-found.ensures.verdict-is h) (ap written_of c.refused.ensures)

-- ACCEPTED
module _ (c : In_ok-found) (z : c.in_ok-found.found.verdict.number ≡ 0) where
  count : count_of c.in_ok-found.found.hour.«case».counts ≡ shortfall_count (case_of c.args.«case».now)
  count = count-is c.args.«case».now c.args.proposal.now c.args.out.now c.in_ok-found.found c.in_ok-found.ensures z

  in-range : CountsInRange c.in_ok-found.found.hour.«case».counts
  in-range = few (judged c.args.«case».now c.args.proposal.now c.args.out.now c.in_ok-found.found c.in_ok-found.ensures z)

pub overflow_add-length : goal.overflow_add-length
overflow_add-length c = omega (arith, in-range (goal.at.overflow_add-length c).In_ok-found (omega arith))

pub overflow_add-length-2 : goal.overflow_add-length-2
overflow_add-length-2 c = omega (arith, in-range (goal.at.overflow_add-length-2 c).In_ok-found (omega arith))

pub overflow_mul-length : goal.overflow_mul-length
overflow_mul-length c = omega (arith, in-range (goal.at.overflow_mul-length c).In_ok-found (omega arith))

-- 86
pub returns-then-out-length : goal.returns-then-out-length
returns-then-out-length c =
    let s = c.args.«case».now in
    let t = c.args.proposal.now in
    let out = c.args.out.now in
    let a = accepted s t out c.in_ok-found.found c.in_ok-found.ensures (omega arith) in
    kept-refused s t out 86 0 (omega arith) (short-output s t (length out) a.answer (subst (λ (n : ℕ). length out < 2 * n) (count (goal.at.returns-then-out-length c).In_ok-found (omega arith)) c.if-out-length.true)) (ap written_of c.refused-then-out-length.ensures)

-- THE NUMBERS
pub invariant_of-hour : goal.invariant_of-hour
invariant_of-hour c =
    let s = c.args.«case».now in
    let t = c.args.proposal.now in
    let out = c.args.out.now in
    let f = c.in_ok-found.found in
    let h = c.in_ok-found.ensures in
    record {
      accepted = judged_of s t out f h (omega arith);
      prices_hold = prices_of_files s t out f h (omega arith);
      parts_hold = parts_of_files s t out f h (omega arith);
    }

pub returns : goal.returns
returns c =
    let s = c.args.«case».now in
    let t = c.args.proposal.now in
    let out = c.args.out.now in
    let f = c.in_ok-found.found in
    let h = c.in_ok-found.ensures in
    let a = accepted s t out f h (omega arith) in
    let counted = count (goal.at.returns c).In_ok-found (omega arith) in
    let long = numbers-long (case_of s) (plan_of s t) (prices_of s t) in
    let room : 2 * shortfall_count (case_of s) ≤ length out = subst (λ (n : ℕ). 2 * n ≤ length out) counted c.if-out-length.false in
    kept-answer s t out a (enough-room s t (length out) a.answer room) (omega (arith, long, room)) (ap (λ (n : ℕ). 2 * n) counted ∙ sym long)
    (c.put_all.ensures ∙ ap (λ (l : List ℤ). sets out 0 l) (numbers_of_files s t out f h (omega arith)))
