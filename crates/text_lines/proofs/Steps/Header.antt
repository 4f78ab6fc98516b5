-- The header's rows and the rows after them, and how long a case and a proposal can be under a good header.
-- Assumes nothing.
use Rattle.std.specs.Prelude.{◌≡◌, refl, List, ◌++◌, ℕ, ◌+◌, ◌*◌, ◌≤◌}
use Rattle.std.proofs.Common.{ap, ◌∙◌, arith}
use Rattle.std.proofs.Math.Option.{Option, none}
use Rattle.std.proofs.Math.Nat.{mul-le-mul}
use Rattle.rules.specs.Meaning.Layout.{branch_size, case_length, proposal_length, zones_in, branches_in, links_in, report_room}
use Rattle.rules.specs.Meaning.Hour.{case_of, plan_of, prices_of}
use Rattle.base_causes.specs.declared.Outcome.{Outcome}
use Rattle.base_causes.specs.Meaning.Causes.{Cause, refusal, answer}
use Rattle.base_causes.proofs.Promised.CauseLaws.{field-passes, else-refusal, refusal-append}
use Rattle.rules.specs.Meaning.Verdict.{room_causes, case_causes, proposal_causes, judgement_causes, table, outcome, header_refusal, case_header_causes, case_body_causes}
use Rattle.case_header.specs.Meaning.Answer.{counts_of}
use Rattle.case_header.specs.Meaning.CaseReadable.{CountsInRange}
use Rattle.case_header.specs.Steps.CaseReadable.{limited, links-bound}

-- the rows before 5, and those from 5 on
abbrev pub header_causes : List ℕ → List Cause
header_causes s = case_header_causes s (case_of s)

abbrev pub later_causes : List ℕ → List ℕ → List Cause
later_causes s t = case_body_causes s (case_of s) ++ (proposal_causes s t (case_of s) (plan_of s t) (prices_of s t) ++ judgement_causes none (case_of s) (plan_of s t) (prices_of s t))

-- with a report buffer of 176 bytes, an hour is refused by its header's rows, else by the later ones
pub outcome-by-header : (s t : List ℕ) → outcome s t report_room ≡ answer (else-refusal (header_refusal s) (refusal (later_causes s t)))
unfolding outcome table room_causes case_causes header_refusal
outcome-by-header s t = ap (λ (o : Option Outcome). answer o) (field-passes 30 0 (header_causes s ++ later_causes s t) refl ∙ refusal-append (header_causes s) (later_causes s t))

-- A GOOD HEADER
module _ (s : List ℕ) (good : header_refusal s ≡ none) where
  pub counted : CountsInRange (counts_of s)
  counted = limited (record { passed = good; counts = refl })

  -- the largest case and the largest proposal
  pub case-at-most : case_length s ≤ 10126
  unfolding case_length branch_size
  case-at-most =
      let c = counted in
      let size : 4 + 4 * zones_in s ≤ 68 = omega (arith, c.zones-in) in
      let branches : branches_in s * (4 + 4 * zones_in s) ≤ 64 * 68 = mul-le-mul c.branches-in size in
      omega (arith, branches, links-bound (counts_of s) c (links_in s) (omega arith), c.orders-in)

  pub proposal-at-most : proposal_length s ≤ 2573
  unfolding proposal_length
  proposal-at-most = let c = counted in omega (arith, c.branches-in, c.links-in, c.orders-in)
