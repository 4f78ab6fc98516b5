-- An accepted hour, with what the shortfalls need.
use Rattle.std.specs.Prelude.{List, ℕ, pos, ◌≤ℤ◌}
use Rattle.rules.specs.Meaning.Hour.{case_of, plan_of, prices_of, gap}
use Rattle.rules.specs.Meaning.Clearing.{Clearing}
use Rattle.case_header.specs.declared.Counts.{Counts}
use Rattle.proposal_file.specs.declared.ProposalOpening.{ProposalOpening}
use Rattle.proposal_file.specs.Meaning.Read.{HourReadFrom}
use Rattle.report_file.specs.Meaning.Prices.{PricesInRange}
use Rattle.short_rules.specs.Meaning.Shortfalls.{Accounted}

-- what was read of the case s and the proposal t; the proposal is accepted
pub record HourAccepted (s t : List ℕ) (k : Counts) (opening : ProposalOpening) : Type 0 where
  pub read : HourReadFrom s t k opening
  pub clearing : Clearing (case_of s) (plan_of s t)
  pub prices-in : PricesInRange (case_of s) (prices_of s t)
  pub accounted : Accounted (case_of s) (plan_of s t) (prices_of s t) (gap (case_of s) (plan_of s t) (prices_of s t))
  pub gap-small : gap (case_of s) (plan_of s t) (prices_of s t) ≤ℤ pos 1000000000000000
