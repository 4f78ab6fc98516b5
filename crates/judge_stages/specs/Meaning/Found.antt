-- What the driver finds in an hour: a refusal or, for a valued hour, the verdict and all that the entries use.
use Rattle.std.specs.Prelude.{◌≡◌, true, false, List, ◌++◌, ℕ, ◌≤◌, Result, Ok, Err}
use Rattle.std.proofs.Common.{Bor}
use Rattle.std.specs.declared.option.Option as code
use Rattle.std.specs.declared.option.Option.TheVariants.{None, Some}
use Rattle.std.proofs.Math.Option.{Option, none, some}
use Rattle.rules.specs.Meaning.Hour.{Case, Plan, case_of, plan_of, prices_of, net, fb_part, welfare}
use Rattle.rules.specs.Meaning.Report.{totals_of, reports}
use Rattle.rules.specs.Meaning.Verdict.{case_causes, proposal_causes, judgement_causes}
use Rattle.base_causes.specs.declared.Outcome.{Outcome}
use Rattle.base_causes.specs.Meaning.Causes.{Cause, refusal, answer}
use Rattle.case_file.specs.declared.Files.{Files}
use Rattle.case_file.specs.Meaning.Files.{case_in, proposal_in}
use Rattle.base_measures.specs.Meaning.TenthsHold.{TenthsHold}
use Rattle.proposal_file.specs.Meaning.Read.{HourReadFrom}
use Rattle.proposal_file.specs.Meaning.InRange.{VolumesInRange, FlowsInRange}
use Rattle.report_file.specs.Meaning.Prices.{PricesHold}
use Rattle.report_file.specs.Meaning.Written.{totals_in}
use Rattle.judge_stages.specs.declared.Cleared.{Cleared}
use Rattle.judge_stages.specs.declared.ValuedHour.{ValuedHour}

-- the family list (S-11), if there is one
abbrev pub list_of : code.Option (Bor (List ℕ)) → Option (List ℕ)
list_of (Some f) = some f.now
list_of None = none

-- rows 1 to 26 of the table for a case s and a proposal t, with a family list or without
abbrev pub hour_causes : Option (List ℕ) → List ℕ → List ℕ → List Cause
hour_causes fs s t = case_causes s (case_of s) ++ (proposal_causes s t (case_of s) (plan_of s t) (prices_of s t) ++ judgement_causes fs (case_of s) (plan_of s t) (prices_of s t))

-- CLEARED: what holds where rows 21, 28, 22, 27 and 23 pass
pub record HourCleared (c : Case) (p : Plan) (r : Cleared) : Type 0 where
  pub volumes-in : VolumesInRange c p
  pub flows-in : FlowsInRange c p
  pub nets-are : TenthsHold (net c p) r.nets
  pub parts_are : TenthsHold (fb_part c p) r.parts
  pub welfare-is : r.welfare.0 ≡ welfare c p

-- REFUSED: the verdict of an hour that is not valued
pub record Refused (rows : List Cause) (o : Outcome) : Type 0 where
  pub verdict-is : o ≡ answer (refusal rows)
  pub not-valued : reports o.number ≡ false

-- VALUED: the verdict, and what holds of the hour
pub record Valued (rows : List Cause) (s t : List ℕ) (r : ValuedHour) : Type 0 where
  pub verdict-is : r.verdict ≡ answer (refusal rows)
  pub valued-is : reports r.verdict.number ≡ true
  pub few-zones : r.hour.case.counts.zones ≤ 16
  pub zones-are : r.hour.case.counts.zones ≡ (case_of s).zones
  pub case-is : r.hour.case.bytes.now ≡ s
  pub proposal-is : r.hour.proposal.now ≡ t
  pub hour-is : HourReadFrom s t r.hour.case.counts r.hour.opening
  pub cleared-is : HourCleared (case_of s) (plan_of s t) r.cleared
  pub prices-are : PricesHold (case_of s) (prices_of s t) r.prices
  pub totals-are : totals_in r.totals ≡ totals_of (case_of s) (plan_of s t) (prices_of s t)

-- FOUND by a list of rows
abbrev pub Finds : List Cause → List ℕ → List ℕ → Result ValuedHour Outcome → Type 0
Finds rows s t (Ok r) = Valued rows s t r
Finds rows s t (Err o) = Refused rows o

-- what is lent: the case and the proposal as two files, or the desk's input lent as both
abbrev pub FindsIn : Files → Option (List ℕ) → List ℕ → List ℕ → Result ValuedHour Outcome → Type 0
FindsIn files fs s t r = Finds (hour_causes fs (case_in files s) (proposal_in files t)) (case_in files s) (proposal_in files t) r
