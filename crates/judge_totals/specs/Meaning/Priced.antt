-- What the files of a priced hour hold.
use Rattle.rules.specs.Meaning.Hour.{Case, Plan, Prices, case_of, plan_of, prices_of}
use Rattle.judge_totals.specs.declared.priced.PricedHour.{PricedHour}

abbrev pub case_in : PricedHour → Case
case_in h = case_of h.hour.case.bytes.now

abbrev pub plan_in : PricedHour → Plan
plan_in h = plan_of h.hour.case.bytes.now h.hour.proposal.now

abbrev pub prices_in : PricedHour → Prices
prices_in h = prices_of h.hour.case.bytes.now h.hour.proposal.now
