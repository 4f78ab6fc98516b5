-- THE SHORTFALLS of an accepted hour: of order i, branch m and link l.
use Rattle.std.specs.Prelude.{ℕ, ℤ}
use Rattle.rules.specs.Meaning.Hour.{Case, Plan, Prices, case_of, plan_of, prices_of}
use Rattle.case_header.specs.declared.Counts.{Counts}
use Rattle.short_rules.specs.Meaning.Shortfalls.{order_shortfall, branch_shortfall, link_shortfall}
use Rattle.short_single.specs.declared.hour.AcceptedHour.{AcceptedHour}

abbrev pub counts_of : AcceptedHour → Counts
counts_of h = h.hour.«case».counts

-- what its case and its proposal hold
abbrev pub hour_of : AcceptedHour → Case
hour_of h = case_of h.hour.«case».bytes.now

abbrev pub cleared_of : AcceptedHour → Plan
cleared_of h = plan_of h.hour.«case».bytes.now h.hour.proposal.now

abbrev pub rates_of : AcceptedHour → Prices
rates_of h = prices_of h.hour.«case».bytes.now h.hour.proposal.now

abbrev pub order_of : AcceptedHour → ℕ → ℤ
order_of h = order_shortfall (hour_of h) (cleared_of h) (rates_of h)

abbrev pub branch_of : AcceptedHour → ℕ → ℤ
branch_of h = branch_shortfall (hour_of h) (cleared_of h) (rates_of h)

abbrev pub link_of : AcceptedHour → ℕ → ℤ
link_of h = link_shortfall (hour_of h) (cleared_of h) (rates_of h)
