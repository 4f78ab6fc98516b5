-- The report's bytes, and the report buffer after a judgement. Assumes nothing.
use Rattle.std.specs.Prelude.{◌≡◌, Bool, cond, ◌||◌, List, [], ◌∷◌, ◌++◌, ℕ, zero, suc, ◌+◌, ◌*◌, ◌<◌, length, get_or, take, drop, eqb, ℤ}
use Rattle.base_integers.specs.Meaning.Bytes.{bytes_of, signed64, i64_at}
use Rattle.rules.specs.Meaning.Layout.{report_version_at, report_number_at, report_zones_at, report_zero_at, welfare_at, bound_at, gap_at, rent_at, owed_at, zone_price_at}
use Rattle.rules.specs.Meaning.Hour.{Case, Plan, Prices, case_of, plan_of, prices_of, zone_price, welfare, owed, bound, gap, rent}
use Rattle.base_causes.specs.declared.Outcome.{Outcome}
use Rattle.rules.specs.Meaning.Verdict.{outcome, family_outcome}

-- the prices of the zones below n
unfoldable pub price_bytes : ℕ → (ℕ → ℤ) → List ℕ
price_bytes zero price = []
price_bytes (suc n) price = price_bytes n price ++ signed64 (price n)

-- mark LTR, version 1, number, zones, a zero byte
unfoldable pub header_bytes : ℕ → ℕ → List ℕ
header_bytes number zones = (76 ∷ 84 ∷ 82 ∷ []) ++ bytes_of 2 1 ++ (number ∷ zones ∷ 0 ∷ [])

-- the five totals
pub record Totals : Type 0 where
  pub welfare : ℤ
  pub bound : ℤ
  pub gap : ℤ
  pub rent : ℤ
  pub owed : ℤ

unfoldable pub total_bytes : Totals → List ℕ
total_bytes x = signed64 x.welfare ++ signed64 x.bound ++ signed64 x.gap ++ signed64 x.rent ++ signed64 x.owed

-- THE REPORT, from what stands in it
unfoldable pub report_text : ℕ → ℕ → Totals → (ℕ → ℤ) → List ℕ
report_text number zones totals price = header_bytes number zones ++ total_bytes totals ++ price_bytes zones price

unfoldable pub totals_of : Case → Plan → Prices → Totals
totals_of c p d = record { welfare = welfare c p; bound = bound c d; gap = gap c p d; rent = rent c p d; owed = owed c d }

unfoldable pub report_bytes : ℕ → Case → Plan → Prices → List ℕ
report_bytes number c p d = report_text number c.zones (totals_of c p d) (zone_price c d)

unfoldable pub report_size : Case → ℕ
report_size c = zone_price_at c.zones

-- what stands in a report, by its fields
abbrev pub reported_welfare : List ℕ → ℤ
reported_welfare b = i64_at b welfare_at

abbrev pub reported_bound : List ℕ → ℤ
reported_bound b = i64_at b bound_at

abbrev pub reported_gap : List ℕ → ℤ
reported_gap b = i64_at b gap_at

abbrev pub reported_rent : List ℕ → ℤ
reported_rent b = i64_at b rent_at

abbrev pub reported_owed : List ℕ → ℤ
reported_owed b = i64_at b owed_at

abbrev pub reported_price : List ℕ → ℕ → ℤ
reported_price b z = i64_at b (zone_price_at z)

-- VERDICT 0 OR 26: each total and price in the report is the integer that its rule gives
pub record Reported (number : ℕ) (c : Case) (p : Plan) (d : Prices) (buffer : List ℕ) : Type 0 where
  pub mark-at : take 3 buffer ≡ 76 ∷ 84 ∷ 82 ∷ []
  pub version-at : get_or buffer report_version_at 0 + 256 * get_or buffer (report_version_at + 1) 0 ≡ 1
  pub number_at : get_or buffer report_number_at 0 ≡ number
  pub zones-at : get_or buffer report_zones_at 0 ≡ c.zones
  pub zero-at : get_or buffer report_zero_at 0 ≡ 0
  pub welfare-at : reported_welfare buffer ≡ welfare c p
  pub bound-at : reported_bound buffer ≡ bound c d
  pub gap-at : reported_gap buffer ≡ gap c p d
  pub rent-at : reported_rent buffer ≡ rent c p d
  pub owed-at : reported_owed buffer ≡ owed c d
  pub price-at : (z : ℕ) → z < c.zones → reported_price buffer z ≡ zone_price c d z

-- verdicts that write the report
unfoldable pub reports : ℕ → Bool
reports number = eqb number 0 || eqb number 26

-- the buffer after the judgement: the report, then the old bytes past it; or all old bytes
unfoldable pub written : Outcome → Case → Plan → Prices → List ℕ → List ℕ
written o c p d buffer = cond (reports o.number) (report_bytes o.number c p d ++ drop (report_size c) buffer) buffer

unfoldable pub buffer_after : List ℕ → List ℕ → List ℕ → List ℕ
buffer_after s t buffer = written (outcome s t (length buffer)) (case_of s) (plan_of s t) (prices_of s t) buffer

-- with the family list f (S-11)
unfoldable pub family_buffer_after : List ℕ → List ℕ → List ℕ → List ℕ → List ℕ
family_buffer_after s t f buffer = written (family_outcome s t f (length buffer)) (case_of s) (plan_of s t) (prices_of s t) buffer
