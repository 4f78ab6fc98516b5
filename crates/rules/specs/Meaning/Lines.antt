-- What the desk program prints: the lines of an hour, and all of them for an input. Assumes nothing.
use Rattle.std.specs.Prelude.{cond, List, [], ◌++◌, ℕ, zero, suc, ℤ}
use Rattle.text_rules.specs.Meaning.Ascii.{ascii}
use Rattle.text_rules.specs.Meaning.Text.{count_text, amount_text}
use Rattle.base_causes.specs.declared.Outcome.{Outcome}
use Rattle.rules.specs.Meaning.Layout.{report_room}
use Rattle.rules.specs.Meaning.Hour.{case_of, plan_of, prices_of, zone_price}
use Rattle.rules.specs.Meaning.Verdict.{outcome}
use Rattle.rules.specs.Meaning.Report.{Totals, totals_of, reports}
use Rattle.rules.specs.Meaning.Cut.{case_part, proposal_part}

-- first line: number, index
unfoldable pub verdict_line : Outcome → List ℕ
verdict_line o = ascii "verdict " ++ count_text o.number ++ ascii " " ++ count_text o.index ++ ascii "\n"

-- money in euros with eight decimals
unfoldable pub total_line : List ℕ → ℤ → List ℕ
total_line name x = name ++ amount_text 8 x ++ ascii "\n"

unfoldable pub total_lines : Totals → List ℕ
total_lines x =
    total_line (ascii "welfare ") x.welfare
    ++ total_line (ascii "bound ") x.bound
    ++ total_line (ascii "gap ") x.gap
    ++ total_line (ascii "rent ") x.rent
    ++ total_line (ascii "owed ") x.owed

-- price lines give zone, then euros per MWh with seven
unfoldable pub price_line : ℕ → ℤ → List ℕ
price_line z x = ascii "price " ++ count_text z ++ ascii " " ++ amount_text 7 x ++ ascii "\n"

unfoldable pub price_lines : ℕ → (ℕ → ℤ) → List ℕ
price_lines zero price = []
price_lines (suc z) price = price_lines z price ++ price_line z (price z)

unfoldable pub hour_lines : ℕ → Totals → (ℕ → ℤ) → List ℕ
hour_lines zones totals price = total_lines totals ++ price_lines zones price

-- for numbers other than 0 and 26 only the first line is printed
unfoldable pub lines_of : Outcome → ℕ → Totals → (ℕ → ℤ) → List ℕ
lines_of o zones totals price = verdict_line o ++ cond (reports o.number) (hour_lines zones totals price) []

-- the lines for a case and a proposal
unfoldable pub hour_text : List ℕ → List ℕ → List ℕ
hour_text s t = lines_of (outcome s t report_room) (case_of s).zones (totals_of (case_of s) (plan_of s t) (prices_of s t)) (zone_price (case_of s) (prices_of s t))

-- ALL THAT THE DESK PRINTS
unfoldable pub desk_text : List ℕ → List ℕ
desk_text input = hour_text (case_part input) (proposal_part input)
