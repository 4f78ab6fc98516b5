-- The lines of an hour from what the driver finds in it: the verdict, and for 0 and 26 its totals and prices.
-- Assumes nothing.
use Rattle.std.specs.Prelude.{◌≡◌, refl, Bool, true, false, ℕ, ℤ}
use Rattle.std.proofs.Math.Path.{sym, ap}
use Rattle.std.proofs.Common.{◌∙◌}
use Rattle.std.proofs.Math.Bool.{cond}
use mathlib.Core.List.{List, [], ◌++◌, append-nil}
use Rattle.std.proofs.Math.Option.{Option, none}
use Rattle.rules.specs.Meaning.Layout.{report_room}
use Rattle.rules.specs.Meaning.Hour.{case_of, plan_of, prices_of, zone_price}
use Rattle.base_causes.specs.declared.Outcome.{Outcome}
use Rattle.base_causes.specs.Meaning.Causes.{refusal, answer}
use Rattle.base_causes.proofs.Promised.CauseLaws.{field-passes}
use Rattle.rules.specs.Meaning.Verdict.{room_causes, table, outcome}
use Rattle.rules.specs.Meaning.Report.{Totals, totals_of, reports}
use Rattle.rules.specs.Meaning.Lines.{verdict_line, price_lines, total_lines, hour_lines, lines_of, hour_text}
use Rattle.report_file.specs.Meaning.Written.{totals_in}
use Rattle.report_file.specs.Meaning.Prices.{grains_at}
use Rattle.judge_stages.specs.declared.ValuedHour.{ValuedHour}
use Rattle.judge_stages.specs.Meaning.Found.{Refused, Valued, hour_causes}
use Rattle.text_hour.specs.Steps.Texts.{prices-same}

module _ (s t : List ℕ) where
  abbrev zones : ℕ
  zones = (case_of s).zones

  abbrev totals : Totals
  totals = totals_of (case_of s) (plan_of s t) (prices_of s t)

  abbrev price : ℕ → ℤ
  price = zone_price (case_of s) (prices_of s t)

  -- for numbers other than 0 and 26
  pub one_line : reports (outcome s t report_room).number ≡ false → hour_text s t ≡ verdict_line (outcome s t report_room)
  unfolding hour_text lines_of
  one_line e = ap (λ (b : Bool). verdict_line (outcome s t report_room) ++ cond b (hour_lines zones totals price) []) e ∙ append-nil (verdict_line (outcome s t report_room))

  -- for 0 and 26
  all_lines : reports (outcome s t report_room).number ≡ true → hour_text s t ≡ verdict_line (outcome s t report_room) ++ hour_lines zones totals price
  unfolding hour_text lines_of
  all_lines e = ap (λ (b : Bool). verdict_line (outcome s t report_room) ++ cond b (hour_lines zones totals price) []) e

-- WHAT THE DRIVER FINDS, as the lines have it
module _ (s t : List ℕ) where
  pub verdict-found : {o : Outcome} → o ≡ answer (refusal (hour_causes none s t)) → o ≡ outcome s t report_room
  unfolding outcome table room_causes
  verdict-found e = e ∙ ap (λ (o : Option Outcome). answer o) (sym (field-passes 30 0 (hour_causes none s t) refl))

  reports-found : {o : Outcome} {b : Bool} → o ≡ answer (refusal (hour_causes none s t)) → reports o.number ≡ b → reports (outcome s t report_room).number ≡ b
  reports-found e r = ap (λ (o : Outcome). reports o.number) (sym (verdict-found e)) ∙ r

  pub line-found : {o : Outcome} → Refused (hour_causes none s t) o → verdict_line o ≡ hour_text s t
  line-found h = ap verdict_line (verdict-found h.verdict-is) ∙ sym (one_line s t (reports-found h.verdict-is h.not-valued))

  pub lines-found : {r : ValuedHour} → Valued (hour_causes none s t) s t r → verdict_line r.verdict ++ hour_lines r.hour.case.counts.zones (totals_in r.totals) (grains_at r.prices) ≡ hour_text s t
  unfolding hour_lines
  lines-found {r} h =
      (λ i. verdict_line (verdict-found h.verdict-is i) ++ (total_lines (h.totals-are i) ++ price_lines (h.zones-are i) (grains_at r.prices)))
      ∙ ap (λ (l : List ℕ). verdict_line (outcome s t report_room) ++ (total_lines (totals s t) ++ l)) (prices-same (zones s t) (grains_at r.prices) (price s t) h.prices-are.each)
      ∙ sym (all_lines s t (reports-found h.verdict-is h.valued-is))
