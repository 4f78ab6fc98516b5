-- What the judgement answers by a list of rows, and what it concludes from what the driver finds. Assumes nothing.
use Rattle.std.specs.Prelude.{◌≡◌, refl, Bool, true, false, cond, ◌||◌, List, ◌++◌, ℕ, zero, suc, ◌≤◌, ◌<◌, length, drop, T, eqb, ℤ, Result, Ok, Err}
use Rattle.std.proofs.Common.{sym, ap, subst, ◌∙◌, arith, eqb→eq}
use Rattle.std.proofs.Math.Option.{Option, none, some}
use Rattle.base_integers.specs.Meaning.Bytes.{signed64}
use Rattle.rules.specs.Meaning.Layout.{zone_price_at}
use Rattle.rules.specs.Meaning.Hour.{Case, Plan, Prices, case_of, plan_of, prices_of, zone_price}
use Rattle.base_causes.specs.declared.Outcome.{Outcome}
use Rattle.base_causes.specs.Meaning.Causes.{Cause, verdict, refusal, answer}
use Rattle.rules.specs.Meaning.Report.{Totals, header_bytes, total_bytes, price_bytes, report_text, totals_of, reports, report_bytes, report_size, written, buffer_after, family_buffer_after}
use Rattle.rules.specs.Meaning.Verdict.{table, outcome, family_outcome}
use Rattle.report_file.specs.Meaning.Written.{totals_in}
use Rattle.report_file.specs.Meaning.Prices.{grains_at}
use Rattle.judge_stages.specs.declared.ValuedHour.{ValuedHour}
use Rattle.judge_stages.specs.Meaning.Found.{Finds}
use Rattle.judge_hour.specs.Meaning.HourJudged.{HourJudged, FamilyHourJudged}

-- for the case s, the proposal t and the buffer b: the verdict r, and the buffer b' afterwards
pub record Judged (rows : List Cause) (s t b : List ℕ) (r : Outcome) (b' : List ℕ) : Type 0 where
  pub given : r ≡ answer (refusal rows)
  pub buffer : b' ≡ written (answer (refusal rows)) (case_of s) (plan_of s t) (prices_of s t) b

-- a row that refuses by a number without a report
pub refused : (rows : List Cause) (s t b : List ℕ) (n k : ℕ) → reports n ≡ false → refusal rows ≡ some (verdict n k) → Judged rows s t b (verdict n k) b
unfolding written
refused rows s t b n k w e = record {
  given = ap (λ (o : Option Outcome). answer o) (sym e);
  buffer = sym (ap (λ (o : Option Outcome). written (answer o) (case_of s) (plan_of s t) (prices_of s t) b) e
      ∙ ap (λ (x : Bool). cond x (report_bytes n (case_of s) (plan_of s t) (prices_of s t) ++ drop (report_size (case_of s)) b) b) w);
}

-- other rows with the same refusal
pub same_rows : {qs rs : List Cause} {s t b : List ℕ} {r : Outcome} {b' : List ℕ} → refusal qs ≡ refusal rs → Judged rs s t b r b' → Judged qs s t b r b'
same_rows {s = s} {t = t} {b = b} {r = r} {b' = b'} e j = record {
  given = j.given ∙ ap (λ (o : Option Outcome). answer o) (sym e);
  buffer = j.buffer ∙ ap (λ (o : Option Outcome). written (answer o) (case_of s) (plan_of s t) (prices_of s t) b) (sym e);
}

-- BY THE WHOLE TABLE, without a family list and with one (S-11)
abbrev table_for : Option (List ℕ) → List ℕ → List ℕ → List ℕ → List Cause
table_for fs s t b = table fs s t (length b) (case_of s) (plan_of s t) (prices_of s t)

pub hour-judged : {s t b : List ℕ} {r : Outcome} {b' : List ℕ} → Judged (table_for none s t b) s t b r b' → HourJudged s t b r b'
unfolding outcome buffer_after
hour-judged j = record { verdict-is = j.given; buffer-is = j.buffer }

pub family-hour-judged : {s t f b : List ℕ} {r : Outcome} {b' : List ℕ} → Judged (table_for (some f) s t b) s t b r b' → FamilyHourJudged s t f b r b'
unfolding family_outcome family_buffer_after
family-hour-judged j = record { verdict-is = j.given; buffer-is = j.buffer }

-- equal values give the same report
price-ext : (n : ℕ) (f g : ℕ → ℤ) → ((z : ℕ) → z < n → f z ≡ g z) → price_bytes n f ≡ price_bytes n g
unfolding price_bytes
price-ext zero f g h = refl
price-ext (suc n) f g h = λ j. price-ext n f g (λ z l. h z (omega arith)) j ++ signed64 (h n (omega arith) j)

pub same-report : (number zones : ℕ) (x : Totals) (price : ℕ → ℤ) (c : Case) (p : Plan) (d : Prices) (b : List ℕ) → zones ≡ c.zones → x ≡ totals_of c p d → ((z : ℕ) → z < c.zones → price z ≡ zone_price c d z)
    → report_text number zones x price ++ drop (zone_price_at zones) b ≡ report_bytes number c p d ++ drop (report_size c) b
unfolding report_bytes report_text report_size
same-report number zones x price c p d b e t h =
    ap (λ (n : ℕ). header_bytes number n ++ total_bytes x ++ price_bytes n price ++ drop (zone_price_at n) b) e
    ∙ (λ j. header_bytes number c.zones ++ total_bytes (t j) ++ price-ext c.zones price (zone_price c d) h j ++ drop (zone_price_at c.zones) b)

-- THE VERDICT and THE BUFFER after what was found
abbrev pub verdict_of : Result ValuedHour Outcome → Outcome
verdict_of (Ok v) = v.verdict
verdict_of (Err o) = o

abbrev pub report_of : ValuedHour → List ℕ → List ℕ
report_of v b = report_text v.verdict.number v.hour.case.counts.zones (totals_in v.totals) (grains_at v.prices) ++ drop (zone_price_at v.hour.case.counts.zones) b

abbrev pub concluded : Result ValuedHour Outcome → List ℕ → List ℕ
concluded (Ok v) b = report_of v b
concluded (Err o) b = b

-- what writing it needs
pub record ReportableHour (v : ValuedHour) : Type 0 where
  pub valued-is : reports v.verdict.number ≡ true
  pub few-zones : v.hour.case.counts.zones ≤ 16

abbrev pub Reportable : Result ValuedHour Outcome → Type 0
Reportable (Ok v) = ReportableHour v
Reportable (Err o) = Unit {0}

or-either : (a b : Bool) {X : Type 0} → (T a → X) → (T b → X) → T (a || b) → X
or-either true b f g t = f tt
or-either false b f g t = g t

pub number_small : (v : ValuedHour) → ReportableHour v → v.verdict.number < 256
unfolding reports
number_small v h = or-either (eqb v.verdict.number 0) (eqb v.verdict.number 26) (λ t. below 0 (eqb→eq v.verdict.number 0 t) (omega arith)) (λ t. below 26 (eqb→eq v.verdict.number 26 t) (omega arith)) (subst T (sym h.valued-is) tt)
  where
    below : (n : ℕ) → v.verdict.number ≡ n → n < 256 → v.verdict.number < 256
    below n q l = omega arith

pub reportable : (rows : List Cause) (s t : List ℕ) (r : Result ValuedHour Outcome) → Finds rows s t r → Reportable r
reportable rows s t (Ok v) f = record { valued-is = f.valued-is; few-zones = f.few-zones }
reportable rows s t (Err o) f = tt

pub judged : (rows : List Cause) (s t b : List ℕ) (f : Result ValuedHour Outcome) {r : Outcome} {b' : List ℕ} → Finds rows s t f → r ≡ verdict_of f → b' ≡ concluded f b → Judged rows s t b r b'
unfolding written
judged rows s t b (Ok v) h e q = record {
  given = e ∙ h.verdict-is;
  buffer = q
      ∙ same-report v.verdict.number v.hour.case.counts.zones (totals_in v.totals) (grains_at v.prices) (case_of s) (plan_of s t) (prices_of s t) b h.zones-are h.totals-are h.prices-are.each
      ∙ ap (λ (x : Bool). cond x (report_bytes v.verdict.number (case_of s) (plan_of s t) (prices_of s t) ++ drop (report_size (case_of s)) b) b) (sym h.valued-is)
      ∙ ap (λ (o : Outcome). written o (case_of s) (plan_of s t) (prices_of s t) b) h.verdict-is;
}
judged rows s t b (Err o) h e q = record {
  given = e ∙ h.verdict-is;
  buffer = q
      ∙ ap (λ (x : Bool). cond x (report_bytes o.number (case_of s) (plan_of s t) (prices_of s t) ++ drop (report_size (case_of s)) b) b) (sym h.not-valued)
      ∙ ap (λ (o : Outcome). written o (case_of s) (plan_of s t) (prices_of s t) b) h.verdict-is;
}
