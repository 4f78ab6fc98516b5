-- From what was found in an hour, and from the answer for its lists, to the contract. Assumes nothing.
use Rattle.std.specs.Prelude.{◌≡◌, true, false, ℕ, zero, suc, ◌<◌, length, take, ℤ, ◌-ℤ◌}
use Rattle.std.proofs.Math.Path.{refl, sym, ap, subst}
use Rattle.std.proofs.Common.{◌∙◌, arith}
use mathlib.Core.List.{List}
use Rattle.std.proofs.Math.Option.{Option, none, some}
use Rattle.std.proofs.Math.IntN.{pos}
use Rattle.std.specs.Int.{w64}
use Rattle.base_integers.specs.Steps.Size.{near_fits}
use Rattle.base_integers.specs.Steps.Machine.{sfits-by}
use Rattle.base_causes.specs.declared.Outcome.{Outcome}
use Rattle.base_causes.specs.Meaning.Causes.{refusal, answer}
use Rattle.base_causes.proofs.Promised.CauseLaws.{field-passes}
use Rattle.rules.specs.Meaning.Layout.{report_room}
use Rattle.rules.specs.Meaning.Hour.{case_of, plan_of, prices_of, net, zone_price}
use Rattle.rules.specs.Meaning.Report.{reports}
use Rattle.rules.specs.Meaning.Verdict.{room_causes, table, outcome}
use Rattle.rules.proofs.Promised.Fits.{near-zone-price}
use Rattle.base_measures.specs.Meaning.TenthsHold.{tenths_at}
use Rattle.report_file.specs.Meaning.Prices.{grains_at}
use Rattle.flow_pairs.specs.Meaning.Pairs.{network_of}
use Rattle.flow_intuitive.specs.declared.Carried.{Carried}
use Rattle.flow_intuitive.specs.Meaning.Answers.{ListsPass, refused_as}
use Rattle.flow_intuitive.specs.Meaning.Intuitive.{scratch_by, intuitive_refusal, intuitive_outcome, intuitive_scratch, EntryAnswer}
use Rattle.judge_stages.specs.declared.ValuedHour.{ValuedHour}
use Rattle.judge_stages.specs.Meaning.Found.{Refused, Valued, hour_causes}
use Rattle.flow_hour.specs.Meaning.Hour.{list_to, hour_exports, hour_prices, hour_network, hour_outcome, hour_scratch, HourAnswer}
use Rattle.flow_hour.proofs.Promised.Asked.{refused-first, asked-then, none-refused, position-near, price-in, lists-pass}
use Rattle.flow_hour.specs.Steps.Lent.{FitsTo, Lists}
use Rattle.flow_hour.proofs.Steps.Lent.{part-is, same-list}

clash : {A : Type 0} → true ≡ false → A
clash e = let z : ◌≡◌ {A = ℕ} 0 1 = cc in absurd (omega arith)

module _ (s t pairs : List ℕ) (n : ℕ) (scratch : List ℤ) where
  -- with enough room 30 passes
  past_room : refusal (table none s t report_room (case_of s) (plan_of s t) (prices_of s t)) ≡ refusal (hour_causes none s t)
  unfolding table room_causes
  past_room = field-passes 30 0 (hour_causes none s t) refl

  -- NOT ACCEPTED
  pub hour-refused : (o : Outcome) → o ≡ answer (refusal (hour_causes none s t)) → 0 < o.number → HourAnswer s t pairs n scratch (refused_as o) scratch
  unfolding hour_outcome hour_scratch
  hour-refused o e l = by (refusal (hour_causes none s t)) refl
    where
      apart : {X : Type 0} → o.number ≡ 0 → X
      apart q = absurd (omega (arith, l))

      by : (x : Option Outcome) → refusal (hour_causes none s t) ≡ x → HourAnswer s t pairs n scratch (refused_as o) scratch
      by (some x) q =
          let asked = refused-first s t pairs n (length scratch) x (past_room ∙ q) in
          record {
            outcome = e ∙ ap answer (q ∙ sym asked);
            a-yes = λ z. apart z;
            a-no = λ z. apart z;
            yes_or_no = omega arith;
            largest = λ z. apart z;
            scratch = sym (ap (λ (y : Option Outcome). scratch_by y n scratch) asked);
            refused = λ p. (refl, refl);
          }
      by none q = apart (ap (λ (y : Outcome). y.number) (e ∙ ap answer q))

  -- a refusal is not 0, which is a valued hour's
  pub refused-number : {o : Outcome} → Refused (hour_causes none s t) o → 0 < o.number
  unfolding reports
  refused-number {o} h = positive o.number refl
    where
      positive : (k : ℕ) → k ≡ o.number → 0 < o.number
      positive zero e = absurd (clash (ap reports e ∙ h.not-valued))
      positive (suc k) e = omega arith

  module _ (f : ValuedHour) (h : Valued (hour_causes none s t) s t f) where
    -- ACCEPTED
    module _ (e : f.verdict.number ≡ 0) where
      accepted : (outcome s t report_room).number ≡ 0
      unfolding outcome
      accepted = ap (λ (o : Option Outcome). (answer o).number) past_room ∙ ap (λ (o : Outcome). o.number) (sym h.verdict-is) ∙ e

      net-is : (z : ℕ) → z < f.hour.case.counts.zones → pos 0 -ℤ tenths_at f.cleared.nets z ≡ pos 0 -ℤ net (case_of s) (plan_of s t) z
      net-is z l = ap (λ (x : ℤ). pos 0 -ℤ x) (h.cleared-is.nets-are.each z (omega (arith, h.few-zones)))

      price-is : (z : ℕ) → z < f.hour.case.counts.zones → grains_at f.prices z ≡ zone_price (case_of s) (prices_of s t) z
      price-is z l = h.prices-are.each z (omega (arith, h.zones-are))

      pub exports-fit : FitsTo (λ z. pos 0 -ℤ tenths_at f.cleared.nets z) f.hour.case.counts.zones
      exports-fit = record { fits = λ z l. sfits-by w64 (net-is z l) (near_fits w64 (omega arith) (position-near s t pairs n (length scratch) accepted z)) }

      pub prices-fit : FitsTo (λ z. grains_at f.prices z) f.hour.case.counts.zones
      prices-fit = record { fits = λ z l. sfits-by w64 (price-is z l) (near_fits w64 (omega arith) (near-zone-price _ (price-in s t pairs n (length scratch) accepted z (omega (arith, h.zones-are))))) }

      -- the lent lists are the hour's
      pub exports-are : (xs : List ℤ) → Lists (λ z. pos 0 -ℤ tenths_at f.cleared.nets z) f.hour.case.counts.zones xs → take f.hour.case.counts.zones xs ≡ hour_exports s t
      unfolding hour_exports
      exports-are xs l = part-is _ f.hour.case.counts.zones xs h.few-zones l ∙ same-list f.hour.case.counts.zones _ _ net-is ∙ ap (λ (k : ℕ). list_to k (λ z. pos 0 -ℤ net (case_of s) (plan_of s t) z)) h.zones-are

      pub prices-are : (xs : List ℤ) → Lists (λ z. grains_at f.prices z) f.hour.case.counts.zones xs → take f.hour.case.counts.zones xs ≡ hour_prices s t
      unfolding hour_prices
      prices-are xs l = part-is _ f.hour.case.counts.zones xs h.few-zones l ∙ same-list f.hour.case.counts.zones _ _ price-is ∙ ap (λ (k : ℕ). list_to k (λ z. zone_price (case_of s) (prices_of s t) z)) h.zones-are

      -- they pass 81 to 83
      pub pass : (exports prices : List ℤ) → exports ≡ hour_exports s t → prices ≡ hour_prices s t → ListsPass exports prices
      pass exports prices x y = subst (λ (p : List ℤ). ListsPass p prices) (sym x) (subst (λ (q : List ℤ). ListsPass (hour_exports s t) q) (sym y) (lists-pass s t pairs n (length scratch) accepted))

      -- so their answer is the hour's
      pub hour-answer : (exports prices : List ℤ) → exports ≡ hour_exports s t → prices ≡ hour_prices s t → {r : Carried} {b : List ℤ}
          → EntryAnswer (intuitive_outcome exports prices pairs n (length scratch)) (network_of exports prices pairs) (intuitive_scratch exports prices pairs n scratch) r b → HourAnswer s t pairs n scratch r b
      unfolding hour_outcome hour_scratch intuitive_outcome intuitive_refusal intuitive_scratch
      hour-answer exports prices x y {r} {b} k =
          let asked = sym (asked-then s t pairs n (length scratch) (none-refused s t pairs n (length scratch) accepted)) in
          subst (λ (o : Option Outcome). EntryAnswer (answer o) (hour_network s t pairs) (scratch_by o n scratch) r b) asked
          (subst (λ (q : List ℤ). EntryAnswer (answer (intuitive_refusal (hour_exports s t) q pairs n (length scratch))) (network_of (hour_exports s t) q pairs) (scratch_by (intuitive_refusal (hour_exports s t) q pairs n (length scratch)) n scratch) r b) y
          (subst (λ (p : List ℤ). EntryAnswer (answer (intuitive_refusal p prices pairs n (length scratch))) (network_of p prices pairs) (scratch_by (intuitive_refusal p prices pairs n (length scratch)) n scratch) r b) x k))
