-- One row of the table per stage, in the table's order, until one fails. Each stage takes its facts from the stage
-- before it, so a new row between two others concerns only the stage after it.
use Rattle.std.proofs.Common.{◌≡◌, List, ℕ, ◌<◌, not, cond, T, refl, ap, sym, subst, ◌∙◌, arith, ℤ, pos, ◌*ℤ◌}
use Rattle.std.specs.Int.Signed.{lt_z}
use Rattle.base_integers.specs.Meaning.Ranges.{outside}
use Rattle.base_integers.specs.Meaning.Sums.{sum_to}
use Rattle.base_integers.specs.Steps.Machine.{fit-ext}
use Rattle.base_integers.specs.Steps.Ranges.{within}
use Rattle.base_integers.specs.Steps.Sums.{sum-ext}
use Rattle.base_limits.specs.Meaning.Limits as limits
use Rattle.base_limits.specs.Meaning.Limits.{microcents_of}
use Rattle.base_measures.specs.declared.Tenths.{Tenths}
use Rattle.base_measures.specs.declared.Grains.{Grains}
use Rattle.base_measures.specs.Meaning.TenthsHold.{tenths_at, TenthsHold}
use Rattle.rules.specs.Meaning.Hour.{case_of, plan_of, prices_of, net, zone_price, gap, rent}
use Rattle.rules.specs.Meaning.Report as rules
use Rattle.rules.specs.Meaning.Report.{totals_of, reports}
use Rattle.rules.specs.Meaning.Verdict.{◌over_z◌, price_outside}
use Rattle.rules.proofs.Promised.Fits.{rent-sums, system-near}
use Rattle.base_causes.specs.Meaning.Causes.{verdict, failing, first_below, answer}
use Rattle.base_causes.proofs.Promised.CauseLaws.{clear, fails-at, not-below, first-ext, place-below}
use Rattle.case_header.specs.declared.Counts.{Counts}
use Rattle.proposal_file.specs.declared.ProposalOpening.{ProposalOpening}
use Rattle.proposal_file.specs.Meaning.Read.{HourReadFrom}
use Rattle.proposal_file.specs.Meaning.InRange.{VolumesInRange}
use Rattle.proposal_file.specs.Steps.Read.{case-opened, sound, zones-is, few-zones, shadow-in}
use Rattle.report_file.specs.Meaning.Prices.{grains_at, PricesHold}
use Rattle.judge_totals.specs.Meaning.Rent.{RentFits}
use Rattle.judge_stages.specs.Steps.Found.{finds-refused, gap-answers, gap-reports}
use Rattle.judge_stages.proofs.value.Goals as goal

module _ {s t : List ℕ} {counts : Counts} {opening : ProposalOpening} (h : HourReadFrom s t counts opening) where
  -- THE ZONES, with their net positions and prices
  module _ {nets : List Tenths} {prices : List Grains} (n : TenthsHold (net (case_of s) (plan_of s t)) nets) (p : PricesHold (case_of s) (prices_of s t) prices) where
    -- a zone's part of the rent
    rent-term : (z : ℕ) → z < (case_of s).zones → tenths_at nets z *ℤ grains_at prices z ≡ net (case_of s) (plan_of s t) z *ℤ zone_price (case_of s) (prices_of s t) z
    rent-term z l = λ j. n.each z (omega (arith, few-zones h, zones-is h)) j *ℤ p.each z l j

    rent-fits : VolumesInRange (case_of s) (plan_of s t) → RentFits nets prices counts.zones
    rent-fits v = record {
      sums = λ k l e. fit-ext _ _ k (λ z i. rent-term z (omega (arith, zones-is h)))
          (rent-sums _ (sound h) _ (system-near s t) (shadow-in h) _ v.within k (omega (arith, zones-is h))
          (λ z i. within limits.zone_price _ (subst (λ (x : ℤ). T (not (outside limits.zone_price x))) (p.each z (omega (arith, zones-is h))) (not-below _ _ e z i))));
    }

    rent-is : {x : ℤ} → x ≡ sum_to counts.zones (λ z. tenths_at nets z *ℤ grains_at prices z) → x ≡ rent (case_of s) (plan_of s t) (prices_of s t)
    unfolding rent
    rent-is e =
        e ∙ sum-ext _ _ _ (λ z l. rent-term z (omega (arith, zones-is h)))
        ∙ ap (λ (k : ℕ). sum_to k (λ z. net (case_of s) (plan_of s t) z *ℤ zone_price (case_of s) (prices_of s t) z)) (zones-is h)

    -- the search over the computed prices is the table's search over the zone prices
    searched : first_below counts.zones (λ z. outside limits.zone_price (grains_at prices z)) ≡ failing (price_outside (case_of s) (prices_of s t))
    searched =
        ap (λ (k : ℕ). first_below k (λ z. outside limits.zone_price (grains_at prices z))) (zones-is h)
        ∙ first-ext (case_of s).zones _ _ (λ z l. ap (outside limits.zone_price) (p.each z l))

  -- THE GAP: the row's test, and the number that it gives
  number_is : {x : rules.Totals} {n : ℕ} → x ≡ totals_of (case_of s) (plan_of s t) (prices_of s t) → n ≡ cond (lt_z counts.tolerance.0 x.gap) 26 0
      → n ≡ cond ((gap (case_of s) (plan_of s t) (prices_of s t)) over_z (microcents_of (pos (case_of s).tolerance))) 26 0
  unfolding totals_of case_of
  number_is e q = q ∙ (λ j. cond (lt_z (ap (λ (k : Counts). k.tolerance.0) (case-opened h).counts j) (ap (λ (x : rules.Totals). x.gap) e j)) 26 0)

-- 24, THE BRANCHES
pub refused_at-requires : goal.refused_at-requires
refused_at-requires c = place-below _ _ _ 4294967296 c.in-Err.ensures.overloaded (omega (arith, (sound c.args.hour.read).branches-in))

pub returns-in-Err : goal.returns-in-Err
unfolding reports
returns-in-Err c = finds-refused _ _ _ (verdict 24 _) c.refused_at.ensures refl (fails-at _ c.in-Err.ensures.overloaded).is

-- 25, THE ZONE PRICES
pub zone_sums-requires-clause-zones_bound : goal.zone_sums-requires-clause-zones_bound
zone_sums-requires-clause-zones_bound c = few-zones c.args.hour.read

pub zone_sums-requires-clause-rent_fits : goal.zone_sums-requires-clause-rent_fits
zone_sums-requires-clause-rent_fits c = rent-fits c.args.hour.read c.requires.nets-are c.in-Ok.ensures.prices c.requires.volumes-in

pub refused_at-requires-in-Err-zone_sums : goal.refused_at-requires-in-Err-zone_sums
refused_at-requires-in-Err-zone_sums c = place-below _ _ _ 4294967296 c.in-Err-zone_sums.ensures.outside (omega (arith, few-zones c.args.hour.read))

pub returns-in-Err-zone_sums : goal.returns-in-Err-zone_sums
unfolding reports
returns-in-Err-zone_sums c =
    finds-refused _ _ _ (verdict 25 _) c.refused_at-in-Err-zone_sums.ensures refl
    (clear c.in-Ok.ensures.within (fails-at _ (sym (searched c.args.hour.read c.requires.nets-are c.in-Ok.ensures.prices) ∙ c.in-Err-zone_sums.ensures.outside))).is

-- 26, THE GAP
pub invariant_of-priced : goal.invariant_of-priced
invariant_of-priced c =
    let none-outside = sym (searched c.args.hour.read c.requires.nets-are c.in-Ok.ensures.prices) ∙ c.in-Ok-zone_sums.ensures.within in
    record { hold = c.in-Ok.ensures.prices; in_range = record { within = λ z l. within limits.zone_price _ (not-below _ _ none-outside z l) } }

pub totals-totals-requires-clause-congestion_value : goal.totals-totals-requires-clause-congestion_value
totals-totals-requires-clause-congestion_value c = rent-is c.args.hour.read c.requires.nets-are c.in-Ok.ensures.prices c.in-Ok-zone_sums.ensures.rent

pub returns : goal.returns
returns c =
    let h = c.args.hour.read in
    let cs = case_of c.args.hour.case.bytes.now in
    let p = plan_of c.args.hour.case.bytes.now c.args.hour.proposal.now in
    let d = prices_of c.args.hour.case.bytes.now c.args.hour.proposal.now in
    let none-outside = sym (searched h c.requires.nets-are c.in-Ok.ensures.prices) ∙ c.in-Ok-zone_sums.ensures.within in
    let wide = (gap cs p d) over_z (microcents_of (pos cs.tolerance)) in
    let number = number_is h c.totals-totals.ensures c.gap_verdict-number.ensures in
    record {
      verdict-is = ap (λ (n : ℕ). verdict n 0) number ∙ gap-answers wide ∙ sym (ap answer (clear c.in-Ok.ensures.within (clear none-outside (record { is = refl }))).is);
      valued-is = ap reports number ∙ gap-reports wide;
      few-zones = few-zones h;
      zones-are = zones-is h;
      case-is = refl;
      proposal-is = refl;
      hour-is = h;
      cleared-is = c.requires;
      prices-are = c.in-Ok.ensures.prices;
      totals-are = c.totals-totals.ensures;
    }
