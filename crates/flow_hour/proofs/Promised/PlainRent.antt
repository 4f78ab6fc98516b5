-- THE REPORTED RENT OF AN HOUR THAT IS ANSWERED YES, in the bytes of its report, with any buffer of 176 bytes or
-- more. What `lta_judge` writes at 32 is the sum over the pairs of a flow times the difference of the reported
-- prices of its two zones. No flow goes to a lower price, so the rent is not negative. Net positions of the other
-- sign, or pairs counted from a higher price to a lower, would make it false. Assumes nothing.
use Rattle.std.specs.Prelude.{◌≡◌, refl, Bool, cond, List, ℕ, ◌+◌, ◌*◌, ◌/◌, ◌%◌, ◌^◌, ◌≤◌, ◌<◌, ltb, length, get_or, ℤ, pos, negsuc, ◌-ℤ◌, ◌*ℤ◌, ◌≤ℤ◌}
use Rattle.std.proofs.Math.Path.{sym}
use Rattle.std.proofs.Common.{ap, ◌∙◌, inl, arith, le-ltb, lt-ltb, SFits}
use Rattle.std.proofs.Math.Option.{none}
use Rattle.std.specs.Int.{w64}
use Rattle.base_integers.specs.Meaning.Bytes.{bytes_of, number_of}
use Rattle.base_integers.specs.Steps.Bytes.{byte_at, number-bytes}
use Rattle.base_integers.specs.Steps.Difference.{at, ◌⊖◌, eq-by}
use Rattle.base_integers.specs.Meaning.Sums.{sum_to}
use Rattle.base_integers.specs.Steps.Sums.{sum-ext}
use Rattle.base_integers.specs.Steps.NaturalSums as natural
use Rattle.base_integers.specs.Meaning.NaturalSums.{sum_nat}
use Rattle.base_causes.specs.declared.Outcome.{Outcome}
use Rattle.base_causes.specs.Meaning.Causes.{verdict, answer}
use Rattle.base_causes.proofs.Promised.CauseLaws.{field-passes}
use Rattle.rules.specs.Meaning.Layout.{zones_in, u8_at}
use Rattle.rules.specs.Meaning.Hour.{case_of, plan_of, prices_of, zone_price}
use Rattle.rules.specs.Meaning.Report.{buffer_after}
use Rattle.rules.specs.Meaning.Verdict.{room_causes, table, outcome}
use Rattle.rules.proofs.Promised.Fits.{Fit, fits}
use Rattle.rules.specs.Promised.PlainReport.{modulo64, Stands}
use Rattle.rules.proofs.Promised.PlainReport.{reports-of, report-written}
use Rattle.flow_pairs.specs.Meaning.Pairs.{pair_count}
use Rattle.flow_pairs.proofs.Promised.PlainPairs.{is-pair, pair-leads, GoodPair}
use Rattle.flow_network.specs.Meaning.Network.{FeasibleAll}
use Rattle.judge_stages.specs.Meaning.Found.{hour_causes}
use Rattle.flow_intuitive.specs.declared.Carried.{Carried}
use Rattle.flow_intuitive.specs.Meaning.Intuitive.{intuitive_refusal}
use Rattle.flow_intuitive.proofs.Promised.PlainAnswers.{count-is, counted}
use Rattle.flow_hour.specs.Meaning.Hour.{hour_exports, hour_prices, hour_network, hour_rent, hour_outcome, HourAnswer}
use Rattle.flow_hour.proofs.Promised.BothSizes.{answered}
use Rattle.flow_hour.proofs.Promised.PlainHour.{price-is, says-0, accepted}
use Rattle.flow_hour.proofs.Promised.Rent.{rent-of-flows, rent-nonneg}

-- EIGHT BYTES from place k on, the lowest first, and their integer in two's complement
abbrev pub word_at : List ℕ → ℕ → ℕ
word_at b k = sum_nat 8 (λ i. get_or b (k + i) 0 * 256 ^ i)

abbrev pub signed_at : List ℕ → ℕ → ℤ
signed_at b k = cond (ltb (word_at b k) 9223372036854775808) (pos (word_at b k)) (pos (word_at b k) -ℤ pos 18446744073709551616)

-- a value there is that integer
digits : (m : ℕ) → m < 18446744073709551616 → sum_nat 8 (λ i. m / 256 ^ i % 256 * 256 ^ i) ≡ m
unfolding bytes_of number_of sum_nat
digits m h = natural.sum-ext 8 (λ i. m / 256 ^ i % 256 * 256 ^ i) (λ i. get_or (bytes_of 8 m) i 0 * 256 ^ i) (λ i l. ap (λ (x : ℕ). x * 256 ^ i) (sym (byte_at 8 m i l)))
    ∙ omega (arith, number-bytes 8 m (omega (arith, h)))

stands_word : (b : List ℕ) (k : ℕ) (v : ℤ) → Stands b k v → modulo64 v < 18446744073709551616 → word_at b k ≡ modulo64 v
stands_word b k v w h = natural.sum-ext 8 _ _ (λ i l. ap (λ (x : ℕ). x * 256 ^ i) (w i l)) ∙ digits (modulo64 v) h

stands-signed : (b : List ℕ) (k : ℕ) (v : ℤ) → SFits w64 v → Stands b k v → signed_at b k ≡ v
stands-signed b k (pos n) f w =
    let word : word_at b k ≡ n = stands_word b k (pos n) w (omega (arith, f.sfits)) ∙ omega (arith, f.sfits) in
    ap (λ (m : ℕ). cond (ltb m 9223372036854775808) (pos m) (pos m -ℤ pos 18446744073709551616)) word
    ∙ ap (λ (q : Bool). cond q (pos n) (pos n -ℤ pos 18446744073709551616)) (lt-ltb n 9223372036854775808 (omega (arith, f.sfits)))
stands-signed b k (negsuc n) f w =
    let m : ℕ = word_at b k in
    let word : m + n ≡ 18446744073709551615 = omega (arith, f.sfits, stands_word b k (negsuc n) w (omega (arith, f.sfits))) in
    ap (λ (q : Bool). cond q (pos m) (pos m -ℤ pos 18446744073709551616)) (le-ltb m 9223372036854775808 (omega (arith, word, f.sfits)))
    ∙ eq-by (at (pos m) ⊖ at (pos 18446744073709551616)) (at (negsuc n)) (omega (arith, word))

-- WHAT THE REPORT b SAYS for an hour that is answered yes: there are flows along the pairs that give the rent at 32
-- from the prices at 48 + 8 z, all 64-bit numbers
pub record RentOfFlows (pairs b : List ℕ) : Type 0 where
  pub flow : ℕ → ℕ
  pub rises : (k : ℕ) → 2 * k < length pairs → 0 < flow k → signed_at b (48 + 8 * get_or pairs (2 * k) 0) ≤ℤ signed_at b (48 + 8 * get_or pairs (2 * k + 1) 0)
  pub rent-is : signed_at b 32 ≡ sum_to (length pairs / 2) (λ k. pos (flow k) *ℤ (signed_at b (48 + 8 * get_or pairs (2 * k + 1) 0) -ℤ signed_at b (48 + 8 * get_or pairs (2 * k) 0)))
  pub rent-nonneg : pos 0 ≤ℤ signed_at b 32

-- except for 30, which asks for 176 bytes, the verdict is the same with every buffer
pub same-verdict : (s t : List ℕ) (room : ℕ) → 176 ≤ room → outcome s t room ≡ outcome s t 176
unfolding outcome table room_causes
same-verdict s t room h = ap answer (field-passes 30 0 (hour_causes none s t) (le-ltb room 176 h) ∙ sym (field-passes 30 0 (hour_causes none s t) refl))

module _ (s t buffer : List ℕ) (enough : 176 ≤ length buffer) (e : outcome s t 176 ≡ verdict 0 0) where
  zero : (outcome s t (length buffer)).number ≡ 0
  zero = ap (λ (o : Outcome). o.number) (same-verdict s t (length buffer) enough ∙ e)

  fit : Fit (case_of s) (plan_of s t) (prices_of s t)
  fit = fits s t (length buffer) (reports-of _ (inl zero))

  -- THE RENT AND THE PRICES of an accepted hour in its report
  pub rent-stands : signed_at (buffer_after s t buffer) 32 ≡ hour_rent s t
  rent-stands = stands-signed (buffer_after s t buffer) 32 (hour_rent s t) fit.rent-fits (report-written s t buffer (inl zero)).rent-at

  pub price-stands : (z : ℕ) → z < get_or s 5 0 → get_or (hour_prices s t) z (pos 0) ≡ signed_at (buffer_after s t buffer) (48 + 8 * z)
  unfolding case_of zones_in u8_at
  price-stands z h = price-is s t z h
      ∙ sym (stands-signed (buffer_after s t buffer) (48 + 8 * z) (zone_price (case_of s) (prices_of s t) z) (fit.zonePrice-fits z h) ((report-written s t buffer (inl zero)).price-at z h))

-- FOR EITHER ENTRY: an hour that it answers yes
module _ (s t pairs : List ℕ) (n : ℕ) (scratch : List ℤ) (r : Carried) (after : List ℤ) (met : HourAnswer s t pairs n scratch r after) (taken : r.number ≡ 0) (yes-said : r.intuitive ≡ 1) where
  number_is : (hour_outcome s t pairs n (length scratch)).number ≡ 0
  number_is = sym (ap (λ (o : Outcome). o.number) met.outcome) ∙ taken

  passed : intuitive_refusal (hour_exports s t) (hour_prices s t) pairs n (length scratch) ≡ none
  passed = answered s t pairs n (length scratch) number_is

  i : FeasibleAll (hour_network s t pairs)
  i = met.a-yes taken yes-said

  good : (k : ℕ) → k < pair_count pairs → GoodPair (get_or s 5 0) pairs k
  good k h = ((says-0 s t pairs n (length scratch) r.index).0 (sym met.outcome ∙ ap (λ (m : ℕ). verdict m r.index) taken)).1.0.1 k ((is-pair pairs k).0 h)

  pub reported-rent : (buffer : List ℕ) → 176 ≤ length buffer → RentOfFlows pairs (buffer_after s t buffer)
  reported-rent buffer enough = record {
    flow = i.flows.flow;
    rises = λ k h l. let p = (is-pair pairs k).1 h in
        rw (← price (get_or pairs (2 * k) 0) (good k p).first-known, ← price (get_or pairs (2 * k + 1) 0) (good k p).second-known)
        ((counted (hour_exports s t) (hour_prices s t) pairs n (length scratch) passed i.flows.flow).0 i.feasible.along k h l);
    rent-is = rent-there ∙ rent-of-flows s t pairs n (length scratch) number_is i
        ∙ sum-ext (pair_count pairs) _ _ (λ k h. let leads = pair-leads (hour_exports s t) (hour_prices s t) pairs k (good k h).two_bytes in λ j. pos (i.flows.flow k)
        *ℤ ((ap (λ (z : ℕ). get_or (hour_prices s t) z (pos 0)) leads.1 ∙ price (get_or pairs (2 * k + 1) 0) (good k h).second-known) j
        -ℤ (ap (λ (z : ℕ). get_or (hour_prices s t) z (pos 0)) leads.0 ∙ price (get_or pairs (2 * k) 0) (good k h).first-known) j))
        ∙ ap (λ (m : ℕ). sum_to m (λ k. pos (i.flows.flow k) *ℤ (signed_at b (48 + 8 * get_or pairs (2 * k + 1) 0) -ℤ signed_at b (48 + 8 * get_or pairs (2 * k) 0)))) (count-is (hour_exports s t) (hour_prices s t) pairs n (length scratch) passed);
    rent-nonneg = rw rent-there (rent-nonneg s t pairs n (length scratch) number_is i);
  }
    where
      b : List ℕ
      b = buffer_after s t buffer

      rent-there : signed_at b 32 ≡ hour_rent s t
      rent-there = rent-stands s t buffer enough (accepted s t pairs n scratch r after met taken)

      price : (z : ℕ) → z < get_or s 5 0 → get_or (hour_prices s t) z (pos 0) ≡ signed_at b (48 + 8 * z)
      price = price-stands s t buffer enough (accepted s t pairs n scratch r after met taken)
