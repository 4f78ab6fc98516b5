-- The report buffer after a judgement: what the report holds, and what is unchanged. Assumes nothing.
use Rattle.std.specs.Prelude.{◌≡◌, refl, Bool, true, false, not, cond, take, ℤ}
use Rattle.std.proofs.Common.{sym, ◌∙◌, to_z, of_z}
use Rattle.std.proofs.Math.Path.{ap}
use mathlib.Core.List.{List, ◌++◌, append_assoc}
use Prim.Native.Nat.{ℕ, zero, suc, ◌+◌, ◌*◌, ◌<◌}
use native.Mathlib.Omega.{arith}
use Rattle.std.proofs.Math.Decide.{dec_lt}
use Rattle.std.proofs.Math.ListN.{length, drop, length-append, length-drop}
use Rattle.std.proofs.Math.Seq.{drop-append-add, drop-append_seam}
use Rattle.std.proofs.Math.Dec.{T, not_T}
use Rattle.std.specs.Int.{w64}
use Rattle.base_integers.specs.Meaning.Bytes.{bytes_of, signed64, number_of, i64_at}
use Rattle.base_integers.specs.Steps.Bytes.{bytes-length, number-signed64}
use Rattle.rules.specs.Meaning.Layout.{zone_price_at}
use Rattle.rules.specs.Meaning.Hour.{Case, Plan, Prices, case_of, plan_of, prices_of, zone_price, welfare, owed, bound, gap, rent}
use Rattle.rules.specs.Meaning.Verdict.{outcome}
use Rattle.rules.specs.Meaning.Report.{Reported, price_bytes, header_bytes, total_bytes, report_text, totals_of, report_bytes, report_size, reports, written, buffer_after}
use Rattle.rules.proofs.Steps.Passed.{sound, case-sound}
use Rattle.rules.proofs.Promised.Fits.{Fit, fits}

pub prices-length : (n : ℕ) (price : ℕ → ℤ) → length (price_bytes n price) ≡ 8 * n
unfolding price_bytes signed64
prices-length zero price = refl
prices-length (suc n) price = length-append (price_bytes n price) (signed64 (price n)) ∙ omega (arith, prices-length n price, bytes-length 8 (of_z w64 (price n)))

-- a report has 48 plus 8 times zones bytes
pub report-length : (n : ℕ) (c : Case) (p : Plan) (d : Prices) → length (report_bytes n c p d) ≡ report_size c
unfolding report_bytes report_text totals_of header_bytes total_bytes report_size signed64 bytes_of
report-length n c p d = omega (arith, prices-length c.zones (zone_price c d))

-- the price of zone z
last-price : (n : ℕ) (price : ℕ → ℤ) (rest : List ℕ) (z : ℕ) → z ≡ n → take 8 (drop (8 * z) (price_bytes n price ++ (signed64 (price n) ++ rest))) ≡ signed64 (price z)
unfolding signed64 bytes_of
last-price n price rest z e =
    let l : 8 * z ≡ length (price_bytes n price) = omega (arith, prices-length n price) in
    ap (λ (k : ℕ). take 8 (drop k (price_bytes n price ++ (signed64 (price n) ++ rest)))) l
    ∙ ap (λ (r : List ℕ). take 8 r) (drop-append_seam (price_bytes n price) (signed64 (price n) ++ rest))
    ∙ ap (λ (k : ℕ). signed64 (price k)) (sym e)

price-at : (n : ℕ) (price : ℕ → ℤ) (rest : List ℕ) (z : ℕ) → z < n → take 8 (drop (8 * z) (price_bytes n price ++ rest)) ≡ signed64 (price z)
unfolding price_bytes
price-at zero price rest z h = absurd (no_less z h)
  where
    no_less : (z : ℕ) → z < 0 → ⊥
    no_less z h = omega arith
price-at (suc n) price rest z h = ap (λ (l : List ℕ). take 8 (drop (8 * z) l)) (append_assoc (price_bytes n price) (signed64 (price n)) rest)
    ∙ elim (dec_lt z n) [ yes l ↦ price-at n price (signed64 (price n) ++ rest) z l | no g ↦ last-price n price rest z (omega arith) ]

pub price-stands : (number : ℕ) (c : Case) (p : Plan) (d : Prices) (rest : List ℕ) (z : ℕ) → z < c.zones
    → take 8 (drop (zone_price_at z) (report_bytes number c p d ++ rest)) ≡ signed64 (zone_price c d z)
unfolding report_bytes report_text totals_of header_bytes total_bytes signed64 bytes_of
price-stands number c p d rest z h =
    ap (λ (l : List ℕ). take 8 (drop (zone_price_at z) l)) (append_assoc (header_bytes number c.zones ++ total_bytes (totals_of c p d)) (price_bytes c.zones (zone_price c d)) rest)
    ∙ ap (λ (l : List ℕ). take 8 l) (drop-append-add (header_bytes number c.zones ++ total_bytes (totals_of c p d)) (price_bytes c.zones (zone_price c d) ++ rest) (8 * z))
    ∙ price-at c.zones (zone_price c d) rest z h

stands : (number : ℕ) (c : Case) (p : Plan) (d : Prices) (rest : List ℕ) → Fit c p d → Reported number c p d (report_bytes number c p d ++ rest)
unfolding report_bytes report_text totals_of header_bytes total_bytes i64_at signed64 bytes_of
stands number c p d rest f = record {
  mark-at = refl;
  version-at = refl;
  number_at = refl;
  zones-at = refl;
  zero-at = refl;
  welfare-at = number-signed64 (welfare c p) f.welfare-fits;
  bound-at = number-signed64 (bound c d) f.bound-fits;
  gap-at = number-signed64 (gap c p d) f.gap-fits;
  rent-at = number-signed64 (rent c p d) f.rent-fits;
  owed-at = number-signed64 (owed c d) f.owed-fits;
  price-at = λ z h. ap (λ (l : List ℕ). to_z w64 (number_of l)) (price-stands number c p d rest z h) ∙ number-signed64 (zone_price c d z) (f.zonePrice-fits z h);
}

on : {X : Type 0} (b : Bool) (x y : X) → T b → cond b x y ≡ x
on true x y t = refl
on false x y t = absurd t

off : {X : Type 0} (b : Bool) (x y : X) → T (not b) → cond b x y ≡ y
off true x y t = absurd t
off false x y t = refl

dec_t : (b : Bool) → Dec (T b)
dec_t true = yes tt
dec_t false = no (λ t. t)

module _ (s t buffer : List ℕ) where
  number : ℕ
  number = (outcome s t (length buffer)).number

  pub writes : T (reports (outcome s t (length buffer)).number)
      → buffer_after s t buffer ≡ report_bytes (outcome s t (length buffer)).number (case_of s) (plan_of s t) (prices_of s t) ++ drop (report_size (case_of s)) buffer
  unfolding buffer_after written
  writes r = on (reports (outcome s t (length buffer)).number) _ _ r

  -- verdict 0 or 26
  pub reported : T (reports (outcome s t (length buffer)).number) → Reported (outcome s t (length buffer)).number (case_of s) (plan_of s t) (prices_of s t) (buffer_after s t buffer)
  unfolding number
  reported r = rw (writes r) (stands number (case_of s) (plan_of s t) (prices_of s t) (drop (report_size (case_of s)) buffer) (fits s t (length buffer) r))

  -- all past the report is unchanged
  pub past-report : T (reports (outcome s t (length buffer)).number) → drop (report_size (case_of s)) (buffer_after s t buffer) ≡ drop (report_size (case_of s)) buffer
  unfolding number
  past-report r =
      ap (λ (l : List ℕ). drop (report_size (case_of s)) l) (writes r)
      ∙ ap (λ (k : ℕ). drop k (report ++ drop (report_size (case_of s)) buffer)) (sym (report-length number (case_of s) (plan_of s t) (prices_of s t)))
      ∙ drop-append_seam report (drop (report_size (case_of s)) buffer)
    where
      report : List ℕ
      report = report_bytes number (case_of s) (plan_of s t) (prices_of s t)

  -- any other verdict: all of it is unchanged
  pub unchanged : T (not (reports (outcome s t (length buffer)).number)) → buffer_after s t buffer ≡ buffer
  unfolding buffer_after written
  unchanged r = off (reports (outcome s t (length buffer)).number) _ _ r

  -- the buffer keeps its length
  pub same_length : length (buffer_after s t buffer) ≡ length buffer
  unfolding number report_size
  same_length = elim (dec_t (reports number)) [ yes r ↦ when-written r | no f ↦ ap length (unchanged (not_T (reports number) f)) ]
    where
      when-written : T (reports number) → length (buffer_after s t buffer) ≡ length buffer
      when-written r =
          ap length (writes r)
          ∙ length-append (report_bytes number (case_of s) (plan_of s t) (prices_of s t)) (drop (report_size (case_of s)) buffer)
          ∙ (omega (
            arith,
            report-length number (case_of s) (plan_of s t) (prices_of s t),
            length-drop (report_size (case_of s)) buffer,
            (sound s t (length buffer) r).enough-room,
            (case-sound s (sound s t (length buffer) r).readable).zones-in.1,
          ))
