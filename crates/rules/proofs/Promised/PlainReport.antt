-- THE REPORT IN PLAIN BYTES: what each byte of the buffer is after the answers 0 and 26, and that every other
-- answer leaves the buffer unchanged. `get_or b k 0` is the byte at place k of the buffer, counted from 0. Offsets
-- are the paper's own numbers. Assumes nothing.
use Rattle.std.specs.Prelude.{◌≡◌, refl, ◌⊎◌, ◌≢◌, Bool, true, false, not, ◌||◌, ℕ, ◌+◌, ◌*◌, ◌-◌, ◌/◌, ◌%◌, ◌^◌, ◌≤◌, ◌<◌, T, eqb, length, ℤ, pos, negsuc}
use Rattle.std.proofs.Math.Path.{sym, ap}
use Rattle.std.proofs.Common.{subst, ◌∙◌, inl, inr, arith, eqb→eq, get_or-take, SFits, of_z}
use mathlib.Core.List.{List, ◌++◌}
use Rattle.std.proofs.Math.Dec.{not_T}
use Rattle.std.proofs.Math.ListN.{get_or, take, drop}
use Rattle.std.proofs.Math.Seq.{get_or-drop}
use Rattle.std.specs.Int.{w64}
use Rattle.base_integers.specs.Meaning.Bytes.{bytes_of, signed64}
use Rattle.base_integers.specs.Steps.Bytes.{byte_at}
use Rattle.base_causes.specs.declared.Outcome.{Outcome}
use Rattle.rules.specs.Meaning.Layout.{zones_in, u8_at}
use Rattle.rules.specs.Meaning.Hour.{case_of, plan_of, prices_of, zone_price, welfare, owed, bound, gap, rent}
use Rattle.rules.specs.Meaning.Verdict.{outcome, family_outcome}
use Rattle.rules.specs.Meaning.Report.{header_bytes, total_bytes, report_text, totals_of, report_bytes, report_size, reports, buffer_after, family_buffer_after}
use Rattle.rules.proofs.Promised.Fits.{Fit, fits}
use Rattle.rules.proofs.Promised.Reported as Reported
use Rattle.rules.proofs.Promised.Families.{valued-alike, family-buffer, family-unchanged}
use Rattle.rules.specs.Promised.PlainReport.{ReportBytes, ReportOf, Stands, modulo64}

modulo-is : (z : ℤ) → SFits w64 z → of_z w64 z ≡ modulo64 z
modulo-is (pos n) f = omega (arith, f.sfits)
modulo-is (negsuc n) f = omega (arith, f.sfits)

eight : (b : List ℕ) (k : ℕ) (z : ℤ) → SFits w64 z → take 8 (drop k b) ≡ signed64 z → Stands b k z
unfolding signed64
eight b k z f e i h =
    sym (get_or-drop k b i 0) ∙ sym (get_or-take 8 (drop k b) i 0 h) ∙ ap (λ (l : List ℕ). get_or l i 0) e
    ∙ byte_at 8 (of_z w64 z) i h ∙ ap (λ (n : ℕ). n / 256 ^ i % 256) (modulo-is z f)

pub reports-of : (n : ℕ) → (n ≡ 0) ⊎ (n ≡ 26) → T (reports n)
unfolding reports
reports-of n (inl e) = subst (λ (k : ℕ). T (eqb k 0 || eqb k 26)) (sym e) tt
reports-of n (inr e) = subst (λ (k : ℕ). T (eqb k 0 || eqb k 26)) (sym e) tt

pub leaves_of : (n : ℕ) → n ≢ 0 → n ≢ 26 → T (not (reports n))
unfolding reports
leaves_of n a b = not_T (eqb n 0 || eqb n 26) (λ t. by (eqb n 0) refl t)
  where
    by : (x : Bool) → eqb n 0 ≡ x → T (x || eqb n 26) → ⊥
    by true e t = a (eqb→eq n 0 (subst T (sym e) tt))
    by false e t = b (eqb→eq n 26 t)

module _ (s t buffer : List ℕ) where
  report-stands : (number : ℕ) (rest : List ℕ) → Fit (case_of s) (plan_of s t) (prices_of s t) → (after : List ℕ) → after ≡ report_bytes number (case_of s) (plan_of s t) (prices_of s t) ++ rest
      → drop (report_size (case_of s)) after ≡ drop (report_size (case_of s)) buffer → length after ≡ length buffer → ReportBytes number s t buffer after
  unfolding report_bytes report_text totals_of header_bytes total_bytes report_size signed64 bytes_of zones_in u8_at case_of
  report-stands number rest f after e p l = record {
    mark-at = (ap (λ (b : List ℕ). get_or b 0 0) e, (ap (λ (b : List ℕ). get_or b 1 0) e, ap (λ (b : List ℕ). get_or b 2 0) e));
    version-at = (ap (λ (b : List ℕ). get_or b 3 0) e, ap (λ (b : List ℕ). get_or b 4 0) e);
    number_at = ap (λ (b : List ℕ). get_or b 5 0) e;
    zones-at = ap (λ (b : List ℕ). get_or b 6 0) e;
    zero-at = ap (λ (b : List ℕ). get_or b 7 0) e;
    welfare-at = eight after 8 (welfare (case_of s) (plan_of s t)) f.welfare-fits (ap (λ (b : List ℕ). take 8 (drop 8 b)) e);
    bound-at = eight after 16 (bound (case_of s) (prices_of s t)) f.bound-fits (ap (λ (b : List ℕ). take 8 (drop 16 b)) e);
    gap-at = eight after 24 (gap (case_of s) (plan_of s t) (prices_of s t)) f.gap-fits (ap (λ (b : List ℕ). take 8 (drop 24 b)) e);
    rent-at = eight after 32 (rent (case_of s) (plan_of s t) (prices_of s t)) f.rent-fits (ap (λ (b : List ℕ). take 8 (drop 32 b)) e);
    owed-at = eight after 40 (owed (case_of s) (prices_of s t)) f.owed-fits (ap (λ (b : List ℕ). take 8 (drop 40 b)) e);
    price-at = λ z h. eight after (48 + 8 * z) (zone_price (case_of s) (prices_of s t) z) (f.zonePrice-fits z h)
        (ap (λ (b : List ℕ). take 8 (drop (48 + 8 * z) b)) e ∙ Reported.price-stands number (case_of s) (plan_of s t) (prices_of s t) rest z h);
    past-it = λ k h. past k (48 + 8 * get_or s 5 0) h p;
    same_length = l;
  }
    where
      past : (k n : ℕ) → n ≤ k → drop n after ≡ drop n buffer → get_or after k 0 ≡ get_or buffer k 0
      past k n h q =
          let there : n + (k - n) ≡ k = omega (arith, h) in
          ap (λ (j : ℕ). get_or after j 0) (sym there) ∙ sym (get_or-drop n after (k - n) 0) ∙ ap (λ (b : List ℕ). get_or b (k - n) 0) q ∙ get_or-drop n buffer (k - n) 0 ∙ ap (λ (j : ℕ). get_or buffer j 0) there

  -- 0 AND 26 WRITE THE REPORT; it differs in the number alone
  pub report-written : ((outcome s t (length buffer)).number ≡ 0) ⊎ ((outcome s t (length buffer)).number ≡ 26)
      → ReportBytes (outcome s t (length buffer)).number s t buffer (buffer_after s t buffer)
  report-written h =
      let r = reports-of (outcome s t (length buffer)).number h in
      report-stands (outcome s t (length buffer)).number (drop (report_size (case_of s)) buffer) (fits s t (length buffer) r) (buffer_after s t buffer)
      (Reported.writes s t buffer r) (Reported.past-report s t buffer r) (Reported.same_length s t buffer)

  -- EVERY OTHER ANSWER leaves every byte unchanged
  pub report-left : (outcome s t (length buffer)).number ≢ 0 → (outcome s t (length buffer)).number ≢ 26 → buffer_after s t buffer ≡ buffer
  report-left a b = Reported.unchanged s t buffer (leaves_of (outcome s t (length buffer)).number a b)

  -- the same with a family list
  pub family-report-written : (f : List ℕ) → ((family_outcome s t f (length buffer)).number ≡ 0) ⊎ ((family_outcome s t f (length buffer)).number ≡ 26)
      → ReportBytes (family_outcome s t f (length buffer)).number s t buffer (family_buffer_after s t f buffer)
  family-report-written f h =
      let r = reports-of (family_outcome s t f (length buffer)).number h in
      let same = valued-alike s t f (length buffer) r in
      rw (family-buffer s t f buffer r, same) (report-written (subst (λ (o : Outcome). (o.number ≡ 0) ⊎ (o.number ≡ 26)) same h))

  pub family-report-left : (f : List ℕ) → (family_outcome s t f (length buffer)).number ≢ 0 → (family_outcome s t f (length buffer)).number ≢ 26 → family_buffer_after s t f buffer ≡ buffer
  family-report-left f a b = family-unchanged s t f buffer (leaves_of (family_outcome s t f (length buffer)).number a b)

module _ (s t before : List ℕ) {after : List ℕ} {number : ℕ} where
  pub report-of : number ≡ (outcome s t (length before)).number → after ≡ buffer_after s t before → ReportOf number s t before after
  report-of e q = rw (e, q) (record { written = report-written s t before; left = report-left s t before })

  pub family-report-of : (f : List ℕ) → number ≡ (family_outcome s t f (length before)).number → after ≡ family_buffer_after s t f before → ReportOf number s t before after
  family-report-of f e q = rw (e, q) (record { written = family-report-written s t before f; left = family-report-left s t before f })
