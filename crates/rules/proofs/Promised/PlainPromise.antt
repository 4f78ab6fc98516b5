-- WHAT IS PROMISED, SPELT OUT in offsets of the report and of the case: each clause of `Promise` is equivalent to
-- its line here. `i64_at b k` is the signed number in the eight bytes from place k on. Assumes nothing.
use Rattle.std.specs.Prelude.{◌≡◌, refl, ◌↔◌, ◌⊎◌, List, [], ◌∷◌, ℕ, ◌+◌, ◌*◌, ◌≤◌, ◌<◌, get_or, take, pos, ◌+ℤ◌, ◌-ℤ◌, ◌*ℤ◌, ◌≤ℤ◌}
use Rattle.base_integers.specs.Meaning.Bytes.{i64_at}
use Rattle.rules.specs.Meaning.Layout.{u8_at, zones_in, links_in, orders_in, tolerance_in}
use Rattle.rules.specs.Meaning.Hour.{Plan, case_of, plan_of, prices_of, zone_price, welfare, owed, bound, gap, rent}
use Rattle.rules.specs.Meaning.Clearing.{Clearing}
use Rattle.rules.specs.Meaning.Verdict.{outcome, family_outcome}
use Rattle.rules.specs.Meaning.Report.{Reported}
use Rattle.rules.specs.Meaning.Promise.{TotalsReported, FamilyTotalsReported, Allowed, Accurate, GapWithin, HasLink, Covered, Best, CoveredInFull, FamiliesKept}
use Rattle.rules.proofs.Promised.PlainReport.{reports-of}
use Rattle.rules.proofs.Promised.PlainFamilies.{parent_at, ParentsExist, ChildrenWithin, Round, has-parent, leads-back-is}

module _ (s t b : List ℕ) where
  pub allowed-is : Allowed s t ↔ Clearing (case_of s) (plan_of s t)
  allowed-is = (λ h. h, λ h. h)

  -- no clearing, over any denominator, has more than welfare (at 8) and gap (at 24) together
  pub accurate-is : Accurate s b ↔ ((q : Plan) → Clearing (case_of s) q → welfare (case_of s) q ≤ℤ (pos q.den *ℤ (i64_at b 8 +ℤ i64_at b 24)))
  accurate-is = (λ h. h, λ h. h)

  pub gap-within-is : GapWithin s b ↔ ((pos 0 ≤ℤ i64_at b 24) × ((i64_at b 24 ≤ℤ (pos 1000000 *ℤ pos (tolerance_in s))) × (tolerance_in s ≤ 10000)))
  unfolding case_of
  gap-within-is = (λ h. h, λ h. h)

  pub has-link-is : HasLink s ↔ (0 < get_or s 7 0)
  unfolding case_of links_in u8_at
  has-link-is = (λ h. h, λ h. h)

  -- owed (at 40) less the gap is at most the rent (at 32)
  pub covered-is : Covered b ↔ ((i64_at b 40 -ℤ i64_at b 24) ≤ℤ i64_at b 32)
  covered-is = (λ h. h, λ h. h)

  pub best-is : Best s b ↔ (i64_at b 24 ≡ pos 0 → (q : Plan) → Clearing (case_of s) q → welfare (case_of s) q ≤ℤ (pos q.den *ℤ i64_at b 8))
  best-is = (λ h. h, λ h. h)

  pub covered-in-full-is : CoveredInFull b ↔ (i64_at b 24 ≡ pos 0 → i64_at b 40 ≤ℤ i64_at b 32)
  covered-in-full-is = (λ h. h, λ h. h)

-- WHAT A REPORT HOLDS for 0 and 26, read from its bytes
pub record ReportRead (number : ℕ) (s t b : List ℕ) : Type 0 where
  pub mark-is : take 3 b ≡ 76 ∷ 84 ∷ 82 ∷ []
  pub version-is : get_or b 3 0 + 256 * get_or b 4 0 ≡ 1
  pub number_is : get_or b 5 0 ≡ number
  pub zones-are : get_or b 6 0 ≡ get_or s 5 0
  pub zero_is : get_or b 7 0 ≡ 0
  pub welfare-is : i64_at b 8 ≡ welfare (case_of s) (plan_of s t)
  pub bound-is : i64_at b 16 ≡ bound (case_of s) (prices_of s t)
  pub gap_is : i64_at b 24 ≡ gap (case_of s) (plan_of s t) (prices_of s t)
  pub rent-is : i64_at b 32 ≡ rent (case_of s) (plan_of s t) (prices_of s t)
  pub owed-is : i64_at b 40 ≡ owed (case_of s) (prices_of s t)
  pub price-is : (z : ℕ) → z < get_or s 5 0 → i64_at b (48 + 8 * z) ≡ zone_price (case_of s) (prices_of s t) z

reported-is : (number : ℕ) (s t b : List ℕ) → Reported number (case_of s) (plan_of s t) (prices_of s t) b → ReportRead number s t b
unfolding case_of zones_in u8_at
reported-is number s t b r = record {
  mark-is = r.mark-at;
  version-is = r.version-at;
  number_is = r.number_at;
  zones-are = r.zones-at;
  zero_is = r.zero-at;
  welfare-is = r.welfare-at;
  bound-is = r.bound-at;
  gap_is = r.gap-at;
  rent-is = r.rent-at;
  owed-is = r.owed-at;
  price-is = r.price-at;
}

pub totals-reported-are : (s t : List ℕ) (room : ℕ) (b : List ℕ) → TotalsReported s t room b
    → ((outcome s t room).number ≡ 0) ⊎ ((outcome s t room).number ≡ 26) → ReportRead (outcome s t room).number s t b
totals-reported-are s t room b h n = reported-is (outcome s t room).number s t b (h (reports-of (outcome s t room).number n))

pub family-totals-reported-are : (s t f : List ℕ) (room : ℕ) (b : List ℕ) → FamilyTotalsReported s t f room b
    → ((family_outcome s t f room).number ≡ 0) ⊎ ((family_outcome s t f room).number ≡ 26) → ReportRead (family_outcome s t f room).number s t b
family-totals-reported-are s t f room b h n = reported-is (family_outcome s t f room).number s t b (h (reports-of (family_outcome s t f room).number n))

-- WITH A FAMILY LIST: every parent exists, no order leads back to itself, and child volume times parent quantity is
-- at most parent volume times child quantity
pub families-kept-are : (s t f : List ℕ) → FamiliesKept s t f → ParentsExist f (orders_in s) × (((i : ℕ) → i < orders_in s → Round f i → ⊥) × ChildrenWithin s t f)
unfolding case_of plan_of
families-kept-are s t f k = (
  λ i h n. k.parent-exists i (parent_at f i) h ((has-parent f i (parent_at f i)).1 (refl, n)),
  (λ i h r. k.none-leads-back i h ((leads-back-is f i).1 r), λ i h n. (k.within-parent i (parent_at f i) h ((has-parent f i (parent_at f i)).1 (refl, n))).at_most),
)
