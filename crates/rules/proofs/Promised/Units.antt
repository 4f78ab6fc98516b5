-- THE UNITS OF THE HOUR, in the paper's numbers. A MWh is ten tenths. Bought, it is worth its price in cents per
-- MWh times a million microcents; sold, it costs as much. The gap of an accepted hour is at most the tolerance, in
-- cents of a million microcents. Assumes nothing.
use Rattle.std.specs.Prelude.{◌≡◌, Bool, List, ℕ, ◌≤◌, length, ℤ, neg_ℤ, ◌+ℤ◌, ◌*ℤ◌, ◌≤ℤ◌}
use Rattle.std.proofs.Math.Path.{ap}
use Rattle.std.proofs.Common.{◌∙◌, arith, eq-eqb}
use Rattle.std.proofs.Math.Bool.{true, false}
use Rattle.std.proofs.Math.Dec.{eqb}
use Rattle.std.proofs.Math.IntN.{pos}
use Rattle.base_integers.specs.Steps.Difference.{at, ◌⊕◌, ◌⊗◌, ⊝◌, eq-by}
use Rattle.base_integers.specs.Meaning.Sums.{sum_to}
use Rattle.rules.specs.Meaning.Layout.{tolerance_in}
use Rattle.rules.specs.Meaning.Hour.{Case, Plan, case_of, buys, signed, order_welfare, welfare}
use Rattle.rules.specs.Meaning.Verdict.{outcome}
use Rattle.rules.specs.Meaning.Report.{reported_gap, buffer_after}
use Rattle.rules.proofs.Promised.Guarantee.{demand-3}

module _ (c : Case) (p : Plan) (one : c.orders ≡ 1) (ten : p.volume 0 ≡ 10) where
  one-order : (b : Bool) → buys c 0 ≡ b → welfare c p ≡ pos 100000 *ℤ (pos 0 +ℤ signed b (pos 10 *ℤ c.price 0))
  unfolding welfare order_welfare sum_to
  one-order b e = ap (λ (n : ℕ). pos 100000 *ℤ sum_to n (λ i. order_welfare c p i)) one ∙ (λ j. pos 100000 *ℤ (pos 0 +ℤ signed (e j) (pos (ten j) *ℤ c.price 0)))

  -- TEN TENTHS AT A PRICE IN CENTS
  pub bought-mwh : c.side 0 ≡ 0 → welfare c p ≡ pos 1000000 *ℤ c.price 0
  unfolding buys
  bought-mwh side = one-order true (eq-eqb (c.side 0) 0 side) ∙ eq-by (at (pos 100000) ⊗ (at (pos 0) ⊕ at (pos 10) ⊗ at (c.price 0))) (at (pos 1000000) ⊗ at (c.price 0)) (omega arith)

  pub sold-mwh : c.side 0 ≡ 1 → welfare c p ≡ neg_ℤ (pos 1000000 *ℤ c.price 0)
  unfolding buys
  sold-mwh side = one-order false (ap (λ (n : ℕ). eqb n 0) side) ∙ eq-by (at (pos 100000) ⊗ (at (pos 0) ⊕ ⊝◌ (at (pos 10) ⊗ at (c.price 0)))) (⊝◌ (at (pos 1000000) ⊗ at (c.price 0))) (omega arith)

-- THE GAP OF AN ACCEPTED HOUR, from the report's bytes
pub gap-in-cents : (s t buffer : List ℕ) → (outcome s t (length buffer)).number ≡ 0
    → (pos 0 ≤ℤ reported_gap (buffer_after s t buffer)) × ((reported_gap (buffer_after s t buffer) ≤ℤ (pos 1000000 *ℤ pos (tolerance_in s))) × (tolerance_in s ≤ 10000))
unfolding case_of
gap-in-cents s t buffer e = (demand-3 s t buffer (record { answer = e })).gap-in
