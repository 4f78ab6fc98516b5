-- What is promised of a judgement of the case s and the proposal t and of the report that it writes, a definition
-- for each clause. Assumes nothing.
use Rattle.std.specs.Prelude.{◌≡◌, List, ℕ, ◌*◌, ◌≤◌, ◌<◌, T, pos, ◌+ℤ◌, ◌-ℤ◌, ◌*ℤ◌, ◌≤ℤ◌}
use Rattle.std.proofs.Math.Option.{some}
use Rattle.rules.specs.Meaning.Hour.{Plan, case_of, plan_of, prices_of, welfare}
use Rattle.rules.specs.Meaning.Clearing.{Clearing}
use Rattle.rules.specs.Meaning.Families.{Fraction, parent_of, LeadsBack, accepted}
use Rattle.rules.specs.Meaning.Verdict.{outcome, family_outcome}
use Rattle.rules.specs.Meaning.Report.{Reported, reports, reported_welfare, reported_gap, reported_rent, reported_owed}

-- FOR 0 AND 26: each total and each zone price in the report's bytes is the integer that its rule gives
abbrev pub TotalsReported : List ℕ → List ℕ → ℕ → List ℕ → Type 0
TotalsReported s t room report = T (reports (outcome s t room).number) → Reported (outcome s t room).number (case_of s) (plan_of s t) (prices_of s t) report

-- FOR AN ACCEPTED HOUR, in the numbers of the report's bytes. It is itself an allowed clearing
abbrev pub Allowed : List ℕ → List ℕ → Type 0
Allowed s t = Clearing (case_of s) (plan_of s t)

-- THE ACCURACY RULE: every clearing, over any denominator, has a welfare of at most the reported welfare plus the
-- reported gap. In an hour without links these are the flow-based clearings, those of LTA share 0 (S-6;
-- `Clearing`).
abbrev pub Accurate : List ℕ → List ℕ → Type 0
Accurate s report = (q : Plan) → Clearing (case_of s) q → welfare (case_of s) q ≤ℤ (pos q.den *ℤ (reported_welfare report +ℤ reported_gap report))

-- 0 <= gap <= tolerance, in microcents; a cent has a million. The tolerance is at most 10,000 cents (S-12), so the
-- accuracy and coverage rules speak of such hours only. Both numbers are the paper's own, whatever the limits say.
abbrev pub GapWithin : List ℕ → List ℕ → Type 0
GapWithin s report = (pos 0 ≤ℤ reported_gap report) × ((reported_gap report ≤ℤ (pos 1000000 *ℤ pos (case_of s).tolerance)) × ((case_of s).tolerance ≤ 10000))

-- S-6: THE COVERAGE RULE SPEAKS OF HOURS WITH A LINK, and so does what it says at gap zero
abbrev pub HasLink : List ℕ → Type 0
HasLink s = 0 < (case_of s).links

-- THE COVERAGE RULE: rent >= owed - gap. It speaks of the new owed, on the contracted volumes (S-4); the accuracy
-- rule is unchanged.
abbrev pub Covered : List ℕ → Type 0
Covered report = (reported_owed report -ℤ reported_gap report) ≤ℤ reported_rent report

-- at gap zero the welfare is the best, and the holders are covered in full
abbrev pub Best : List ℕ → List ℕ → Type 0
Best s report = reported_gap report ≡ pos 0 → (q : Plan) → Clearing (case_of s) q → welfare (case_of s) q ≤ℤ (pos q.den *ℤ reported_welfare report)

abbrev pub CoveredInFull : List ℕ → Type 0
CoveredInFull report = reported_gap report ≡ pos 0 → reported_owed report ≤ℤ reported_rent report

-- S-11, A JUDGEMENT WITH THE FAMILY LIST f. The accuracy rule still compares with clearings free of families, and
-- the coverage rule is untouched. Only the totals belong to another outcome.
abbrev pub FamilyTotalsReported : List ℕ → List ℕ → List ℕ → ℕ → List ℕ → Type 0
FamilyTotalsReported s t f room report = T (reports (family_outcome s t f room).number) → Reported (family_outcome s t f room).number (case_of s) (plan_of s t) (prices_of s t) report

-- FOR AN ACCEPTED HOUR: one fraction is at most another, in whole numbers: child volume times parent quantity is at
-- most parent volume times child quantity
pub record FractionAtMost (a b : Fraction) : Type 0 where
  pub whole-positive : 0 < a.whole
  pub other-positive : 0 < b.whole
  pub at_most : a.part * b.whole ≤ b.part * a.whole

-- every parent in the list is an order, no order leads back to itself, and each child is accepted in at most the
-- fraction of its parent
pub record FamiliesKept (s t f : List ℕ) : Type 0 where
  pub parent-exists : (i j : ℕ) → i < (case_of s).orders → parent_of f i ≡ some j → j < (case_of s).orders
  pub none-leads-back : (i : ℕ) → i < (case_of s).orders → LeadsBack (parent_of f) i → ⊥
  pub within-parent : (i j : ℕ) → i < (case_of s).orders → parent_of f i ≡ some j → FractionAtMost (accepted (case_of s) (plan_of s t) i) (accepted (case_of s) (plan_of s t) j)
