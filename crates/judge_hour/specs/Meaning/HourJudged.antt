-- THE JUDGEMENT of a case s and a proposal t with a report buffer b: the verdict r is the verdict table's, and the
-- buffer b' afterwards is the report's. All that the entries promise follows from these two (`Promises`).
use Rattle.std.specs.Prelude.{◌≡◌, List, ℕ, length}
use Rattle.rules.specs.Meaning.Verdict.{outcome, family_outcome}
use Rattle.rules.specs.Meaning.Report.{buffer_after, family_buffer_after}
use Rattle.base_causes.specs.declared.Outcome.{Outcome}

pub record HourJudged (s t b : List ℕ) (r : Outcome) (b' : List ℕ) : Type 0 where
  pub verdict-is : r ≡ outcome s t (length b)
  pub buffer-is : b' ≡ buffer_after s t b

-- with the family list f (S-11)
pub record FamilyHourJudged (s t f b : List ℕ) (r : Outcome) (b' : List ℕ) : Type 0 where
  pub verdict-is : r ≡ family_outcome s t f (length b)
  pub buffer-is : b' ≡ family_buffer_after s t f b
