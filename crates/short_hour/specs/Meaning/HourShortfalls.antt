-- THE SHORTFALLS of a case s and a proposal t, with an output buffer out: the answer r, and the buffer afterwards.
use Rattle.std.specs.Prelude.{◌≡◌, List, ℕ, length, ℤ}
use Rattle.base_causes.specs.Meaning.Causes.{verdict}
use Rattle.rules.specs.Meaning.Hour.{case_of, plan_of, prices_of}
use Rattle.short_rules.specs.Meaning.Answer.{shortfall_outcome, shortfall_written, shortfall_output, Answers}
use Rattle.base_output.specs.declared.Written.{Written}

pub record HourShortfalls (s t : List ℕ) (out : List ℤ) (r : Written) (after : List ℤ) : Type 0 where
  pub outcome-is : verdict r.number r.index ≡ shortfall_outcome s t (length out)
  pub length-is : r.length ≡ length (shortfall_written s t (length out))
  pub output-is : after ≡ shortfall_output s t out
  pub answers : r.number ≡ 0 → Answers (case_of s) (plan_of s t) (prices_of s t) after
