-- What a header's answer implies: it is taken where row 1 passes, and then rows 2 to 4 of its fields are the
-- table's. Assumes nothing.
use Rattle.std.specs.Prelude.{◌≡◌, refl, Bool, true, false, List, ℕ, length, Ok, Err}
use Rattle.std.proofs.Math.Option.{some}
use Rattle.rules.specs.Meaning.Layout.{case_header}
use Rattle.rules.specs.Meaning.Hour.{case_of}
use Rattle.base_causes.specs.declared.Outcome.{Outcome}
use Rattle.base_causes.specs.Meaning.Causes.{verdict, refusal}
use Rattle.base_causes.proofs.Promised.CauseLaws.{field-fails, field-passes}
use Rattle.rules.specs.Meaning.Verdict.{◌under◌, not_mark, header_refusal}
use Rattle.case_header.specs.declared.Header.{Header}
use Rattle.case_header.specs.Meaning.Answer.{header_in, taken_by, header_taken, header_causes}

-- A HEADER IS TAKEN where row 1 passes; then rows 2 to 4 of its fields are the table's
pub header-taken : (s : List ℕ) {h : Header} → header_taken s ≡ Ok h → (length s under case_header ≡ false) × (h ≡ header_in s)
header-taken s {h} e = by (length s under case_header) refl e
  where
    by : (b : Bool) → length s under case_header ≡ b → taken_by (header_in s) b ≡ Ok h → (length s under case_header ≡ false) × (h ≡ header_in s)
    by true q e = (cc, cc)
    by false q e = (q, cc)

pub header_refused : (s : List ℕ) {r : Outcome} → header_taken s ≡ Err r → (length s under case_header ≡ true) × (r ≡ verdict 1 0)
header_refused s {r} e = by (length s under case_header) refl e
  where
    by : (b : Bool) → length s under case_header ≡ b → taken_by (header_in s) b ≡ Err r → (length s under case_header ≡ true) × (r ≡ verdict 1 0)
    by true q e = (q, cc)
    by false q e = (cc, cc)

pub header-short : (s : List ℕ) → length s under case_header ≡ true → header_refusal s ≡ some (verdict 1 0)
unfolding header_refusal case_of not_mark
header-short s e = field-fails 1 0 (header_causes (header_in s)) e

pub header-long : (s : List ℕ) → length s under case_header ≡ false → header_refusal s ≡ refusal (header_causes (header_in s))
unfolding header_refusal case_of not_mark
header-long s e = field-passes 1 0 (header_causes (header_in s)) e
