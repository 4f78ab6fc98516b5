-- What reading a family list answers, by rows 16 to 18 of the verdict table. Assumes nothing.
use Rattle.std.specs.Prelude.{Bool, true, false, ◌||◌, List, [], ◌∷◌, ℕ, length, ◌≡◌, ◌≤◌, Result, Ok, Err}
use Rattle.std.proofs.Math.Option.{Option, none, some}
use Rattle.base_causes.specs.declared.Outcome.{Outcome}
use Rattle.base_causes.specs.Meaning.Causes.{Cause, verdict, refusal, once, each}
use Rattle.bytes_read.specs.declared.Cursor.{Cursor}
use Rattle.bytes_read.specs.Meaning.Walk.{past_at}
use Rattle.rules.specs.Meaning.Families.{family_header, family_version, family_length, parent_of, missing, leads_back}
use Rattle.rules.specs.Meaning.Verdict.{differ, not_mark}
use Rattle.family_list.specs.Meaning.Parents.{Exist}

-- THE TESTS of the three rows, and the rows; of the case they use only the number of orders
abbrev pub wrong_list : List ℕ → ℕ → Bool
wrong_list f orders = not_mark 76 84 70 f || differ (family_version f) 1 || differ (length f) (family_length orders)

abbrev pub absent : List ℕ → ℕ → ℕ → Bool
absent f orders i = missing orders (parent_of f i)

abbrev pub list_cause : List ℕ → ℕ → Cause
list_cause f orders = once 16 (wrong_list f orders)

abbrev pub parent_cause : List ℕ → ℕ → Cause
parent_cause f orders = each 17 orders (absent f orders)

abbrev pub circle_cause : List ℕ → ℕ → Cause
circle_cause f orders = each 18 orders (leads_back orders (parent_of f))

-- the rows of the walk over the list, and all three
abbrev pub list_causes : List ℕ → ℕ → List Cause
list_causes f orders = list_cause f orders ∷ parent_cause f orders ∷ []

abbrev pub rows_beside : List ℕ → ℕ → List Cause
rows_beside f orders = list_cause f orders ∷ parent_cause f orders ∷ circle_cause f orders ∷ []

-- THE ANSWER
abbrev pub family_by : Option Outcome → Result Unit Outcome
family_by (some o) = Err o
family_by none = Ok tt

abbrev pub family_answer : List ℕ → ℕ → Result Unit Outcome
family_answer f orders = family_by (refusal (rows_beside f orders))

-- for row 18 alone
abbrev pub circle_answer : List ℕ → ℕ → Result Unit Outcome
circle_answer f orders = family_by (refusal (circle_cause f orders ∷ []))

-- the walk over the header, by the test of row 16
abbrev pub header_by : Bool → Result Cursor Outcome
header_by true = Err (verdict 16 0)
header_by false = past_at family_header

-- ROW 16 PASSED: the length is right, for at most 512 orders
pub record ListLengthValid (f : List ℕ) (orders : ℕ) : Type 0 where
  pub few : orders ≤ 512
  pub long : length f ≡ family_length orders

-- ROW 17 PASSED too: every named parent is an order
pub record FamiliesReadable (f : List ℕ) (orders : ℕ) : Type 0 where
  pub whole : ListLengthValid f orders
  pub exist : Exist orders (parent_of f)
