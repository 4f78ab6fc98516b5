-- A readable case with its counts, the two stages before it, and where the counts put its parts.
use Rattle.std.specs.Prelude.{◌≡◌, List, ℕ, ◌+◌, ◌*◌, ◌≤◌, length}
use Rattle.std.proofs.Math.Option.{none}
use Rattle.rules.specs.Meaning.Layout.{case_header, link_size, link_fields, order_size, order_fields, branch_field_at, link_field_at, order_field_at, case_length, zones_in, branches_in, links_in, orders_in}
use Rattle.rules.specs.Meaning.Hour.{case_of}
use Rattle.base_causes.specs.Meaning.Causes.{Cause, each_field}
use Rattle.rules.specs.Meaning.Verdict.{branch_fault, link_fault, order_fault, Readable, header_refusal}
use Rattle.case_header.specs.declared.Counts.{Counts}
use Rattle.case_header.specs.Meaning.Answer.{counts_of}

-- the counts of a readable case
pub record CaseReadable (s : List ℕ) (k : Counts) : Type 0 where
  pub readable : Readable s
  pub counts : k ≡ counts_of s

-- the counts of a header that passes rows 1 to 4
pub record HeaderValid (s : List ℕ) (k : Counts) : Type 0 where
  pub passed : header_refusal s ≡ none
  pub counts : k ≡ counts_of s

-- the counts of a case that passes row 5 too
pub record LengthValid (s : List ℕ) (k : Counts) : Type 0 where
  pub headed : HeaderValid s k
  pub whole : length s ≡ case_length s

pub record CountsInRange (k : Counts) : Type 0 where
  pub zones-in : k.zones ≤ 16
  pub branches-in : k.branches ≤ 64
  pub links-in : k.links ≤ 64
  pub orders-in : k.orders ≤ 512

-- where branch m, link l and order i begin, and the length demanded, from the counts
abbrev pub branch_start : Counts → ℕ → ℕ
branch_start k m = case_header + m * (4 + 4 * k.zones)

abbrev pub link_start : Counts → ℕ → ℕ
link_start k l = case_header + k.branches * (4 + 4 * k.zones) + l * link_size k.version

abbrev pub order_start : Counts → ℕ → ℕ
order_start k i = case_header + k.branches * (4 + 4 * k.zones) + k.links * link_size k.version + i * order_size

abbrev pub length_of : Counts → ℕ
length_of k = order_start k k.orders

-- ROWS 5 TO 8
abbrev pub branch_cause : List ℕ → Cause
branch_cause s = each_field 6 (branches_in s) (1 + zones_in s) (branch_fault (case_of s)) (branch_field_at s)

abbrev pub link_cause : List ℕ → Cause
link_cause s = each_field 7 (links_in s) link_fields (link_fault (case_of s)) (link_field_at s)

abbrev pub order_cause : List ℕ → Cause
order_cause s = each_field 8 (orders_in s) order_fields (order_fault (case_of s)) (order_field_at s)
