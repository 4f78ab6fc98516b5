-- What reading a header answers: the refusal by rows 1 to 4 of the verdict table, or the counts and the cursor past
-- it. Assumes nothing.
use Rattle.std.specs.Prelude.{Bool, true, false, not, ◌&&◌, List, [], ◌∷◌, ℕ, length, eqb, pos, Result, Ok, Err}
use Rattle.std.proofs.Math.Option.{Option, none, some}
use Rattle.base_integers.specs.Meaning.Ranges.{outside}
use Rattle.base_limits.specs.Meaning.Limits as limits
use Rattle.rules.specs.Meaning.Layout.{case_header, case_version, zones_in, branches_in, links_in, orders_in, tolerance_in, zone_counts, branch_counts, link_counts, order_counts}
use Rattle.base_causes.specs.declared.Outcome.{Outcome}
use Rattle.base_causes.specs.Meaning.Causes.{Cause, verdict, once, field}
use Rattle.rules.specs.Meaning.Verdict.{◌under◌, differ, header_refusal}
use Rattle.bytes_read.specs.declared.Cursor.{Cursor}
use Rattle.bytes_read.specs.Meaning.Field.{cursor, mark_at}
use Rattle.case_header.specs.declared.Counts.{Counts}
use Rattle.case_header.specs.declared.Header.{Header}

abbrev pub counts_of : List ℕ → Counts
counts_of s = record { version = case_version s; zones = zones_in s; branches = branches_in s; links = links_in s; orders = orders_in s; tolerance = record { 0 = limits.microcents_of (pos (tolerance_in s)) } }

abbrev pub header_by : Counts → Cursor → Option Outcome → Result (Counts × Cursor) Outcome
header_by k past (some o) = Err o
header_by k past none = Ok (k, past)

abbrev pub header_answer : List ℕ → Result (Counts × Cursor) Outcome
header_answer s = header_by (counts_of s) (cursor case_header) (header_refusal s)

-- the header's fields in the file, and the cursor past them
abbrev pub header_in : List ℕ → Header
header_in s = record { mark = mark_at s 0; version = case_version s; zones = zones_in s; branches = branches_in s; links = links_in s; orders = orders_in s; tolerance = tolerance_in s; past = cursor case_header }

-- ROW 1, by its test
abbrev pub taken_by : Header → Bool → Result Header Outcome
taken_by h true = Err (verdict 1 0)
taken_by h false = Ok h

abbrev pub header_taken : List ℕ → Result Header Outcome
header_taken s = taken_by (header_in s) (length s under case_header)

-- ROWS 2 TO 4 of a header
abbrev pub header_causes : Header → List Cause
header_causes h =
    once 2 (not (eqb h.mark.0 76 && eqb h.mark.1 84 && eqb h.mark.2 67))
    ∷ once 3 (differ h.version 1 && differ h.version 2)
    ∷ field 4 5 (outside zone_counts (pos h.zones))
    ∷ field 4 6 (outside branch_counts (pos h.branches))
    ∷ field 4 7 (outside link_counts (pos h.links))
    ∷ field 4 8 (outside order_counts (pos h.orders))
    ∷ field 4 10 (outside limits.tolerance (pos h.tolerance))
    ∷ []

abbrev pub counts_in : Header → Counts
counts_in h = record { version = h.version; zones = h.zones; branches = h.branches; links = h.links; orders = h.orders; tolerance = record { 0 = limits.microcents_of (pos h.tolerance) } }
