-- Rows 6, 7 and 8 of a case (S-2) are rows over the fields of their part in file order: field n, with its test and
-- its offset. Assumes nothing.
use Rattle.std.specs.Prelude.{◌≡◌, List, [], ◌∷◌, ◌++◌, ℕ, ◌+◌}
use Rattle.std.proofs.Common.{sym, ap, ◌∙◌, arith}
use Rattle.base_causes.specs.Meaning.Causes.{Cause, cause_else, first_below, refusal}
use Rattle.base_causes.proofs.Promised.CauseLaws.{before, behind, else-refusal, refusal-append}
use Rattle.base_causes.proofs.Promised.InFileOrder.{each_in_order, field-by-field}
use Rattle.rules.specs.Meaning.Layout.{zones_in, branches_in, links_in, orders_in, branch_field_at, link_fields, link_field_at, order_fields, order_field_at}
use Rattle.rules.specs.Meaning.Hour.{case_of}
use Rattle.rules.specs.Meaning.Verdict.{branch_fault, link_fault, order_fault, bad_branch_field, case_causes, case_refusal}

abbrev pub field_causes : List ℕ → List Cause
field_causes s =
    each_in_order 6 (branches_in s) (1 + zones_in s) (branch_fault (case_of s)) (branch_field_at s)
    ∷ each_in_order 7 (links_in s) link_fields (link_fault (case_of s)) (link_field_at s)
    ∷ each_in_order 8 (orders_in s) order_fields (order_fault (case_of s)) (order_field_at s)
    ∷ []

follow : (r : Cause) (qs rs : List Cause) → refusal qs ≡ refusal rs → refusal (r ∷ qs) ≡ refusal (r ∷ rs)
unfolding refusal
follow r qs rs e = ap (cause_else r (first_below r.places r.fails)) e

pub case-field-by-field : (s : List ℕ) → case_refusal s ≡ refusal (before 6 (case_causes s (case_of s)) ++ (field_causes s ++ behind 8 (case_causes s (case_of s))))
unfolding case_refusal case_causes case_of before
case-field-by-field s =
    let rows = case_causes s (case_of s) in
    refusal-append (before 6 rows) (bad_branch_field s (case_of s) ∷ behind 6 rows)
    ∙ ap (else-refusal (refusal (before 6 rows))) (
    field-by-field 6 (branches_in s) (1 + zones_in s) (omega arith) (branch_fault (case_of s)) (branch_field_at s) (behind 6 rows)
    ∙ follow _ (behind 6 rows) (behind 6 (field_causes s)) (
    field-by-field 7 (links_in s) link_fields (omega arith) (link_fault (case_of s)) (link_field_at s) (behind 7 rows)
    ∙ follow _ (behind 7 rows) (behind 7 (field_causes s)) (field-by-field 8 (orders_in s) order_fields (omega arith) (order_fault (case_of s)) (order_field_at s) [])
    )
    )
    ∙ sym (refusal-append (before 6 rows) (field_causes s))
