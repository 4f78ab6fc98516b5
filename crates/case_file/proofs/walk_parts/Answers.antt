-- `case_file::walk_parts` meets its contract: the links are walked from where the branches end, the orders from
-- where the links end. Assumes nothing.
use Rattle.std.proofs.lemmas.Result.{err_from_is_err_and}
use Rattle.std.proofs.Common.{◌≡◌, ℕ, List, [], ◌∷◌, Err, sym, ap, ◌∙◌, arith}
use Rattle.std.proofs.Math.Nat.{zero-mul}
use Rattle.rules.specs.Meaning.Layout.{branch_size, branch_at, link_at, order_at, case_length}
use Rattle.bytes_read.specs.declared.Cursor.{Cursor}
use Rattle.bytes_read.specs.Meaning.Field.{cursor}
use Rattle.bytes_read.specs.Steps.Walked.{part-refused, part-passed, last-part}
use Rattle.case_header.specs.Meaning.CaseReadable.{branch_cause, link_cause, order_cause}
use Rattle.case_file.proofs.walk_parts.Goals as goal

branches-begin : (s : List ℕ) → 14 ≡ branch_at s 0
unfolding branch_at
branches-begin s = omega (arith, zero-mul (branch_size s))

pub walk_branches-requires : goal.walk_branches-requires
walk_branches-requires c = ap (λ (d : Cursor). d.at) c.requires ∙ branches-begin c.args.«case».bytes.now

pub returns : goal.returns
returns c =
    let s = c.args.«case».bytes.now in
    let end = cursor (case_length s) in
    c.walk_orders.ensures ∙ last-part (order_cause s) end
    ∙ part-passed (link_cause s) (order_cause s ∷ []) (cursor (order_at s 0)) end (sym c.walk_links.ensures ∙ c.in_ok-orders.was)
    ∙ part-passed (branch_cause s) (link_cause s ∷ order_cause s ∷ []) (cursor (link_at s 0)) end (sym c.walk_branches.ensures ∙ c.in_ok-links.was)

pub returns-in_err-orders : goal.returns-in_err-orders
returns-in_err-orders c =
    let s = c.args.«case».bytes.now in
    let end = cursor (case_length s) in
    let p = err_from_is_err_and c.from_residual-in_err-orders.result c.from_residual-in_err-orders.ensures.1 in
    p.1 ∙ ap Err p.2
    ∙ part-refused (link_cause s) (order_cause s ∷ []) (cursor (order_at s 0)) end (sym c.walk_links.ensures ∙ c.in_err-orders.was)
    ∙ part-passed (branch_cause s) (link_cause s ∷ order_cause s ∷ []) (cursor (link_at s 0)) end (sym c.walk_branches.ensures ∙ c.in_ok-links.was)

pub returns-in_err-links : goal.returns-in_err-links
returns-in_err-links c =
    let s = c.args.«case».bytes.now in
    let p = err_from_is_err_and c.from_residual.result c.from_residual.ensures.1 in
    p.1 ∙ ap Err p.2
    ∙ part-refused (branch_cause s) (link_cause s ∷ order_cause s ∷ []) (cursor (link_at s 0)) (cursor (case_length s)) (sym c.walk_branches.ensures ∙ c.in_err-links.was)
