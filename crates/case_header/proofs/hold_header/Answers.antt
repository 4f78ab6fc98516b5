-- `case_header::hold_header` meets its contract: one row of the table per test, in the table's order, until one
-- fails. Assumes nothing.
use Rattle.std.proofs.Common.{◌≡◌, ℕ, Bool, sym, ap, ◌∙◌}
use Rattle.std.specs.Prelude.{pos, Result, Ok, Err}
use Rattle.bytes_read.specs.declared.Cursor.{Cursor}
use Rattle.case_header.specs.declared.Counts.{Counts}
use Rattle.std.proofs.Math.Option.{none, some}
use Rattle.base_integers.specs.Meaning.Ranges.{Range, outside}
use Rattle.base_measures.specs.Steps.Held.{microcents-outside, microcents-held, money-tests}
use Rattle.rules.specs.Meaning.Layout.{zone_counts, branch_counts, link_counts, order_counts}
use Rattle.base_causes.specs.declared.Outcome.{Outcome}
use Rattle.base_causes.specs.Meaning.Causes.{refusal}
use Rattle.base_causes.proofs.Promised.CauseLaws.{Comes, clear, fails-at, none_left, once-fails, once-passes}
use Rattle.case_header.specs.declared.Header.{Header}
use Rattle.case_header.specs.Meaning.Answer.{counts_in, header_by, header_causes}
use Rattle.case_header.proofs.hold_header.Goals as goal

-- a refusal by the rows of a header
refused-by : (h : Header) {a : Result (Counts × Cursor) Outcome} {o : Outcome} → a ≡ Err o → Comes (header_causes h) (some o) → a ≡ header_by (counts_in h) h.past (refusal (header_causes h))
refused-by h e w = e ∙ ap (header_by (counts_in h) h.past) (sym w.is)

-- a count, tested by its range
counted : (r : Range) {b : Bool} {n m : ℕ} → b ≡ outside r (pos n) → n ≡ m → outside r (pos m) ≡ b
counted r e q = sym (e ∙ ap (λ (n : ℕ). outside r (pos n)) q)

pub returns-then-differs : goal.returns-then-differs
returns-then-differs c = refused-by c.args.h c.refused.ensures (fails-at 0 (once-fails (sym c.if-differs.ensures)))

pub returns-then-unknown_version : goal.returns-then-unknown_version
returns-then-unknown_version c =
    refused-by c.args.h c.refused-then-unknown_version.ensures
    (clear (once-passes (sym c.if-differs.ensures))
    (fails-at 0 (once-fails (sym c.if-unknown_version.ensures))))

pub returns-then-count_outside : goal.returns-then-count_outside
returns-then-count_outside c =
    refused-by c.args.h c.refused-then-count_outside.ensures
    (clear (once-passes (sym c.if-differs.ensures))
    (clear (once-passes (sym c.if-unknown_version.ensures))
    (fails-at 0 (once-fails (counted zone_counts c.if-count_outside.ensures c.from-zones.ensures)))))

pub returns-then-count_outside-2 : goal.returns-then-count_outside-2
returns-then-count_outside-2 c =
    refused-by c.args.h c.refused-then-count_outside-2.ensures
    (clear (once-passes (sym c.if-differs.ensures))
    (clear (once-passes (sym c.if-unknown_version.ensures))
    (clear (once-passes (counted zone_counts c.if-count_outside.ensures c.from-zones.ensures))
    (fails-at 0 (once-fails (counted branch_counts c.if-count_outside-2.ensures c.from-branches.ensures))))))

pub returns-then-count_outside-3 : goal.returns-then-count_outside-3
returns-then-count_outside-3 c =
    refused-by c.args.h c.refused-then-count_outside-3.ensures
    (clear (once-passes (sym c.if-differs.ensures))
    (clear (once-passes (sym c.if-unknown_version.ensures))
    (clear (once-passes (counted zone_counts c.if-count_outside.ensures c.from-zones.ensures))
    (clear (once-passes (counted branch_counts c.if-count_outside-2.ensures c.from-branches.ensures))
    (fails-at 0 (once-fails (counted link_counts c.if-count_outside-3.ensures c.from-links.ensures)))))))

pub returns-then-count_outside-4 : goal.returns-then-count_outside-4
returns-then-count_outside-4 c =
    refused-by c.args.h c.refused-then-count_outside-4.ensures
    (clear (once-passes (sym c.if-differs.ensures))
    (clear (once-passes (sym c.if-unknown_version.ensures))
    (clear (once-passes (counted zone_counts c.if-count_outside.ensures c.from-zones.ensures))
    (clear (once-passes (counted branch_counts c.if-count_outside-2.ensures c.from-branches.ensures))
    (clear (once-passes (counted link_counts c.if-count_outside-3.ensures c.from-links.ensures))
    (fails-at 0 (once-fails (counted order_counts c.if-count_outside-4.ensures c.from-orders.ensures))))))))

pub returns-in_default : goal.returns-in_default
returns-in_default c =
    let h = c.args.h in
    refused-by h c.refused-in_default.ensures
    (clear (once-passes (sym c.if-differs.ensures))
    (clear (once-passes (sym c.if-unknown_version.ensures))
    (clear (once-passes (counted zone_counts c.if-count_outside.ensures c.from-zones.ensures))
    (clear (once-passes (counted branch_counts c.if-count_outside-2.ensures c.from-branches.ensures))
    (clear (once-passes (counted link_counts c.if-count_outside-3.ensures c.from-links.ensures))
    (clear (once-passes (counted order_counts c.if-count_outside-4.ensures c.from-orders.ensures))
    (fails-at 0 (once-fails (sym (money-tests 1000000000 h.tolerance) ∙ microcents-outside _ _ (sym c.tolerance_of.ensures ∙ c.in_default.is))))))))))

pub returns : goal.returns
returns c =
    let h = c.args.h in
    let held = microcents-held _ _ c.in-Some.tolerance (sym c.tolerance_of.ensures ∙ c.in-Some.is) in
    let passed : Comes (header_causes h) none =
    clear (once-passes (sym c.if-differs.ensures))
    (clear (once-passes (sym c.if-unknown_version.ensures))
    (clear (once-passes (counted zone_counts c.if-count_outside.ensures c.from-zones.ensures))
    (clear (once-passes (counted branch_counts c.if-count_outside-2.ensures c.from-branches.ensures))
    (clear (once-passes (counted link_counts c.if-count_outside-3.ensures c.from-links.ensures))
    (clear (once-passes (counted order_counts c.if-count_outside-4.ensures c.from-orders.ensures))
    (clear (once-passes (sym (money-tests 1000000000 h.tolerance) ∙ held.0)) none_left)))))) in
    (λ j. Ok (
      record {
        version = h.version;
        zones = c.from-zones.ensures j;
        branches = c.from-branches.ensures j;
        links = c.from-links.ensures j;
        orders = c.from-orders.ensures j;
        tolerance = record { 0 = held.1 j };
      },
      h.past,
    ))
    ∙ ap (header_by (counts_in h) h.past) (sym passed.is)
