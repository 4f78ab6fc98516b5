-- `dump_proposal::first_not_finite` meets its contract: each value is there, and is finite or the first that is not.
use Rattle.std.proofs.Common.{◌≡◌, sym, ap, ◌∙◌, ◌+◌, ◌*◌, ℕ, List}
use Rattle.std.specs.Prelude.{Bool, not}
use Rattle.base_causes.proofs.Promised.CauseLaws.{first-here, first-later}
use Rattle.bytes_read.specs.declared.Cursor.{Cursor}
use Rattle.dump_binary64.specs.Meaning.Value.{bits_at, finite}
use Rattle.dump_proposal.proofs.Steps.Walks.{none_yet, value-took}
use Rattle.dump_proposal.proofs.first_not_finite.Goals as goal
use Rattle.dump_proposal.proofs.first_not_finite.Goals.{In-Some}

abbrev not_finite : List ℕ → ℕ → Bool
not_finite dump n = not (finite (bits_at dump n))

pub loop-n-init : goal.loop-n-init
loop-n-init c = record { at_value = ap (λ (x : Cursor). x.at) c.new-cursor.ensures; none_before = none_yet (not_finite c.args.dump.now) }

-- the value of this turn, and the cursor past it
took : (c : In-Some) → (c.in-Some.bits ≡ bits_at c.args.dump.now c.loop-n.n) × (c.in-Some.next.at ≡ 8 * (c.loop-n.n + 1))
took c = value-took c.args.dump.now c.loop-n.cursor.at c.loop-n.n c.loop-n.invariant.at_value (sym c.take.ensures ∙ c.in-Some.is)

pub returns-then-not-is_finite : goal.returns-then-not-is_finite
returns-then-not-is_finite c =
    let t = took (goal.at.returns-then-not-is_finite c).In-Some in
    let tested = ap not (ap finite (sym t.0) ∙ sym c.is_finite.ensures) in
    sym (first-here (not_finite c.args.dump.now) c.loop-n.n c.loop-n-test.true c.loop-n.invariant.none_before (tested ∙ ap not c.if-not-is_finite.true))

pub loop-n-preserved : goal.loop-n-preserved
loop-n-preserved c =
    let t = took (goal.at.loop-n-preserved c).In-Some in
    let tested = ap not (ap finite (sym t.0) ∙ sym c.is_finite.ensures) in
    record {
      at_value = t.1;
      none_before = first-later (not_finite c.args.dump.now) c.loop-n.n c.loop-n.invariant.none_before (tested ∙ ap not c.if-not-is_finite.false);
    }
