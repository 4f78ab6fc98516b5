-- The loop of `dump_proposal::first_not_finite`: the cursor stands at the value of this turn, and every value before it
-- is finite.
use Rattle.std.proofs.Common.{◌≡◌, ◌*◌}
use Rattle.std.specs.Prelude.{not}
use Rattle.std.proofs.Math.Option.{none}
use Rattle.base_causes.specs.Meaning.Causes.{first_below}
use Rattle.dump_binary64.specs.Meaning.Value.{bits_at, finite}
use Rattle.dump_proposal.proofs.first_not_finite.Given as goal

abbrev pub invariant-loop-n : goal.invariant-loop-n
invariant-loop-n l = record {
  at_value : l.cursor.at ≡ 8 * l.n;
  none_before : first_below l.n (λ n. not (finite (bits_at l.dump n))) ≡ none;
}
