-- The cursor stands at the parent of this turn, every earlier parent exists, and the array has their numbers.
use Rattle.std.proofs.Common.{◌≡◌, ◌+◌, ◌*◌}
use Rattle.std.proofs.Math.Option.{none}
use Rattle.base_causes.specs.Meaning.Causes.{first_below}
use Rattle.family_list.specs.Meaning.Answer.{absent}
use Rattle.family_list.specs.Steps.Parents.{ParentsTaken}
use Rattle.family_list.proofs.walk_parents.Given as goal

abbrev pub invariant-loop-i : goal.invariant-loop-i
invariant-loop-i l = record {
  place : l.cursor.at ≡ 5 + 2 * l.i;
  exist : first_below l.i (absent l.families l.orders) ≡ none;
  taken : ParentsTaken l.families l.i l.up;
}
