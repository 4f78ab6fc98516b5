-- The cursor stands past one number for each turn.
use Rattle.std.proofs.Common.{◌≡◌, ◌+◌, ◌*◌}
use Rattle.proposal_file.proofs.walk_numbers.Given as goal

abbrev pub invariant-loop : goal.invariant-loop
invariant-loop l = l.cursor.at ≡ l.fn.start.at + 4 * l.counter
