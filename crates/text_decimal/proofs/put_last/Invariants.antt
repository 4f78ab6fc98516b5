-- `put_last`: after `pair` turns the last 2 * pair digits of n stand at the end, and `rest` is n without them.
-- Assumes nothing.
use Rattle.std.specs.Prelude.{◌≡◌, ◌+◌, ◌-◌, ◌*◌, ◌/◌, ◌^◌}
use Rattle.std.proofs.lemmas.List.Edits.{sets}
use Rattle.text_rules.specs.Meaning.Text.{last_digits}
use Rattle.text_decimal.proofs.put_last.Given as goal

abbrev pub invariant-loop-pair : goal.invariant-loop-pair
invariant-loop-pair l = (l.rest ≡ l.n / 10 ^ (2 * l.pair)) × (l.out ≡ sets l.fn.out (l.at + l.k - 2 * l.pair) (last_digits (2 * l.pair) l.n))
